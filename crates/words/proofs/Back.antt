-- There and back: what is encoded is decoded again, and what is decoded is encoded again. Assumes nothing.
use Rattle.std.proofs.Common.{◌≡◌, ℕ, zero, suc, ◌+◌, ◌*◌, ◌<◌, ◌≤◌, List, length, get_or, take, drop, ℤ, pos, sym, refl, ◌∙◌, ap₂, add_assoc, arith, length-drop, length-take-le, get_or-drop, get_or-take, ext_get_or, w64, SFits}
use Rattle.words.specs.Words.{word_at, with_word}
use Rattle.words.specs.Tables.{decoded_into, encoded_into}
use Rattle.words.proofs.Words.{word_alike, word_again}
use Rattle.words.proofs.Tables.{length_decoded, decoded_at, encoded_at}

length_part : {A : Type 0} (l : List A) (a n : ℕ) → a + n ≤ length l → length (take n (drop a l)) ≡ n
length_part l a n h = length-take-le n (drop a l) (rw length-drop (omega arith))

-- two parts of n elements are equal when they agree at each index
pub part_ext : {A : Type 0} (d : A) (l₁ l₂ : List A) (a₁ a₂ n : ℕ) → a₁ + n ≤ length l₁ → a₂ + n ≤ length l₂ → ((i : ℕ) → i < n → get_or l₁ (a₁ + i) d ≡ get_or l₂ (a₂ + i) d) → take n (drop a₁ l₁) ≡ take n (drop a₂ l₂)
part_ext d l₁ l₂ a₁ a₂ n h₁ h₂ f =
    let e : length (take n (drop a₁ l₁)) ≡ n = length_part l₁ a₁ n h₁ in
    ext_get_or d (take n (drop a₁ l₁)) (take n (drop a₂ l₂)) (e ∙ sym (length_part l₂ a₂ n h₂))
    (λ i y.
    let k : i < n = omega arith in
    get_or-take n (drop a₁ l₁) i d k ∙ get_or-drop a₁ l₁ i d ∙ f i k ∙ sym (get_or-take n (drop a₂ l₂) i d k ∙ get_or-drop a₂ l₂ i d))

-- ---- what is decoded depends on the bytes alone, and what is encoded on the numbers alone

pub decoded_alike : (t₁ : List ℤ) (to₁ : ℕ) (t₂ : List ℤ) (to₂ : ℕ) (b₁ : List ℕ) (at₁ : ℕ) (b₂ : List ℕ) (at₂ n : ℕ) → to₁ + n ≤ length t₁ → to₂ + n ≤ length t₂ → ((k : ℕ) → k < 8 * n → get_or b₁ (at₁ + k) 0 ≡ get_or b₂ (at₂ + k) 0) → take n (drop to₁ (decoded_into t₁ to₁ b₁ at₁ n)) ≡ take n (drop to₂ (decoded_into t₂ to₂ b₂ at₂ n))
decoded_alike t₁ to₁ t₂ to₂ b₁ at₁ b₂ at₂ n h₁ h₂ f =
    part_ext (pos 0) (decoded_into t₁ to₁ b₁ at₁ n) (decoded_into t₂ to₂ b₂ at₂ n) to₁ to₂ n
    (rw length_decoded h₁) (rw length_decoded h₂)
    (λ i l.
    decoded_at t₁ to₁ b₁ at₁ n i (pos 0) h₁ l
    ∙ word_alike b₁ b₂ (at₁ + 8 * i) (at₂ + 8 * i) (λ k y. rw (add_assoc at₁ (8 * i) k, add_assoc at₂ (8 * i) k) (f (8 * i + k) (omega arith)))
    ∙ sym (decoded_at t₂ to₂ b₂ at₂ n i (pos 0) h₂ l))

pub encoded_alike : (b : List ℕ) (at : ℕ) (t₁ : List ℤ) (from₁ : ℕ) (t₂ : List ℤ) (from₂ n : ℕ) → ((i : ℕ) → i < n → get_or t₁ (from₁ + i) (pos 0) ≡ get_or t₂ (from₂ + i) (pos 0)) → encoded_into b at t₁ from₁ n ≡ encoded_into b at t₂ from₂ n
unfolding encoded_into
encoded_alike b at t₁ from₁ t₂ from₂ zero f = refl
encoded_alike b at t₁ from₁ t₂ from₂ (suc n) f =
    ap₂ (λ (c : List ℕ) (x : ℤ). with_word c (at + 8 * n) x)
    (encoded_alike b at t₁ from₁ t₂ from₂ n (λ i l. f i (omega arith)))
    (f n (omega arith))

-- ---- decoding the words just encoded gives back the numbers

module _ (t₂ : List ℤ) (to : ℕ) (b : List ℕ) (at : ℕ) (t : List ℤ) (from n : ℕ) (hb : at + 8 * n ≤ length b) (h₂ : to + n ≤ length t₂) where
  pub decoded_encoded_at : (i : ℕ) (d : ℤ) → i < n → SFits w64 (get_or t (from + i) (pos 0)) → get_or (decoded_into t₂ to (encoded_into b at t from n) at n) (to + i) d ≡ get_or t (from + i) (pos 0)
  decoded_encoded_at i d l f =
      decoded_at t₂ to (encoded_into b at t from n) at n i d h₂ l ∙ encoded_at b at t from n i hb l f

  pub decoded_encoded : from + n ≤ length t → ((i : ℕ) → i < n → SFits w64 (get_or t (from + i) (pos 0))) → take n (drop to (decoded_into t₂ to (encoded_into b at t from n) at n)) ≡ take n (drop from t)
  decoded_encoded h f =
      part_ext (pos 0) (decoded_into t₂ to (encoded_into b at t from n) at n) t to from n
      (rw length_decoded h₂) h
      (λ i l. decoded_encoded_at i (pos 0) l (f i l))

-- ---- encoding the words of b over b changes nothing

pub encoded_again : (b : List ℕ) (at : ℕ) (t : List ℤ) (from n : ℕ) → ((k : ℕ) → get_or b k 0 < 256) → ((i : ℕ) → i < n → get_or t (from + i) (pos 0) ≡ word_at b (at + 8 * i)) → encoded_into b at t from n ≡ b
unfolding encoded_into
encoded_again b at t from zero f g = refl
encoded_again b at t from (suc n) f g =
    ap₂ (λ (c : List ℕ) (x : ℤ). with_word c (at + 8 * n) x) (encoded_again b at t from n f (λ i l. g i (omega arith))) (g n (omega arith))
    ∙ word_again b (at + 8 * n) f

pub encoded_decoded : (b : List ℕ) (at : ℕ) (t : List ℤ) (to n : ℕ) → to + n ≤ length t → ((k : ℕ) → get_or b k 0 < 256) → encoded_into b at (decoded_into t to b at n) to n ≡ b
encoded_decoded b at t to n h f =
    encoded_again b at (decoded_into t to b at n) to n f (λ i l. decoded_at t to b at n i (pos 0) h l)
