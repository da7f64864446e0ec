-- Signed words: what is written is read back, and the rest stays. Assumes nothing.
use Rattle.std.proofs.Common.{◌≡◌, ℕ, ◌+◌, ◌-◌, ◌<◌, ◌≤◌, ◌⊎◌, List, length, get_or, take, drop, ℤ, sym, ap, ◌∙◌, subst, ⊎_elim, eq-zero-or-pos, arith, to_z-of_z, w64, SFits, to_z, of_z, le-ltb}
use mir.Facts.{of_z-to_z, to_z_pos, Fits-of_z, Fits-of_lt}
use Rattle.words.specs.Words.{number_at, with_number, word_at, with_word}
use Rattle.words.proofs.Numbers.{length_number, take_number, drop_number, byte_number, number_alike, number_apart, number_back, number_below, number_again}

pub length_word : (b : List ℕ) (at : ℕ) (x : ℤ) → length (with_word b at x) ≡ length b
unfolding with_word
length_word b at x = length_number b at 8 (of_z w64 x)

-- ---- bytes before and after the word stay, and so does every number that lies apart from it

pub take_word : (b : List ℕ) (at : ℕ) (x : ℤ) (m : ℕ) → m ≤ at → take m (with_word b at x) ≡ take m b
unfolding with_word
take_word b at x m h = take_number b at 8 (of_z w64 x) m h

pub drop_word : (b : List ℕ) (at : ℕ) (x : ℤ) (m : ℕ) → at + 8 ≤ m → drop m (with_word b at x) ≡ drop m b
unfolding with_word
drop_word b at x m h = drop_number b at 8 (of_z w64 x) m h

pub byte_word : (b : List ℕ) (at : ℕ) (x : ℤ) (k : ℕ) → (k < at) ⊎ (at + 8 ≤ k) → get_or (with_word b at x) k 0 ≡ get_or b k 0
unfolding with_word
byte_word b at x k h = byte_number b at 8 (of_z w64 x) k h

pub number_apart_word : (b : List ℕ) (at : ℕ) (x : ℤ) (j v : ℕ) → (j + v ≤ at) ⊎ (at + 8 ≤ j) → number_at (with_word b at x) j v ≡ number_at b j v
unfolding with_word
number_apart_word b at x j v h = number_apart b at 8 (of_z w64 x) j v h

pub word_apart : (b : List ℕ) (at : ℕ) (x : ℤ) (j : ℕ) → (j + 8 ≤ at) ⊎ (at + 8 ≤ j) → word_at (with_word b at x) j ≡ word_at b j
unfolding word_at
word_apart b at x j h = ap (to_z w64) (number_apart_word b at x j 8 h)

-- a word depends on its bytes alone
pub word_alike : (b₁ b₂ : List ℕ) (at₁ at₂ : ℕ) → ((k : ℕ) → k < 8 → get_or b₁ (at₁ + k) 0 ≡ get_or b₂ (at₂ + k) 0) → word_at b₁ at₁ ≡ word_at b₂ at₂
unfolding word_at
word_alike b₁ b₂ at₁ at₂ f = ap (to_z w64) (number_alike b₁ b₂ at₁ at₂ 8 f)

-- ---- the word is read back

pub word_same : (b : List ℕ) (at : ℕ) (x : ℤ) → at + 8 ≤ length b → SFits w64 x → word_at (with_word b at x) at ≡ x
unfolding word_at with_word
word_same b at x h f =
    ap (to_z w64) (number_back b at 8 (of_z w64 x) h (Fits-of_z f).fits) ∙ to_z-of_z f

-- writing the word that was read changes nothing
pub word_again : (b : List ℕ) (at : ℕ) → ((k : ℕ) → get_or b k 0 < 256) → with_word b at (word_at b at) ≡ b
unfolding word_at with_word
word_again b at f =
    ap (with_number b at 8) (of_z-to_z (Fits-of_lt {w = w64} (number_below b at 8 f))) ∙ number_again b at 8 f

-- ---- every word that is read fits, whatever the bytes are

fits_any : (n : ℕ) → SFits w64 (to_z w64 n)
fits_any n =
    let half : ℕ = 9223372036854775808 in
    ⊎_elim
    (λ (e : half - n ≡ 0). rw (le-ltb n half (omega arith)) (record { sfits = omega arith }))
    (λ (p : 0 < half - n). let h : n < half = omega arith in subst (SFits w64) (sym (to_z_pos w64 h)) (record { sfits = h }))
    (eq-zero-or-pos (half - n))

pub word_fits : (b : List ℕ) (at : ℕ) → SFits w64 (word_at b at)
unfolding word_at
word_fits b at = fits_any (number_at b at 8)
