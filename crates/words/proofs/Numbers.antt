-- Numbers of any width as bytes: what is written is read back, and the rest stays. Assumes nothing.
use Rattle.std.proofs.Common.{◌≡◌, ℕ, zero, suc, ◌+◌, ◌-◌, ◌*◌, ◌/◌, ◌%◌, ◌^◌, ◌<◌, ◌≤◌, ◌⊎◌, List, [], ◌∷◌, ◌++◌, length, get_or, take, drop, set, sym, refl, ap, ◌∙◌, ap₂, inl, inr, ⊎_elim, add-zero, add-one, add_assoc, append_assoc, mod-eq_of_lt, mul_assoc, suc-add, pow-suc, zero-add, div-one, arith, lit<, length-set, get_or-set_other, get_or-set_same, drop-set-lt, w64}
use Rattle.std.specs.Int.{byte_at, bytes_low_first, to_le_bytes, from_le_bytes}
use Rattle.std.proofs.lemmas.List.{drop-drop, take-append-drop}
use native.Mathlib.Nat.{pow-succ', one-le-pow, mod-one, mul-zero, div-div-eq-div-mul}
use lib.Arith.{mod-mul}
use lib.Seq.{take-set-le, take-suc-set, set-get_or}
use Rattle.words.specs.Words.{number_at, with_number}

pub length_number : (b : List ℕ) (at w n : ℕ) → length (with_number b at w n) ≡ length b
unfolding with_number
length_number b at zero n = refl
length_number b at (suc w) n = length_number (set b at (n % 256)) (at + 1) w (n / 256) ∙ length-set b at (n % 256)

-- ---- bytes before and after the number stay

pub take_number : (b : List ℕ) (at w n m : ℕ) → m ≤ at → take m (with_number b at w n) ≡ take m b
unfolding with_number
take_number b at zero n m h = refl
take_number b at (suc w) n m h =
    take_number (set b at (n % 256)) (at + 1) w (n / 256) m (omega arith) ∙ take-set-le m b at (n % 256) h

pub drop_number : (b : List ℕ) (at w n m : ℕ) → at + w ≤ m → drop m (with_number b at w n) ≡ drop m b
unfolding with_number
drop_number b at zero n m h = refl
drop_number b at (suc w) n m h =
    drop_number (set b at (n % 256)) (at + 1) w (n / 256) m (omega arith) ∙ drop-set-lt m b at (n % 256) (omega arith)

pub byte_number : (b : List ℕ) (at w n k : ℕ) → (k < at) ⊎ (at + w ≤ k) → get_or (with_number b at w n) k 0 ≡ get_or b k 0
unfolding with_number
byte_number b at zero n k h = refl
byte_number b at (suc w) n k h =
    byte_number (set b at (n % 256)) (at + 1) w (n / 256) k (⊎_elim (λ (l : k < at). inl (omega arith)) (λ (g : at + suc w ≤ k). inr (omega arith)) h)
    ∙ get_or-set_other b at k (n % 256) 0 (λ (e : k ≡ at). ⊎_elim (λ (l : k < at). omega arith) (λ (g : at + suc w ≤ k). omega arith) h)

-- ---- a number depends on its bytes alone

pub number_alike : (b₁ b₂ : List ℕ) (at₁ at₂ w : ℕ) → ((k : ℕ) → k < w → get_or b₁ (at₁ + k) 0 ≡ get_or b₂ (at₂ + k) 0) → number_at b₁ at₁ w ≡ number_at b₂ at₂ w
unfolding number_at
number_alike b₁ b₂ at₁ at₂ zero f = refl
number_alike b₁ b₂ at₁ at₂ (suc w) f =
    ap₂ (λ (x y : ℕ). x + 256 * y)
    (rw (add-zero at₁, add-zero at₂) at (f 0 (omega arith)))
    (number_alike b₁ b₂ (at₁ + 1) (at₂ + 1) w (λ k l. rw (add_assoc at₁ 1 k, add_assoc at₂ 1 k) (f (1 + k) (omega arith))))

-- so one that lies apart from what is written stays
pub number_apart : (b : List ℕ) (at w n j v : ℕ) → (j + v ≤ at) ⊎ (at + w ≤ j) → number_at (with_number b at w n) j v ≡ number_at b j v
number_apart b at w n j v h =
    number_alike (with_number b at w n) b j j v
    (λ k y. byte_number b at w n (j + k) (⊎_elim (λ (l : j + v ≤ at). inl (omega arith)) (λ (g : at + w ≤ j). inr (omega arith)) h))

-- ---- the number is read back

pub number_same : (b : List ℕ) (at w n : ℕ) → at + w ≤ length b → number_at (with_number b at w n) at w ≡ n % 256 ^ w
unfolding number_at with_number
number_same b at zero n h = sym (mod-one n)
number_same b at (suc w) n h =
    let s = set b at (n % 256) in
    let long : length s ≡ length b = length-set b at (n % 256) in
    let first : get_or (with_number s (at + 1) w (n / 256)) at 0 ≡ n % 256 = byte_number s (at + 1) w (n / 256) at (inl (omega arith)) ∙ get_or-set_same b at (n % 256) 0 (omega arith) in
    let rest : number_at (with_number s (at + 1) w (n / 256)) (at + 1) w ≡ n / 256 % 256 ^ w = number_same s (at + 1) w (n / 256) (omega arith) in
    omega (arith, first, rest, mod-mul n {m = 256 ^ w} {c = 256} (one-le-pow w 256 (lit< tt)) (lit< tt), ap (λ (x : ℕ). n % x) (pow-suc 256 w))

pub number_back : (b : List ℕ) (at w n : ℕ) → at + w ≤ length b → n < 256 ^ w → number_at (with_number b at w n) at w ≡ n
number_back b at w n h f = number_same b at w n h ∙ mod-eq_of_lt f

-- ---- a number of v + w bytes is one of v bytes and one of w bytes

pub number_add : (b : List ℕ) (at v w : ℕ) → number_at b at (v + w) ≡ number_at b at v + 256 ^ v * number_at b (at + v) w
unfolding number_at
number_add b at zero w = rw (zero-add w, add-zero at) (omega arith)
number_add b at (suc v) w =
    let e : at + 1 + v ≡ at + suc v = omega arith in
    let rest = number_at b (at + suc v) w in
    let step : number_at b (at + 1) (v + w) ≡ number_at b (at + 1) v + 256 ^ v * rest = rw e at (number_add b (at + 1) v w) in
    let wide : 256 ^ suc v * rest ≡ 256 * (256 ^ v * rest) = ap (λ (x : ℕ). x * rest) (pow-succ' 256 v) ∙ mul_assoc 256 (256 ^ v) rest in
    rw suc-add (omega (arith, step, wide))

pub with_add : (b : List ℕ) (at v w n : ℕ) → with_number b at (v + w) n ≡ with_number (with_number b at v n) (at + v) w (n / 256 ^ v)
unfolding with_number
with_add b at zero w n = rw (zero-add w, add-zero at, div-one n)
with_add b at (suc v) w n =
    let e : at + 1 + v ≡ at + suc v = omega arith in
    let q : n / 256 / 256 ^ v ≡ n / 256 ^ suc v = div-div-eq-div-mul n 256 (256 ^ v) ∙ ap (λ (x : ℕ). n / x) (sym (pow-succ' 256 v)) in
    rw suc-add (rw (e, q) at (with_add (set b at (n % 256)) (at + 1) v w (n / 256)))

-- ---- of bytes below 256

pub number_below : (b : List ℕ) (at w : ℕ) → ((k : ℕ) → get_or b k 0 < 256) → number_at b at w < 256 ^ w
unfolding number_at
number_below b at zero f = lit< tt
number_below b at (suc w) f =
    omega (arith, f at, number_below b (at + 1) w f, pow-suc 256 w)

-- writing what was read changes nothing
pub number_again : (b : List ℕ) (at w : ℕ) → ((k : ℕ) → get_or b k 0 < 256) → with_number b at w (number_at b at w) ≡ b
unfolding number_at with_number
number_again b at zero f = refl
number_again b at (suc w) f =
    let n = get_or b at 0 + 256 * number_at b (at + 1) w in
    let lo : n % 256 ≡ get_or b at 0 = omega (arith, f at) in
    let hi : n / 256 ≡ number_at b (at + 1) w = omega (arith, f at) in
    rw (lo, hi, set-get_or b at 0) (number_again b (at + 1) w f)

-- ---- the eight bytes of a number, as std converts them

number_none : (at w : ℕ) → number_at [] at w ≡ 0
unfolding number_at
number_none at zero = refl
number_none at (suc w) = omega (arith, number_none (at + 1) w)

-- eight bytes, the first n read from b and the others 0
pub eight_number : (b bytes : List ℕ) (at n : ℕ) → n ≤ 8 → ((k : ℕ) → k < n → get_or bytes k 0 ≡ get_or b (at + k) 0) → ((k : ℕ) → n ≤ k → get_or bytes k 0 ≡ 0)
    → from_le_bytes w64 bytes ≡ number_at b at n
unfolding number_at
eight_number b bytes at n l front back =
    let first : number_at bytes 0 n ≡ number_at b at n = number_alike bytes b 0 at n (λ k h. rw zero-add (front k h)) in
    let rest : number_at bytes n (8 - n) ≡ 0 = number_alike bytes [] n 0 (8 - n) (λ k h. back (n + k) (omega arith)) ∙ number_none 0 (8 - n) in
    let whole : n + (8 - n) ≡ 8 = omega arith in
    let parts = rw (whole, zero-add n) at (number_add bytes 0 n (8 - n)) in
    let eight : from_le_bytes w64 bytes ≡ number_at bytes 0 8 = omega arith in
    eight ∙ parts ∙ rw (rest, first, mul-zero, add-zero)

later_bytes : (i w n : ℕ) → bytes_low_first (suc i) w n ≡ bytes_low_first i w (n / 256)
later_bytes i zero n = refl
later_bytes zero (suc w) n = ap (λ (xs : List ℕ). n / 256 % 256 ∷ xs) (later_bytes 1 w n)
later_bytes (suc i) (suc w) n = ap₂ (λ (x : ℕ) (xs : List ℕ). x % 256 ∷ xs) (sym (div-div-eq-div-mul n 256 (256 ^ suc i) ∙ ap (λ (x : ℕ). n / x) (sym (pow-succ' 256 (suc i))))) (later_bytes (suc (suc i)) w n)

pub first_bytes : (i w k n : ℕ) → w ≤ k → take w (bytes_low_first i k n) ≡ bytes_low_first i w n
first_bytes i zero k n h = refl
first_bytes i (suc w) zero n h = absurd (omega arith)
first_bytes i (suc w) (suc k) n h = ap (λ (xs : List ℕ). byte_at i n ∷ xs) (first_bytes (suc i) w k n (omega arith))

number_bytes : (b : List ℕ) (at w n : ℕ) → at + w ≤ length b → with_number b at w n ≡ take at b ++ (bytes_low_first 0 w n ++ drop (at + w) b)
unfolding with_number
number_bytes b at zero n h = rw add-zero (sym (take-append-drop at b))
number_bytes b at (suc w) n h =
    let s = set b at (n % 256) in
    let long : length s ≡ length b = length-set b at (n % 256) in
    let e : at + 1 + w ≡ at + suc w = omega arith in
    number_bytes s (at + 1) w (n / 256) (omega arith)
    ∙ rw (e, add-one, take-suc-set b at (n % 256) (omega arith), drop-set-lt (at + suc w) b at (n % 256) (omega arith), later_bytes 0 w n, append_assoc)

-- the w lowest bytes of eight, in the place of those that b has there
pub number_eight : (b ys : List ℕ) (at w k n : ℕ) → w ≤ 8 → at + w ≤ length b → k ≡ w → ys ≡ take w (to_le_bytes w64 n)
    → take at b ++ (ys ++ drop k (drop at b)) ≡ with_number b at w n
number_eight b ys at w k n l h e p =
    rw (p, first_bytes 0 w 8 n l, e, drop-drop) (sym (number_bytes b at w n h))
