-- The combinator `all`: what a checking loop and its callers need of it. Assumes nothing.
use mathlib.Core.Path.{◌≡◌, refl, sym, ◌∙◌, ap, ap₂}
use mathlib.Core.Bool.{Bool, true, false, ◌&&◌, and-false}
use Prim.Native.Nat.{ℕ, zero, suc, ◌+◌, ◌<◌}
use native.Mathlib.Omega.{arith}
use native.Mathlib.Numerals.{add-one}
use native.Mathlib.Nat.{eq-or-lt_of_le, le_of_suc-le-suc, not-suc-le-zero}
use mathlib.Core.Logic.{⊎_elim}
use Rattle.numbers.specs.Rows.{all}

module _ (p : ℕ → Bool) where
  -- a loop that counts up, with the invariant `all p i ≡ true`: its start, its turn, where the test fails, its end
  pub all_none : all p 0 ≡ true
  unfolding all
  all_none = refl

  pub all_more : (i : ℕ) → all p i ≡ true → p i ≡ true → all p (i + 1) ≡ true
  unfolding all
  all_more i h e = rw (add-one, e, h)

  pub all_fails : (i n : ℕ) → i < n → p i ≡ false → all p n ≡ false
  unfolding all
  all_fails i zero l e = absurd (not-suc-le-zero l)
  all_fails i (suc n) l e =
      ⊎_elim (λ (q : i ≡ n). rw (← q, e)) (λ k. rw (all_fails i n k e) (and-false (p n))) (eq-or-lt_of_le (le_of_suc-le-suc l))

  pub all_done : (i n : ℕ) → all p i ≡ true → i ≡ n → true ≡ all p n
  all_done i n h e = rw (← e, h)

  -- a passed test, at each index
  pub all_at : (n : ℕ) → all p n ≡ true → (i : ℕ) → i < n → p i ≡ true
  all_at n h i l = go (p i) refl
    where
      go : (b : Bool) → p i ≡ b → p i ≡ true
      go true e = e
      go false e = let z : true ≡ false = sym h ∙ all_fails i n l e in cc

  -- and back
  pub all_of : (n : ℕ) → ((i : ℕ) → i < n → p i ≡ true) → all p n ≡ true
  unfolding all
  all_of zero h = refl
  all_of (suc n) h = rw (h n (omega arith), all_of n (λ i l. h i (omega arith)))

  -- the test of the first index, taken off
  pub all_front : (n : ℕ) → all p (suc n) ≡ (p 0 && all (λ i. p (suc i)) n)
  unfolding all
  all_front zero = refl
  all_front (suc n) = ap (λ b. p (suc n) && b) (all_front n) ∙ swap (p (suc n)) (p 0) (all (λ i. p (suc i)) n)
    where
      swap : (a b c : Bool) → (a && (b && c)) ≡ (b && (a && c))
      swap true b c = refl
      swap false b c = sym (and-false b)

-- the same tests give the same
pub all_same : (p q : ℕ → Bool) (n : ℕ) → ((i : ℕ) → i < n → p i ≡ q i) → all p n ≡ all q n
unfolding all
all_same p q zero h = refl
all_same p q (suc n) h = ap₂ ◌&&◌ (h n (omega arith)) (all_same p q n (λ i l. h i (omega arith)))
