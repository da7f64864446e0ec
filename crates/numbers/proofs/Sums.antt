-- Sums over a range: they add up, and they telescope, shown once for any function of the index. Assumes nothing.
use mathlib.Core.Path.{◌≡◌, refl, sym, ◌∙◌, ap, ap₂}
use mathlib.Core.Bool.{Bool, true, false, cond}
use Prim.Native.Nat.{ℕ, zero, suc, ◌+◌, ◌-◌, ◌*◌, ◌≤◌, ◌<◌}
use native.Mathlib.Omega.{arith}
use native.Mathlib.Nat.{add-zero}
use lib.IntN.{ℤ, pos, sub_ℕ, ◌+ℤ◌, ◌-ℤ◌, +ℤ_idl, +ℤ_idr, +ℤ_assoc}
use Rattle.numbers.specs.Sums.{sum_from, sum_over}
use Rattle.numbers.proofs.Integers.{eq_z, add_fact, minus_fact, sub_fact, add_swap}

pub sum_none : (f : ℕ → ℤ) (a : ℕ) → sum_from f a 0 ≡ pos 0
unfolding sum_from
sum_none f a = refl

-- the same terms
pub sum_same : (f g : ℕ → ℤ) (a n : ℕ) → ((d : ℕ) → a ≤ d → d < a + n → f d ≡ g d) → sum_from f a n ≡ sum_from g a n
unfolding sum_from
sum_same f g a zero h = refl
sum_same f g a (suc n) h =
    ap₂ ◌+ℤ◌ (h a (omega arith) (omega arith)) (sum_same f g (suc a) n (λ d p q. h d (omega arith) (omega arith)))

-- nothing to add
pub sum_zero : (f : ℕ → ℤ) (a n : ℕ) → ((d : ℕ) → a ≤ d → d < a + n → f d ≡ pos 0) → sum_from f a n ≡ pos 0
unfolding sum_from
sum_zero f a zero h = refl
sum_zero f a (suc n) h =
    ap₂ ◌+ℤ◌ (h a (omega arith) (omega arith)) (sum_zero f (suc a) n (λ d p q. h d (omega arith) (omega arith)))

-- term by term
pub sum_plus : (f g : ℕ → ℤ) (a n : ℕ) → sum_from (λ d. f d +ℤ g d) a n ≡ sum_from f a n +ℤ sum_from g a n
unfolding sum_from
sum_plus f g a zero = refl
sum_plus f g a (suc n) =
    ap (λ s. (f a +ℤ g a) +ℤ s) (sum_plus f g (suc a) n) ∙ add_swap (f a) (g a) (sum_from f (suc a) n) (sum_from g (suc a) n)

-- cut after the first m terms
pub sum_split : (f : ℕ → ℤ) (a m n : ℕ) → sum_from f a (m + n) ≡ sum_from f a m +ℤ sum_from f (a + m) n
unfolding sum_from
sum_split f a zero n = let e : 0 + n ≡ n = omega arith in rw (e, add-zero) (sym (+ℤ_idl _))
sum_split f a (suc m) n =
    let e : suc m + n ≡ suc (m + n) = omega arith in
    let k : a + suc m ≡ suc a + m = omega arith in
    rw (e, k, sum_split f (suc a) m n) (sym (+ℤ_assoc (f a) (sum_from f (suc a) m) (sum_from f (suc a + m) n)))

-- one more at the end, for a loop that adds up
pub sum_more : (f : ℕ → ℤ) (a n : ℕ) → sum_from f a (n + 1) ≡ sum_from f a n +ℤ f (a + n)
unfolding sum_from
sum_more f a n = sum_split f a n 1 ∙ ap (λ z. sum_from f a n +ℤ z) (+ℤ_idr (f (a + n)))

-- the same for a loop that adds up terms raised by m
pub sum_raised : (f : ℕ → ℤ) (m a n acc u : ℕ) → sum_from f a n ≡ sub_ℕ acc (m * n) → sub_ℕ u m ≡ f (a + n) → sum_from f a (n + 1) ≡ sub_ℕ (acc + u) (m * (n + 1))
sum_raised f m a n acc u h e =
    sum_more f a n
    ∙ ap₂ ◌+ℤ◌ h (sym e)
    ∙ eq_z _ _ (omega (arith, add_fact (sub_ℕ acc (m * n)) (sub_ℕ u m), sub_fact acc (m * n), sub_fact u m, sub_fact (acc + u) (m * (n + 1)), one_more m n))
  where
    one_more : (m n : ℕ) → m * (n + 1) ≡ m * n + m
    one_more m n = omega arith

-- counted from the next index
pub sum_shift : (f : ℕ → ℤ) (a n : ℕ) → sum_from f (suc a) n ≡ sum_from (λ d. f (suc d)) a n
unfolding sum_from
sum_shift f a zero = refl
sum_shift f a (suc n) = ap (λ s. f (suc a) +ℤ s) (sum_shift f (suc a) n)

-- two sums change places
pub sum_swap : (f : ℕ → ℕ → ℤ) (k m a n : ℕ) → sum_from (λ u. sum_from (f u) a n) k m ≡ sum_from (λ d. sum_from (λ u. f u d) k m) a n
unfolding sum_from
sum_swap f k m a zero = sum_zero (λ u. pos 0) k m (λ d p q. refl)
sum_swap f k m a (suc n) =
    sum_plus (λ u. f u a) (λ u. sum_from (f u) (suc a) n) k m ∙ ap (λ s. sum_from (λ u. f u a) k m +ℤ s) (sum_swap f k m (suc a) n)

-- a to b and b + 1 to c are a to c
pub sum_over_split : (f : ℕ → ℤ) (a b c : ℕ) → a ≤ b → b ≤ c → sum_over f a c ≡ sum_over f a b +ℤ sum_over f (suc b) c
sum_over_split f a b c h k =
    let e : suc c - a ≡ (suc b - a) + (suc c - suc b) = omega arith in
    let l : a + (suc b - a) ≡ suc b = omega arith in
    rw e (sum_split f a (suc b - a) (suc c - suc b) ∙ ap (λ d. sum_from f a (suc b - a) +ℤ sum_from f d (suc c - suc b)) l)

-- differences of neighbours leave the two ends, for any g
pub telescope : (g : ℕ → ℤ) (a n : ℕ) → sum_from (λ d. g (suc d) -ℤ g d) a n ≡ g (a + n) -ℤ g a
unfolding sum_from
telescope g a zero = rw add-zero (eq_z _ _ (omega (arith, minus_fact (g a) (g a))))
telescope g a (suc n) =
    let k : a + suc n ≡ suc a + n = omega arith in
    rw (k, telescope g (suc a) n) (chain (g a) (g (suc a)) (g (suc a + n)))
  where
    chain : (x y z : ℤ) → (y -ℤ x) +ℤ (z -ℤ y) ≡ z -ℤ x
    chain x y z =
        eq_z _ _ (omega (arith, add_fact (y -ℤ x) (z -ℤ y), minus_fact y x, minus_fact z y, minus_fact z x))

-- one day
pub sum_one : (f : ℕ → ℤ) (d : ℕ) → sum_from f d (d + 1 - d) ≡ f d
unfolding sum_from
sum_one f d = let e : d + 1 - d ≡ 1 = omega arith in rw e (+ℤ_idr (f d))

-- all of the terms or none
pub sum_if : (t : Bool) (f : ℕ → ℤ) (a n : ℕ) → sum_from (λ d. cond t (f d) (pos 0)) a n ≡ cond t (sum_from f a n) (pos 0)
sum_if true f a n = refl
sum_if false f a n = sum_zero _ a n (λ d h k. refl)

-- ---- a loop that adds up, from index 0 on: one more term, and the end

module _ (f : ℕ → ℤ) (m k acc : ℕ) where
  -- terms raised by m
  pub sum_turn : (u : ℕ) → sum_from f 0 k ≡ sub_ℕ acc (m * k) → sub_ℕ u m ≡ f k → sum_from f 0 (k + 1) ≡ sub_ℕ (acc + u) (m * (k + 1))
  sum_turn u h e = let z : k ≡ 0 + k = omega arith in sum_raised f m 0 k acc u h (e ∙ ap f z)

  pub sum_end : (n : ℕ) → sum_from f 0 k ≡ sub_ℕ acc (m * k) → k ≡ n → sub_ℕ acc (m * n) ≡ sum_from f 0 n
  sum_end n h e = rw (← e) (sym h)

-- naturals
pub count_turn : (f : ℕ → ℤ) (k acc u : ℕ) → sum_from f 0 k ≡ pos acc → pos u ≡ f k → sum_from f 0 (k + 1) ≡ pos (acc + u)
count_turn f k acc u h e = let z : k ≡ 0 + k = omega arith in sum_more f 0 k ∙ ap₂ ◌+ℤ◌ h (sym (e ∙ ap f z))
