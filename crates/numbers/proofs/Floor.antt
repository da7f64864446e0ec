-- Division rounded towards minus infinity. Assumes nothing.
use mathlib.Core.Path.{◌≡◌, refl, sym, ap, ◌∙◌}
use mathlib.Core.Bool.{Bool, true, false}
use Prim.Native.Nat.{ℕ, suc, ◌+◌, ◌-◌, ◌*◌, ◌/◌, ◌%◌, ◌≤◌, ◌<◌}
use native.Mathlib.Nat.{div-add-mod', mod-lt, add-mul, suc-mul, zero-mul, mul-zero, mul-div_cancel, div-lt_iff_lt-mul, le-div_iff_mul-le}
use native.Mathlib.Omega.{arith}
use borrow.Author.Tests.{ltb-true, ltb-false, lt-ltb, le-ltb}
use lib.Arith.{digits_div}
use lib.Dec.{ltb}
use lib.IntN.{ℤ, pos, negsuc, sub_ℕ, ◌+ℤ◌, ◌*ℤ◌}
use Rattle.numbers.specs.Shares.{floor_div, floor_part}
use Rattle.numbers.proofs.Integers.{up, dn, eq_z, difference_split, add_fact, sub_fact, mul_fact}

-- floor((u - m n) / n) is u / n - m: a number that is raised by a multiple of n rounds alike
pub floor_shift : (u m n : ℕ) → 0 < n → floor_div (sub_ℕ u (m * n)) n ≡ sub_ℕ (u / n) m
floor_shift u m n p = go (ltb u (m * n)) refl
  where
    go : (t : Bool) → ltb u (m * n) ≡ t → floor_div (sub_ℕ u (m * n)) n ≡ sub_ℕ (u / n) m
    go true e =
        let l : u < m * n = ltb-true u (m * n) e in
        let lq : u / n < m = (div-lt_iff_lt-mul p).1 l in
        let k : ℕ = m - suc (u / n) in
        let mn : m * n ≡ k * n + (u / n * n + n) = ap (λ (x : ℕ). x * n) (split_m lq) ∙ add-mul k (suc (u / n)) n ∙ ap (λ (x : ℕ). k * n + x) (suc-mul (u / n) n) in
        let w : m * n - suc u ≡ k * n + (n - suc (u % n)) = omega (arith, div-add-mod' u n, mod-lt u p) in
        rw (e, lt-ltb (u / n) m lq, w) (ap negsuc (digits_div k (omega (arith, mod-lt u p))))
      where
        split_m : u / n < m → m ≡ m - suc (u / n) + suc (u / n)
        split_m h = omega arith
    go false e =
        let l : m * n ≤ u = ltb-false u (m * n) e in
        let lq : m ≤ u / n = (le-div_iff_mul-le p).1 l in
        let k : ℕ = u / n - m in
        let mn : u / n * n ≡ k * n + m * n = ap (λ (x : ℕ). x * n) (split_q lq) ∙ add-mul k m n in
        let w : u - m * n ≡ k * n + u % n = omega (arith, div-add-mod' u n) in
        rw (e, le-ltb (u / n) m lq, w) (ap pos (digits_div k (mod-lt u p)))
      where
        split_q : m ≤ u / n → u / n ≡ u / n - m + m
        split_q h = omega arith

-- what is left over is 0 to n - 1
div_rest : (z : ℤ) (n : ℕ) → 0 < n → (r : ℕ) × ((r < n) × (z ≡ floor_div z n *ℤ pos n +ℤ pos r))
div_rest (pos a) n p = (a % n, (mod-lt a p, ap pos (sym (div-add-mod' a n))))
div_rest (negsuc a) n p = (
  n - suc (a % n),
  (
    omega (arith, mod-lt a p),
    eq_z _ _ (omega (arith, div-add-mod' a n, mod-lt a p, suc-mul (a / n) n, add_fact (negsuc (a / n) *ℤ pos n) (pos (n - suc (a % n))), mul_fact (negsuc (a / n)) n, zero-mul n)),
  ),
)

module _ (E : ℤ) (n : ℕ) (p : 0 < n) where
  -- rounded down, and by less than one
  pub floor_rest : (k : ℕ) → (r : ℕ) × ((r < n) × (E *ℤ pos k ≡ floor_part E n k *ℤ pos n +ℤ pos r))
  unfolding floor_part
  floor_rest k = div_rest (E *ℤ pos k) n p

  pub floor_all : floor_part E n n ≡ E
  unfolding floor_part
  floor_all =
      ap (λ (x : ℤ). floor_div x n) (eq_z (E *ℤ pos n) (sub_ℕ (up E * n) (dn E * n)) (omega (arith, mul_fact E n, sub_fact (up E * n) (dn E * n))))
      ∙ floor_shift (up E * n) (dn E) n p
      ∙ ap (λ (x : ℕ). sub_ℕ x (dn E)) (mul-div_cancel (up E) p)
      ∙ sym (difference_split E)

  pub floor_none : floor_part E n 0 ≡ pos 0
  unfolding floor_part
  floor_none =
      ap (λ (x : ℤ). floor_div x n) (eq_z (E *ℤ pos 0) (sub_ℕ (0 * n) (0 * n)) (omega (arith, mul_fact E 0, mul-zero (up E), mul-zero (dn E), sub_fact (0 * n) (0 * n))))
      ∙ floor_shift (0 * n) 0 n p
      ∙ ap (λ (x : ℕ). sub_ℕ x 0) (mul-div_cancel 0 p)
