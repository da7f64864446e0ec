-- Shares of an entry add up to its energy, by the one telescope, and the code's raised parts are these. Assumes nothing.
use mathlib.Core.Path.{◌≡◌, refl, sym, ap, ap₂, ◌∙◌}
use mathlib.Core.Bool.{Bool, true, false}
use Prim.Native.Nat.{ℕ, ◌+◌, ◌-◌, ◌*◌, ◌/◌, ◌≤◌, ◌<◌}
use native.Mathlib.Nat.{div-le_of_le-mul, le-div_iff_mul-le, mul-le-mul, mul-le-mul_right, mul-add, mul_comm, add-mul}
use native.Mathlib.Omega.{arith}
use borrow.Author.Tests.{leb-true, leb-false}
use lib.Dec.{leb}
use lib.IntN.{ℤ, pos, neg_ℤ, sub_ℕ, ◌+ℤ◌, ◌-ℤ◌, ◌*ℤ◌, +ℤ_idr, neg_ℤ-neg_ℤ}
use Rattle.numbers.specs.InnerEnergies.{energy_of}
use Rattle.numbers.specs.Sums.{sum_from}
use Rattle.numbers.specs.Shares.{floor_div, floor_part, ceil_part, partial_energy, share}
use Rattle.numbers.proofs.Integers.{up, dn, eq_z, sub_fact, neg_fact, add_fact, minus_fact, mul_fact, neg_mul, raised_same}
use Rattle.numbers.proofs.Sums.{telescope}
use Rattle.numbers.proofs.Floor.{floor_shift, floor_rest, floor_all, floor_none}

-- none of the days have nothing, all of them have all
pub partial_none : (E : ℤ) (n : ℕ) → 0 < n → partial_energy E n 0 ≡ pos 0
unfolding partial_energy ceil_part
partial_none E n p = ap neg_ℤ (floor_none (neg_ℤ E) n p)

pub partial_all : (E : ℤ) (n : ℕ) → 0 < n → partial_energy E n n ≡ E
unfolding partial_energy ceil_part
partial_all E n p = ap neg_ℤ (floor_all (neg_ℤ E) n p) ∙ neg_ℤ-neg_ℤ E

-- rounded up, and by less than one: an odd megajoule goes early
pub partial_up : (E : ℤ) (n k : ℕ) → 0 < n → (r : ℕ) × ((r < n) × (partial_energy E n k *ℤ pos n ≡ E *ℤ pos k +ℤ pos r))
unfolding partial_energy ceil_part
partial_up E n k p =
    let F : ℤ = floor_part (neg_ℤ E) n k in
    let rest = floor_rest (neg_ℤ E) n p k in
    let back : neg_ℤ (neg_ℤ E *ℤ pos k) ≡ E *ℤ pos k = sym (neg_mul (neg_ℤ E) k) ∙ ap (λ z. z *ℤ pos k) (neg_ℤ-neg_ℤ E) in
    (rest.0, (rest.1.0, neg_mul F n ∙ neg_rest (F *ℤ pos n) (neg_ℤ E *ℤ pos k) rest.0 rest.1.1 ∙ ap (λ z. z +ℤ pos rest.0) back))
  where
    neg_rest : (x z : ℤ) (r : ℕ) → z ≡ x +ℤ pos r → neg_ℤ x ≡ neg_ℤ z +ℤ pos r
    neg_rest x z r e =
        eq_z _ _ (omega (arith, neg_fact x, neg_fact z, add_fact x (pos r), add_fact (neg_ℤ z) (pos r), ap up e, ap dn e))

-- m shares from day a on are one difference
pub shares_between : (E : ℤ) (n a m : ℕ) → sum_from (share E n) a m ≡ partial_energy E n (a + m) -ℤ partial_energy E n a
unfolding share
shares_between E n a m = telescope (partial_energy E n) a m

-- all n shares are the energy
pub shares_whole : (E : ℤ) (n : ℕ) → 0 < n → sum_from (share E n) 0 n ≡ E
shares_whole E n p =
    let z : 0 + n ≡ n = omega arith in
    shares_between E n 0 n
    ∙ ap₂ ◌-ℤ◌ (ap (partial_energy E n) z ∙ partial_all E n p) (partial_none E n p)
    ∙ +ℤ_idr E

-- ---- the code's floor, on naturals: u is a total raised by 1,000,000

abbrev floored_part : ℕ → ℕ → ℕ → ℕ
floored_part u n k = (u * k + 1000000 * (n - k)) / n

pub raised_fits : (u n k : ℕ) → u ≤ 2000000 → n ≤ 40001 → k ≤ n → u * k ≤ 80002000000
raised_fits u n k a b l = let h : k ≤ 40001 = omega arith in omega (arith, mul-le-mul a h)

pub floored_small : (u n k : ℕ) → u ≤ 2000000 → k ≤ n → floored_part u n k ≤ 2000000
floored_small u n k a l = div-le_of_le-mul n (omega (arith, mul-le-mul_right k a))

pub floored_part_lem : (u n k : ℕ) → 0 < n → k ≤ n → energy_of (floored_part u n k) ≡ floor_part (energy_of u) n k
unfolding floor_part
floored_part_lem u n k p l =
    sym
    (ap (λ (x : ℤ). floor_div x n)
    (eq_z (E *ℤ pos k) (sub_ℕ (u * k + 1000000 * (n - k)) (1000000 * n))
    (omega (arith, mul_fact E k, sub_fact (u * k + 1000000 * (n - k)) (1000000 * n), add-mul (up E) 1000000 k, add-mul u (dn E) k, ap (λ (x : ℕ). x * k) (sub_fact u 1000000))))
    ∙ floor_shift (u * k + 1000000 * (n - k)) 1000000 n p)
  where
    E : ℤ
    E = energy_of u

-- ---- its ceil: the floor part of the energy turned about, turned back

turned : (u : ℕ) → u ≤ 2000000 → energy_of (2000000 - u) ≡ neg_ℤ (energy_of u)
turned u h = eq_z _ _ (omega (arith, sub_fact (2000000 - u) 1000000, neg_fact (energy_of u), sub_fact u 1000000))

pub turned_back : (u n k r : ℕ) → u ≤ 2000000 → r ≤ 2000000 → energy_of r ≡ floor_part (energy_of (2000000 - u)) n k
    → energy_of (2000000 - r) ≡ partial_energy (energy_of u) n k
unfolding partial_energy ceil_part
turned_back u n k r h g e = turned r g ∙ ap neg_ℤ (e ∙ ap (λ z. floor_part z n k) (turned u h))

abbrev pub raised_part : ℕ → ℕ → ℕ → ℕ
raised_part u n k = 2000000 - floored_part (2000000 - u) n k

pub raised_partial : (u n k : ℕ) → u ≤ 2000000 → 0 < n → k ≤ n → energy_of (raised_part u n k) ≡ partial_energy (energy_of u) n k
raised_partial u n k h p l =
    turned_back u n k (floored_part (2000000 - u) n k) h (floored_small (2000000 - u) n k (omega arith) l) (floored_part_lem (2000000 - u) n k p l)

-- ---- a floor part lies between 0 and its total

module _ (u n k : ℕ) (p : 0 < n) (l : k ≤ n) where
  whole : u * n ≡ u * k + u * (n - k)
  whole = let e : n ≡ k + (n - k) = omega arith in ap (λ m. u * m) e ∙ mul-add u k (n - k)

  floored_low : u ≤ 1000000 → (u ≤ floored_part u n k) × (floored_part u n k ≤ 1000000)
  floored_low h = (
    (le-div_iff_mul-le p).1 (omega (arith, whole, mul-le-mul_right (n - k) h)),
    div-le_of_le-mul n (omega (arith, mul-le-mul_right k h)),
  )

  floored_high : 1000000 ≤ u → (1000000 ≤ floored_part u n k) × (floored_part u n k ≤ u)
  floored_high h = (
    (le-div_iff_mul-le p).1 (omega (arith, mul-le-mul_right k h)),
    div-le_of_le-mul n (omega (arith, whole, mul_comm n u, mul-le-mul_right (n - k) h)),
  )

-- so two of them differ by at most 1,000,000
floored_near : (u n i j : ℕ) → u ≤ 2000000 → 0 < n → i ≤ n → j ≤ n → floored_part u n i ≤ floored_part u n j + 1000000
floored_near u n i j s p h k = go (leb u 1000000) refl
  where
    go : (t : Bool) → leb u 1000000 ≡ t → floored_part u n i ≤ floored_part u n j + 1000000
    go true e =
        let l : u ≤ 1000000 = leb-true u 1000000 e in omega (arith, floored_low u n i p h l, floored_low u n j p k l)
    go false e =
        let l : 1000000 < u = leb-false u 1000000 e in
        omega (arith, floored_high u n i p h (omega arith), floored_high u n j p k (omega arith))

pub raised_near : (u n i j : ℕ) → u ≤ 2000000 → 0 < n → i ≤ n → j ≤ n → raised_part u n i ≤ raised_part u n j + 1000000
raised_near u n i j s p h k =
    let v : 2000000 - u ≤ 2000000 = omega arith in
    omega (arith, floored_near (2000000 - u) n j i v p k h, floored_small (2000000 - u) n i v h)

raised_is : (u n k r : ℕ) → u ≤ 2000000 → 0 < n → k ≤ n → energy_of r ≡ partial_energy (energy_of u) n k → r ≡ raised_part u n k
raised_is u n k r h p l e = raised_same r (raised_part u n k) 1000000 (e ∙ sym (raised_partial u n k h p l))

pub energies_near : (u n i j r s : ℕ) → u ≤ 2000000 → 0 < n → i ≤ n → j ≤ n
    → energy_of r ≡ partial_energy (energy_of u) n i → energy_of s ≡ partial_energy (energy_of u) n j → r ≤ s + 1000000
energies_near u n i j r s b p h k e f =
    omega (arith, raised_near u n i j b p h k, raised_is u n i r b p h e, raised_is u n j s b p k f)

-- a difference of two raised energies, raised
pub raised_difference : (r s : ℕ) → s ≤ r + 1000000 → sub_ℕ (r + 1000000 - s) 1000000 ≡ energy_of r -ℤ energy_of s
raised_difference r s h =
    eq_z _ _ (omega (arith, sub_fact (r + 1000000 - s) 1000000, minus_fact (energy_of r) (energy_of s), sub_fact r 1000000, sub_fact s 1000000))
