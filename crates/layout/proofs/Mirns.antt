-- Tests of a register's points by their indices, MIRNs that differ among them. Assumes nothing.
use mathlib.Core.Path.{◌≡◌, sym, ◌∙◌, ap, ap₂}
use mathlib.Core.Bool.{Bool, not, ◌&&◌}
use mathlib.Core.List.{List}
use Prim.Native.Nat.{ℕ, zero, suc, ◌+◌, ◌-◌, ◌*◌}
use native.Mathlib.Omega.{arith}
use native.Mathlib.Nat.{mul-suc, mul-zero}
use lib.Dec.{eqb}
use lib.ListN.{get_or, take, drop}
use lib.Seq.{drop-drop}
use lib.IntN.{ℤ, pos}
use Rattle.numbers.specs.Naturals.{nat_of}
use Rattle.numbers.specs.Rows.{all}
use Rattle.numbers.proofs.Rows.{all_none, all_front, all_same}
use Rattle.daybook.specs.declared.Edition.{Edition}
use Rattle.lists.specs.Lists.{Lists}
use Rattle.layout.specs.Layout.{stride, place_of, part_of, num_at, point_from, points_from, register_of}
use Rattle.layout.specs.Sound.{each, mirns_differ}
use Rattle.layout.specs.InnerMirns.{later_differ}
use Rattle.layout.proofs.Parts.{part_number}

module _ (ed : Edition) (t : List ℤ) where
  -- the first number of a part
  pub first_number : (a : ℕ) → num_at (take (stride ed) (drop (place_of ed a) t)) 0 ≡ num_at t (place_of ed a)
  unfolding part_of
  first_number a =
      let z : place_of ed a + 0 ≡ place_of ed a = omega arith in
      ap nat_of (part_number ed t a 0 (omega arith) ∙ ap (λ i. get_or t i (pos 0)) z)

  pub next : (a : ℕ) → drop (stride ed) (drop (place_of ed a) t) ≡ drop (place_of ed (suc a)) t
  next a =
      let e : place_of ed a + stride ed ≡ place_of ed (suc a) = omega (arith, mul-suc (stride ed) a) in
      drop-drop (stride ed) (place_of ed a) t ∙ ap (λ n. drop n t) e

  -- a test of each of the k points from point a on, by their parts
  each_part : (test : Lists → Bool) (k a : ℕ) → each test (points_from ed k (drop (place_of ed a) t)) ≡ all (λ j. test (point_from (part_of ed t (a + j)))) k
  unfolding each points_from part_of
  each_part test zero a = sym (all_none _)
  each_part test (suc k) a =
      let z : a + 0 ≡ a = omega arith in
      ap₂ ◌&&◌ (ap (λ i. test (point_from (part_of ed t i))) (sym z))
      (ap (λ u. each test (points_from ed k u)) (next a) ∙ each_part test k (suc a)
      ∙ all_same _ _ k (λ j l. let e : suc a + j ≡ a + suc j = omega arith in ap (λ i. test (point_from (part_of ed t i))) e))
      ∙ sym (all_front (λ j. test (point_from (part_of ed t (a + j)))) k)

  -- of each point of the register
  pub each_point : (test : Lists → Bool) → each test (register_of ed t).points ≡ all (λ i. test (point_from (part_of ed t i))) (num_at t 0)
  unfolding register_of
  each_point test =
      let z : 8 + stride ed * 0 ≡ 8 = omega (arith, mul-zero (stride ed)) in
      ap (λ b. each test (points_from ed (num_at t 0) (drop b t))) (sym z) ∙ each_part test (num_at t 0) 0
      ∙ all_same _ _ (num_at t 0) (λ i l. let e : 0 + i ≡ i = omega arith in ap (λ i. test (point_from (part_of ed t i))) e)

  each_index : (f : ℕ → Bool) (k a : ℕ) → each (λ (r : Lists). f r.facts.mirn) (points_from ed k (drop (place_of ed a) t)) ≡ all (λ j. f (num_at t (place_of ed (a + j)))) k
  unfolding point_from part_of
  each_index f k a = each_part (λ r. f r.facts.mirn) k a ∙ all_same _ _ k (λ j l. ap f (first_number (a + j)))

  differ_index : (k a : ℕ) → mirns_differ (points_from ed k (drop (place_of ed a) t)) ≡ all (λ i. later_differ ed t (a + k) (a + i)) k
  unfolding mirns_differ points_from point_from later_differ
  differ_index zero a = sym (all_none _)
  differ_index (suc k) a =
      let z : a + 0 ≡ a = omega arith in
      let n : a + suc k - suc (a + 0) ≡ k = omega arith in
      ap₂ ◌&&◌
      (ap (λ m. each (λ (r : Lists). not (eqb m r.facts.mirn)) (points_from ed k (drop (stride ed) (drop (place_of ed a) t)))) (first_number a)
      ∙ ap (λ u. each (λ (r : Lists). not (eqb (num_at t (place_of ed a)) r.facts.mirn)) (points_from ed k u)) (next a)
      ∙ each_index (λ m. not (eqb (num_at t (place_of ed a)) m)) k (suc a)
      ∙ ap₂ (λ b m. all (λ j. not (eqb (num_at t (place_of ed b)) (num_at t (place_of ed (suc b + j))))) m) (sym z) (sym n))
      (ap (λ u. mirns_differ (points_from ed k u)) (next a) ∙ differ_index k (suc a)
      ∙ all_same _ _ k (λ i l.
      let e : suc a + i ≡ a + suc i = omega arith in
      let f : suc a + k ≡ a + suc k = omega arith in
      ap₂ (later_differ ed t) f e))
      ∙ sym (all_front (λ i. later_differ ed t (a + suc k) (a + i)) k)

  -- the MIRNs of the first n points differ where each differs from those of the later ones
  pub differ_is : (n : ℕ) → mirns_differ (points_from ed n (drop 8 t)) ≡ all (later_differ ed t n) n
  differ_is n =
      let z : 8 + stride ed * 0 ≡ 8 = omega (arith, mul-zero (stride ed)) in
      ap (λ b. mirns_differ (points_from ed n (drop b t))) (sym z) ∙ differ_index n 0 ∙ all_same _ _ n (λ i l. nought i)
    where
      nought : (i : ℕ) → later_differ ed t (0 + n) (0 + i) ≡ later_differ ed t n i
      nought i =
          let e : 0 + n ≡ n = omega arith in
          let f : 0 + i ≡ i = omega arith in
          ap₂ (later_differ ed t) e f
