-- What a chain over the rows 0 to n - 1 comes to, by what each call of its closure ensures. Assumes nothing.
use mathlib.Core.Path.{◌≡◌, refl, sym, ap, subst, ◌∙◌}
use mathlib.Core.List.{List, [], ◌∷◌}
use Prim.Native.Nat.{ℕ, zero, suc, ◌+◌, ◌*◌, ◌^◌, ◌≤◌, ◌<◌}
use native.Mathlib.Omega.{arith}
use denote.Param.Members.{Mut, Called}
use lib.IntN.{ℤ, pos, sub_ℕ, ◌+ℤ◌, +ℤ_idl, +ℤ_idr}
use Rattle.std.proofs.Common.{Some, None}
use Rattle.std.proofs.iter.Yields.{nat_range_steps}
use Rattle.std.specs.Iterator.{Yields, Drains}
use Rattle.std.specs.Iterator.Adapters.{map_steps}
use Rattle.std.specs.Iterator.Runs.{EachRunFrom, YieldsRun}
use Rattle.std.specs.List.{fold}
use Rattle.std.specs.declared.iter.Map.{Map}
use Rattle.std.specs.declared.ops.Range.{Range}
use Rattle.numbers.specs.Sums.{sum_from}
use Rattle.numbers.proofs.Integers.{eq_z, add_fact, sub_fact}

abbrev plus : ℕ → ℕ → ℕ
plus b x = b + x

-- a turn adds a term that is raised by m
one_turn : (acc low r m : ℕ) (x y z : ℤ) → sub_ℕ r m ≡ x → z ≡ sub_ℕ (acc + r) (low + m) +ℤ y → z ≡ sub_ℕ acc low +ℤ (x +ℤ y)
one_turn acc low r m x y z e f =
    f ∙ rw (← e) (eq_z _ _ (omega (arith, add_fact (sub_ℕ (acc + r) (low + m)) y, add_fact (sub_ℕ acc low) (sub_ℕ r m +ℤ y), add_fact (sub_ℕ r m) y, sub_fact (acc + r) (low + m), sub_fact acc low, sub_fact r m)))

-- terms that are not raised
pub unraised : (r m : ℕ) → m ≡ 0 → sub_ℕ r m ≡ pos r
unraised r m e = eq_z _ _ (omega (arith, sub_fact r m))

module _ {F : Type 0} (g : Mut F (ℕ × Unit {0}) ℕ) (f : F) (n : ℕ) (term : ℕ → ℤ) (m most : ℕ)
    (turn : (k r : ℕ) (q : F) → k < n → Called g f (k, tt) r q → (q ≡ f) × (sub_ℕ r m ≡ term k) × (r ≤ most)) where
  -- what a call of `next` gave, where i rows were left
  next : (i r : ℕ) (s t : Map (Range ℕ) F) → s.f ≡ f → i + s.iter.start ≡ n → s.iter.end ≡ n → map_steps nat_range_steps g s (Some r) t
      → (j : ℕ) × (i ≡ suc j) × (t.f ≡ f) × (j + t.iter.start ≡ n) × (t.iter.end ≡ n) × (t.iter.start ≡ s.iter.start + 1) × (sub_ℕ r m ≡ term s.iter.start) × (r ≤ most)
  next zero r s t e h l y = absurd (omega (arith, y.1.1.0))
  next (suc j) r s t e h l y =
      let c = turn y.0 r t.f (omega (arith, y.1.1.1)) (subst (λ f. Called g f (y.0, tt) r t.f) e y.2) in
      (j, refl, c.0, omega (arith, y.1.1.2), omega (arith, y.1.0), y.1.1.2, c.1 ∙ ap term y.1.1.1, c.2)

  few : (xs : List ℕ) (acc i : ℕ) (s t : Map (Range ℕ) F) → s.f ≡ f → i + s.iter.start ≡ n → s.iter.end ≡ n
      → Yields (map_steps nat_range_steps g) s xs t → fold plus acc xs ≤ acc + most * i
  few [] acc i s t e h l y = omega arith
  few (r ∷ xs) acc i s t e h l y =
      let c = next i r s y.0 e h l y.1 in
      let w : most * suc c.0 ≡ most + most * c.0 = omega arith in
      let v : most * i ≡ most * suc c.0 = ap (λ i. most * i) c.1 in
      omega (arith, few xs (acc + r) c.0 y.0 t c.2 c.3 c.4 y.2, c.7, w, v)

  added : (xs : List ℕ) (acc low i : ℕ) (s t u : Map (Range ℕ) F) → s.f ≡ f → i + s.iter.start ≡ n → s.iter.end ≡ n
      → Yields (map_steps nat_range_steps g) s xs t → map_steps nat_range_steps g t None u
      → sub_ℕ (fold plus acc xs) (low + m * i) ≡ sub_ℕ acc low +ℤ sum_from term s.iter.start i
  unfolding sum_from
  added [] acc low zero s t u e h l y z = let k : low + m * 0 ≡ low = omega arith in rw k (sym (+ℤ_idr _))
  added [] acc low (suc i) s t u e h l y z =
      let a = ap (λ (w : Map (Range ℕ) F). w.iter.start) y in
      let b = ap (λ (w : Map (Range ℕ) F). w.iter.end) y in
      absurd (omega (arith, z.0.1.0))
  added (r ∷ xs) acc low zero s t u e h l y z = absurd (omega (arith, y.1.1.1.0))
  added (r ∷ xs) acc low (suc i) s t u e h l y z =
      let c = next (suc i) r s y.0 e h l y.1 in
      let j : i ≡ c.0 = omega (arith, c.1) in
      let a : y.0.iter.start ≡ suc s.iter.start = omega (arith, c.5) in
      let w : low + m * suc i ≡ low + m + m * i = omega arith in
      rw w (one_turn acc low r m (term s.iter.start) (sum_from term (suc s.iter.start) i) _ c.6
      (added xs (acc + r) (low + m) i y.0 t u c.2 (omega (arith, c.3)) c.4 y.2 z ∙ ap (λ a. sub_ℕ (acc + r) (low + m) +ℤ sum_from term a i) a))

  module _ (s : Map (Range ℕ) F) (e : s.f ≡ f) (h : s.iter ≡ record { start = 0; end = n }) where
    begins : (n + s.iter.start ≡ n) × (s.iter.end ≡ n)
    begins = (omega (arith, ap (λ (w : Range ℕ). w.start) h), ap (λ (w : Range ℕ). w.end) h)

    -- r is what (0..n).map(f).sum() comes to
    pub chain_sum : (r : ℕ) → (xs : List ℕ) × (Unit {0} → Drains (map_steps nat_range_steps g) s xs) × (r ≡ fold plus 0 xs)
        → (sub_ℕ r (m * n) ≡ sum_from term 0 n) × (r ≤ most * n)
    chain_sum r ran =
        let d = ran.1 tt in
        let k : m * n ≡ 0 + m * n = omega arith in (
          rw (ran.2, k) (added ran.0 0 0 n s d.1.0 d.0 e begins.0 begins.1 d.1.1 d.1.2 ∙ +ℤ_idl _ ∙ ap (λ (w : Range ℕ). sum_from term w.start n) h),
          omega (arith, ran.2, few ran.0 0 n s d.1.0 e begins.0 begins.1 d.1.1),
        )

    -- and it fits
    pub chain_fits : most * n < 2 ^ 64 → EachRunFrom (map_steps nat_range_steps g) s (λ p. fold plus 0 p.items < 2 ^ 64)
    unfolding YieldsRun
    chain_fits l = λ p _ at.
        omega (arith, few p.items 0 n s p.gave.0.0 e begins.0 begins.1 (subst (λ u. Yields (map_steps nat_range_steps g) u p.items p.gave.0.0) at p.gave.0.1))
