-- The point that the search by MIRN finds is the one that the lists' steps change. Assumes nothing.
use mathlib.Core.Path.{◌≡◌, refl, sym, ◌∙◌, ap, ap₂, subst}
use mathlib.Core.Bool.{Bool, true, false, cond}
use mathlib.Core.Option.{Option, none, some}
use mathlib.Core.List.{List, [], ◌∷◌, ◌++◌}
use Prim.Native.Nat.{ℕ, zero, suc, ◌+◌, ◌<◌}
use native.Mathlib.Omega.{arith}
use native.Mathlib.Nat.{mul-zero}
use lib.Dec.{eqb}
use lib.ListN.{drop, take}
use lib.IntN.{ℤ}
use borrow.Author.Tests.{eqb-true, eqb-false, eq-eqb, ne_eqb}
use Rattle.numbers.specs.Search.{is_some}
use Rattle.numbers.proofs.Search.{First, found as found_at, first_tells, first_fails}
use Rattle.daybook.specs.declared.Edition.{Edition}
use Rattle.lists.specs.Lists.{Lists, Register}
use Rattle.lists.specs.InnerSteps.{find_lists, put_lists, with_lists}
use Rattle.lists.specs.InnerWell.{Well, Points, point, WellFormed}
use Rattle.layout.specs.Layout.{table_length, stride, place_of, Fits, part_of, point_numbers, layout, num_at, point_from, points_from, register_of}
use Rattle.layout.specs.InnerWrites.{with_part}
use Rattle.layout.specs.Sound.{sound}
use Rattle.layout.proofs.Numbers.{Few}
use Rattle.layout.proofs.Cells.{cell_mirn}
use Rattle.layout.proofs.Parse.{point_alone}
use Rattle.layout.proofs.PointParts.{all_few_of, with_points, part_of_point, with_point_lem, table_split}
use Rattle.layout.proofs.Mirns.{first_number, next}
use Rattle.layout.proofs.TableSound.{points_count, sound_lays}
use Rattle.layout.proofs.SoundTable.{Nth, nth}
use Rattle.table.specs.Lookup.{index_of}

-- ---- among lists

-- where no point of a list has x's MIRN, q of the list has another
apart : (a : List Lists) (q : Lists) (b : List Lists) (m : ℕ) → find_lists m (a ++ q ∷ b) ≡ none → (m ≡ q.facts.mirn → ⊥)
unfolding find_lists
apart [] q b m e h =
    let z : none ≡ some q = sym e ∙ rw (eq-eqb m q.facts.mirn h) in
    let k : ◌≡◌ {A = ℕ} 0 1 = cc in
    omega arith
apart (x ∷ a) q b m e h = apart a q b m (rest (eqb m x.facts.mirn) e) h
  where
    rest : (t : Bool) → cond t (some x) (find_lists m (a ++ q ∷ b)) ≡ none → find_lists m (a ++ q ∷ b) ≡ none
    rest true e = let k : ◌≡◌ {A = ℕ} 0 1 = cc in absurd (omega arith)
    rest false e = e

module _ {room : ℕ} where
  find_at : (a : List Lists) (q : Lists) (b : List Lists) → Points room (a ++ q ∷ b) → find_lists q.facts.mirn (a ++ q ∷ b) ≡ some q
  unfolding find_lists
  find_at [] q b r = rw (eq-eqb q.facts.mirn q.facts.mirn refl)
  find_at (x ∷ a) q b (point w n r) =
      rw (ne_eqb q.facts.mirn x.facts.mirn (λ e. apart a q b x.facts.mirn n (sym e))) (find_at a q b r)

  put_at : (a : List Lists) (q q' : Lists) (b : List Lists) → Points room (a ++ q ∷ b) → put_lists q.facts.mirn q' (a ++ q ∷ b) ≡ a ++ q' ∷ b
  unfolding put_lists
  put_at [] q q' b r = rw (eq-eqb q.facts.mirn q.facts.mirn refl)
  put_at (x ∷ a) q q' b (point w n r) =
      rw (ne_eqb q.facts.mirn x.facts.mirn (λ e. apart a q b x.facts.mirn n (sym e))) (ap (λ l. x ∷ l) (put_at a q q' b r))

-- ---- in a table

-- Point i of a sound table has MIRN m: its lists, and what changing them is in the table.
pub record Found (ed : Edition) (t : List ℤ) (m i : ℕ) : Type 0 where
  pub find : find_lists m (register_of ed t).points ≡ some (point_from (part_of ed t i))
  pub well : Well ed.records (point_from (part_of ed t i))
  pub laid : point_numbers ed.records (point_from (part_of ed t i)) ≡ part_of ed t i
  pub put :
      (q : Lists) → Few ed.records q
      → with_part ed t i (point_numbers ed.records q) ≡ layout ed (with_lists m q (register_of ed t)) ++ drop table_length t

module _ (ed : Edition) (fits : Fits ed) (t : List ℤ) (s : sound ed t ≡ true) (m : ℕ) where
  abbrev R : Register
  R = register_of ed t

  ok : WellFormed ed R
  ok = (sound_lays ed fits t s).0

  split : t ≡ layout ed R ++ drop table_length t
  split = table_split ed R t (sym (sound_lays ed fits t s).1)

  first_part : (i : ℕ) → num_at (part_of ed t i) 0 ≡ num_at t (place_of ed i)
  unfolding part_of
  first_part i = first_number ed t i

  here : (i : ℕ) → (k : Nth ed.records i R.points) → num_at t (place_of ed i) ≡ m → Found ed t m i
  unfolding with_lists with_points
  here i k e =
      let rest : List ℤ = drop table_length t in
      let part : part_of ed t i ≡ point_numbers ed.records k.q = ap₂ (part_of ed) split (sym k.at) ∙ part_of_point ed R rest k.before k.q k.after k.is (all_few_of ok.points_ok) in
      let q : point_from (part_of ed t i) ≡ k.q = ap point_from part ∙ point_alone k.well in
      let points : Points ed.records (k.before ++ k.q ∷ k.after) = subst (Points ed.records) k.is ok.points_ok in
      let mirn : k.q.facts.mirn ≡ m = sym (cell_mirn ed.records k.q) ∙ ap (λ p. num_at p 0) (sym part) ∙ first_part i ∙ e in
      record {
        find =
            ap (λ l. find_lists m l) k.is ∙ ap (λ n. find_lists n (k.before ++ k.q ∷ k.after)) (sym mirn) ∙ find_at k.before k.q k.after points ∙ ap some (sym q);
        well = subst (Well ed.records) (sym q) k.well;
        laid = ap (point_numbers ed.records) q ∙ sym part;
        put = λ q' f.
            ap₂ (λ u n. with_part ed u n (point_numbers ed.records q')) split (sym k.at)
            ∙ with_point_lem ed R rest k.before k.q k.after k.is (all_few_of ok.points_ok) q' f
            ∙ ap (λ l. layout ed (with_points l R) ++ rest) (sym (ap (λ l. put_lists m q' l) k.is ∙ ap (λ n. put_lists n q' (k.before ++ k.q ∷ k.after)) (sym mirn) ∙ put_at k.before k.q q' k.after points));
      }

  pub found : (i : ℕ) → index_of ed t m ≡ some i → Found ed t m i
  unfolding index_of
  found i = go (index_of ed t m) (first_tells (λ j. eqb (num_at t (place_of ed j)) m) 0 (num_at t 0))
    where
      go : (o : Option ℕ) → First (λ j. eqb (num_at t (place_of ed j)) m) 0 (num_at t 0) o → o ≡ some i → Found ed t m i
      go none r e = let k : ◌≡◌ {A = ℕ} 0 1 = cc in absurd (omega arith)
      go (some j) (found_at u v h f) e =
          let same : j ≡ i = cc in
          subst (Found ed t m) same (here j (nth ok.points_ok j (omega (arith, points_count ed t))) (eqb-true _ _ h))

  none_of : (k a : ℕ) → ((j : ℕ) → j < k → eqb (num_at t (place_of ed (a + j))) m ≡ false) → find_lists m (points_from ed k (drop (place_of ed a) t)) ≡ none
  unfolding find_lists points_from point_from
  none_of zero a f = refl
  none_of (suc k) a f =
      let z : a + 0 ≡ a = omega arith in
      let first : eqb m (num_at (take (stride ed) (drop (place_of ed a) t)) 0) ≡ false =
      ne_eqb _ _ (λ e. eqb-false _ _ (f 0 (omega arith)) (ap (λ i. num_at t (place_of ed i)) z ∙ sym (e ∙ first_number ed t a))) in
      rw first
      (ap (λ u. find_lists m (points_from ed k u)) (next ed t a)
      ∙ none_of k (suc a) (λ j l. let q : suc a + j ≡ a + suc j = omega arith in ap (λ i. eqb (num_at t (place_of ed i)) m) q ∙ f (suc j) (omega arith)))

  pub missing : index_of ed t m ≡ none → find_lists m R.points ≡ none
  unfolding index_of register_of
  missing e =
      let z : place_of ed 0 ≡ 8 = omega (arith, mul-zero (stride ed)) in
      ap (λ b. find_lists m (points_from ed (num_at t 0) (drop b t))) (sym z)
      ∙ none_of (num_at t 0) 0 (λ j l. first_fails (λ j. eqb (num_at t (place_of ed j)) m) 0 (num_at t 0) (ap is_some e) (0 + j) (omega arith) (omega arith))
