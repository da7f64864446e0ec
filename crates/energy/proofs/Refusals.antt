-- The rows that a point decides, tested in order. Assumes nothing.
use mathlib.Core.Path.{◌≡◌, refl, sym, ◌∙◌, ap, ap₂}
use mathlib.Core.Bool.{Bool, true, false, not, ◌&&◌, cond, not-not}
use mathlib.Core.Option.{Option, none, some}
use mathlib.Core.List.{List, [], ◌∷◌}
use Prim.Native.Nat.{ℕ, ◌≤◌}
use native.Mathlib.Omega.{arith}
use lib.Dec.{leb, ltb, eqb}
use lib.ListN.{length}
use lib.IntN.{ℤ}
use borrow.Author.Tests.{le-leb, ltb-false, eqb-true, eqb-false, eq-eqb, ne_eqb, not-false}
use Rattle.numbers.specs.InnerEnergies.{energy_of}
use Rattle.numbers.specs.Search.{maybe, is_some}
use Rattle.daybook.specs.Book.{Entry}
use Rattle.daybook.specs.Notices.{Row, least, replacement, recut, which_number, which_of, entry_of, fits_kind, beyond, energy_rows}
use Rattle.lists.specs.Lists.{Lists}
use Rattle.lists.specs.InnerSteps.{starting_on, which_in, append_day_of, some_overlap, energy_lists_rows}
use Rattle.lists.proofs.Rows.{above, least_first, least_skip}
use Rattle.lists.proofs.Apart.{fits_le}
use Rattle.layout.specs.Layout.{num_at, point_from}
use Rattle.layout.specs.InnerParts.{room_of, SoundPart}
use Rattle.layout.proofs.Cells.{place_kind, place_offs, place_recs}
use Rattle.layout.proofs.SoundParts.{part_well, part_laid}
use Rattle.point.specs.InnerTests.{no_off, day_if}
use Rattle.point.proofs.Readers.{no_off_is}
use Rattle.entering.specs.declared.RaisedNotice.{RaisedNotice}
use Rattle.entering.specs.InnerEntering.{notice_of}
use Rattle.energy.specs.InnerParts.{energy_rows_of}

-- ---- the rows, one by one

abbrev entry : RaisedNotice → Entry
entry x = entry_of (notice_of x)

abbrev pub row6 : RaisedNotice → List ℤ → Bool
row6 x p = not (fits_kind (point_from p).facts.kind x.entry.start x.entry.end)

abbrev pub row7 : RaisedNotice → List ℤ → Bool
row7 x p =
    eqb (which_number (which_in (point_from p) (entry x))) 1 && not (maybe false (eqb x.entry.start) (append_day_of (point_from p)))

abbrev pub row8 : RaisedNotice → List ℤ → Bool
row8 x p = leb x.entry.start x.entry.end && some_overlap x.entry.start x.entry.end (point_from p).offs

abbrev pub row9 : RaisedNotice → ℕ → ℕ → List ℤ → Bool
row9 x a b p =
    beyond (energy_of a) (energy_of b) (point_from p).facts.kind (energy_of x.entry.energy) && eqb x.confirmed 0

abbrev row16 : RaisedNotice → List ℤ → Bool
row16 x p = eqb (which_number (which_in (point_from p) (entry x))) 1 && leb (room_of p) (length (point_from p).recs)

module _ (x : RaisedNotice) (a b : ℕ) (p : List ℤ) where
  abbrev rows : List Row
  rows = energy_rows_of x a b (room_of p) (point_from p)

  rows_are : rows ≡ (6, row6 x p) ∷ (7, row7 x p) ∷ (8, row8 x p) ∷ (9, row9 x a b p) ∷ (16, row16 x p) ∷ []
  unfolding energy_rows_of energy_lists_rows energy_rows entry_of
  rows_are = refl

  pub sent_6 : row6 x p ≡ true → 6 ≡ least rows
  unfolding above
  sent_6 e = sym (ap least rows_are ∙ least_first 6 (row6 x p) _ refl e)

  module _ (e6 : row6 x p ≡ false) where
    pub sent_7 : row7 x p ≡ true → 7 ≡ least rows
    unfolding above
    sent_7 e = sym (ap least rows_are ∙ least_skip 6 (row6 x p) _ e6 ∙ least_first 7 (row7 x p) _ refl e)

    module _ (e7 : row7 x p ≡ false) where
      pub sent_8 : row8 x p ≡ true → 8 ≡ least rows
      unfolding above
      sent_8 e = sym (ap least rows_are ∙ least_skip 6 (row6 x p) _ e6 ∙ least_skip 7 (row7 x p) _ e7 ∙ least_first 8 (row8 x p) _ refl e)

      module _ (e8 : row8 x p ≡ false) where
        past_8 : least rows ≡ least ((9, row9 x a b p) ∷ (16, row16 x p) ∷ [])
        past_8 = ap least rows_are ∙ least_skip 6 (row6 x p) _ e6 ∙ least_skip 7 (row7 x p) _ e7 ∙ least_skip 8 (row8 x p) _ e8

        pub sent_9 : row9 x a b p ≡ true → 9 ≡ least rows
        unfolding above
        sent_9 e = sym (past_8 ∙ least_first 9 (row9 x a b p) _ refl e)

        pub sent_16 : row9 x a b p ≡ false → row16 x p ≡ true → 16 ≡ least rows
        unfolding above
        sent_16 e9 e = sym (past_8 ∙ least_skip 9 (row9 x a b p) _ e9 ∙ least_first 16 (row16 x p) _ refl e)

        pub sent_not : row9 x a b p ≡ false → row16 x p ≡ false → 0 ≡ least rows
        unfolding least
        sent_not e9 e = sym (past_8 ∙ least_skip 9 (row9 x a b p) ((16, row16 x p) ∷ []) e9 ∙ least_skip 16 (row16 x p) [] e)

-- ---- what the code tests is what the rows say

-- only an append has no record on its start
new_is : (q : Lists) (x : Entry) → not (is_some (starting_on q.recs x.start)) ≡ eqb (which_number (which_in q x)) 1
unfolding which_in
new_is q x = go (starting_on q.recs x.start)
  where
    which : (t : Bool) → false ≡ eqb (which_number (cond t replacement recut)) 1
    which true = refl
    which false = refl

    go : (o : Option Entry) → not (is_some o) ≡ eqb (which_number (which_of x.end o)) 1
    go none = refl
    go (some y) = which (eqb y.end x.end)

day_test : (d r : ℕ) → d ≤ 39999 → not (eqb r d) ≡ not (maybe false (eqb d) (day_if r))
unfolding day_if
day_test d r h = ap not (go (ltb r 40001) refl)
  where
    flip : (t : Bool) → eqb r d ≡ t → t ≡ eqb d r
    flip true e = sym (eq-eqb d r (sym (eqb-true r d e)))
    flip false e = sym (ne_eqb d r (λ (q : d ≡ r). eqb-false r d e (sym q)))

    go : (t : Bool) → ltb r 40001 ≡ t → eqb r d ≡ maybe false (eqb d) (cond t (some r) none)
    go true e = flip (eqb r d) refl
    go false e = ne_eqb r d (λ (q : r ≡ d). absurd (omega (arith, ltb-false r 40001 e)))

module _ {p : List ℤ} (ok : SoundPart p) (x : RaisedNotice) where
  abbrev q : Lists
  q = point_from p

  pub row6_is : {f : Bool} (k : ℕ) → k ≡ num_at p 1 → f ≡ fits_kind k x.entry.start x.entry.end → not f ≡ row6 x p
  row6_is k ek ef = ap not (ef ∙ ap (λ k. fits_kind k x.entry.start x.entry.end) (ek ∙ place_kind (part_well ok) (part_laid ok)))

  module _ {new : Bool} (is : new ≡ not (is_some (starting_on q.recs x.entry.start))) where
    new_here : new ≡ eqb (which_number (which_in q (entry x))) 1
    unfolding entry_of
    new_here = is ∙ new_is q (entry x)

    pub row7_is : (r : ℕ) → x.entry.start ≤ 39999 → day_if r ≡ append_day_of q → (new && not (eqb r x.entry.start)) ≡ row7 x p
    row7_is r h e = ap₂ ◌&&◌ new_here (day_test x.entry.start r h ∙ ap (λ o. not (maybe false (eqb x.entry.start) o)) e)

    pub row16_is : (n : ℕ) → n ≡ num_at p 6 → (new && leb (room_of p) n) ≡ row16 x p
    row16_is n e = ap₂ ◌&&◌ new_here (ap (leb (room_of p)) (e ∙ place_recs (part_well ok) (part_laid ok)))

  -- where row 6 doesn't apply, the start is no later than the end
  pub row8_is : {c : Bool} (m : ℕ) → row6 x p ≡ false → x.entry.start ≤ 39999 → m ≡ num_at p 5 → c ≡ no_off p m x.entry.start x.entry.end → not c ≡ row8 x p
  row8_is {c} m e6 h em ec =
      let l : x.entry.start ≤ x.entry.end = fits_le q.facts.kind x.entry.start x.entry.end (not-false _ e6) in
      let clear : c ≡ not (some_overlap x.entry.start x.entry.end q.offs) =
      ec ∙ ap₂ (λ t k. no_off t k x.entry.start x.entry.end) (sym (part_laid ok)) (em ∙ place_offs (part_well ok) (part_laid ok)) ∙ no_off_is (part_well ok) x.entry.start x.entry.end (omega arith) in
      ap not clear ∙ not-not (some_overlap x.entry.start x.entry.end q.offs) ∙ ap (λ t. t && some_overlap x.entry.start x.entry.end q.offs) (sym (le-leb _ _ l))

  pub row9_is : (a b k : ℕ) {u : Bool} → k ≡ num_at p 1 → u ≡ beyond (energy_of a) (energy_of b) k (energy_of x.entry.energy) → (u && eqb x.confirmed 0) ≡ row9 x a b p
  row9_is a b k ek eu = ap (λ t. t && eqb x.confirmed 0) (eu ∙ ap (λ k. beyond (energy_of a) (energy_of b) k (energy_of x.entry.energy)) (ek ∙ place_kind (part_well ok) (part_laid ok)))
