-- The layout of well-formed lists is a sound register, whatever numbers follow it. Assumes nothing.
use mathlib.Core.Path.{◌≡◌, refl, sym, ◌∙◌, ap}
use mathlib.Core.Bool.{Bool, true, false, not, ◌&&◌, cond}
use mathlib.Core.Option.{none, some}
use mathlib.Core.List.{List, [], ◌∷◌, ◌++◌}
use Prim.Native.Nat.{ℕ, zero, suc, ◌<◌}
use native.Mathlib.Omega.{arith}
use lib.Dec.{leb, eqb}
use lib.ListN.{length, drop, length-append, get_or-append, get_or-eq_default}
use lib.IntN.{ℤ, pos}
use borrow.Author.Tests.{le-leb, eq-eqb}
use Rattle.numbers.specs.Rows.{all}
use Rattle.numbers.proofs.Rows.{all_of}
use Rattle.numbers.proofs.Bools.{join}
use Rattle.daybook.specs.declared.Edition.{Edition}
use Rattle.lists.specs.Lists.{Lists, Register}
use Rattle.lists.specs.InnerSteps.{find_lists}
use Rattle.lists.specs.InnerWell.{Well, Points, nopoint, point, WellFormed}
use Rattle.layout.specs.Layout.{table_length, place_of, Fits, part_of, pad, layout, points_from, register_of}
use Rattle.layout.specs.Sound.{each, zeros, part_sound, mirns_differ, sound}
use Rattle.layout.proofs.Numbers.{pad_at}
use Rattle.layout.proofs.PartSound.{zeros_of_lem, lays_part}
use Rattle.layout.proofs.PointParts.{all_few_of, up_to, up_to_length, layout_length, part_of_point}
use Rattle.layout.proofs.Tables.{register_back}

-- ---- MIRNs that differ

others : (q : Lists) (qs : List Lists) → find_lists q.facts.mirn qs ≡ none → each (λ (r : Lists). not (eqb q.facts.mirn r.facts.mirn)) qs ≡ true
unfolding each find_lists
others q [] e = refl
others q (r ∷ qs) e = go (eqb q.facts.mirn r.facts.mirn) e (others q qs)
  where
    go : (t : Bool) → cond t (some r) (find_lists q.facts.mirn qs) ≡ none → (find_lists q.facts.mirn qs ≡ none → each (λ (r : Lists). not (eqb q.facts.mirn r.facts.mirn)) qs ≡ true)
        → (not t && each (λ (r : Lists). not (eqb q.facts.mirn r.facts.mirn)) qs) ≡ true
    go true e ih = let z : ◌≡◌ {A = ℕ} 0 1 = cc in absurd (omega arith)
    go false e ih = ih e

differ : {room : ℕ} {qs : List Lists} → Points room qs → mirns_differ qs ≡ true
unfolding mirns_differ
differ nopoint = refl
differ (point {q = q} {qs = qs} w n r) = join (others q qs n) (differ r)

-- ---- point i of a list

pub record Nth (room i : ℕ) (qs : List Lists) : Type 0 where
  pub before : List Lists
  pub q : Lists
  pub after : List Lists
  pub is : qs ≡ before ++ q ∷ after
  pub at : length before ≡ i
  pub well : Well room q

pub nth : {room : ℕ} {qs : List Lists} → Points room qs → (i : ℕ) → i < length qs → Nth room i qs
nth nopoint i h = absurd (omega arith)
nth (point {q = q} {qs = qs} w n r) zero h = record { before = []; q = q; after = qs; is = refl; at = refl; well = w }
nth (point {q = q} {qs = qs} w n r) (suc i) h =
    let k = nth r i (omega arith) in
    record {
      before = q ∷ k.before;
      q = k.q;
      after = k.after;
      is = ap (λ l. q ∷ l) k.is;
      at = ap suc k.at;
      well = k.well;
    }

-- ---- the whole table

module _ (ed : Edition) (fits : Fits ed) {R : Register} (w : WellFormed ed R) (rest : List ℤ) where
  abbrev t : List ℤ
  t = layout ed R ++ rest

  abbrev n : ℕ
  n = length R.points

  laid : length (layout ed R) ≡ table_length
  laid = layout_length ed R fits w.points_few (all_few_of w.points_ok)

  long : leb table_length (length t) ≡ true
  long = le-leb table_length (length t) (omega (arith, length-append (layout ed R) rest, laid))

  own_number_lem : eqb ed.number ed.number ≡ true
  own_number_lem = eq-eqb ed.number ed.number refl

  spare : zeros t 4 8 ≡ true
  unfolding zeros all layout pad
  spare = refl

  parts : (i : ℕ) → i < n → part_sound (part_of ed t i) ≡ true
  parts i h =
      let k = nth w.points_ok i h in
      ap part_sound (ap (part_of ed t) (sym k.at) ∙ part_of_point ed R rest k.before k.q k.after k.is (all_few_of w.points_ok))
      ∙ lays_part k.well

  unused : zeros t (place_of ed n) table_length ≡ true
  unfolding layout
  unused =
      zeros_of_lem t (place_of ed n) table_length (λ i a b.
      get_or-append (layout ed R) rest (pos 0) i (omega (arith, laid))
      ∙ pad_at table_length (up_to ed R n R.points) i
      ∙ get_or-eq_default (up_to ed R n R.points) (pos 0) (omega (arith, up_to_length ed R n (all_few_of w.points_ok))))

  mirns : mirns_differ (points_from ed n (drop 8 t)) ≡ true
  unfolding register_of layout pad
  mirns = ap (λ S. mirns_differ S.points) (register_back ed w rest) ∙ differ w.points_ok

  pub lays_sound : sound ed t ≡ true
  unfolding sound layout pad
  lays_sound =
      join (join (join (join (join (join (join (join long (le-leb _ _ w.points_few)) w.nondaily_ok) w.daily_ok) own_number_lem) spare) (all_of _ n parts)) mirns) unused
