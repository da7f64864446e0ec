-- The status call: the row of its numbers, its point's part, and what it does once it has been told where its point is.
-- Assumes nothing.
use mathlib.Core.Path.{◌≡◌, refl, sym, ◌∙◌, ap}
use mathlib.Core.Bool.{Bool, true, false, not, ◌&&◌, cond, false≢true}
use mathlib.Core.List.{List, [], ◌∷◌}
use Prim.Native.Nat.{ℕ, zero, suc, ◌≤◌}
use native.Mathlib.Omega.{arith}
use borrow.Author.Tests.{not-false}
use lib.Dec.{eqb}
use lib.IntN.{ℤ, pos, negsuc}
use mir.Syntax.{w64}
use mir.Val.{of_z}
use Rattle.std.specs.Prelude.{Err}
use Rattle.refusals.specs.declared.Refusal.{Refusal}
use Rattle.refusals.specs.Refusals.{number_of}
use Rattle.refusals.proofs.Numbers.{number_within}
use Rattle.numbers.specs.Naturals.{nat_of}
use Rattle.numbers.proofs.Bools.{both}
use Rattle.calendar.specs.Calendar.{is_day}
use Rattle.daybook.specs.declared.Edition.{Edition}
use Rattle.daybook.specs.declared.StatusNotice.{StatusNotice}
use Rattle.daybook.specs.Notices.{least, Numbers, is_mirn, is_flag, status_early, status_rows, status}
use Rattle.daybook.specs.Editions.{editions}
use Rattle.lists.specs.InnerSteps.{last_end, with_offs, status_lists}
use Rattle.lists.proofs.Rows.{above, up_to, least_first, least_skip, least_none}
use Rattle.lists.proofs.Bounds.{within_bounds}
use Rattle.lists.proofs.StatusStep.{status_clear, status_step, status_keeps}
use Rattle.lists.proofs.Switch.{offs_after_few}
use Rattle.layout.specs.Layout.{Fits, edition_of, point_numbers, point_from, register_of}
use Rattle.layout.specs.Sound.{sound}
use Rattle.layout.specs.Calls.{on_edition}
use Rattle.layout.specs.InnerParts.{room_of}
use Rattle.layout.proofs.Numbers.{few}
use Rattle.layout.proofs.PartBlocks.{few_offs_lem}
use Rattle.layout.proofs.TableSound.{sound_lays}
use Rattle.table.proofs.Laws.{lent, back_in}
use Rattle.table.specs.InnerTable.{sound_edition}
use Rattle.table.proofs.Locating.{PartFound, SentBack, not_sound}
use Rattle.table.proofs.Calls.{call_unsound, gives}
use Rattle.table.proofs.OnPart.{part_entered, part_refused, CallOn, call_back, call_done}
use Rattle.status.specs.InnerParts.{status_rows_of, switched_lists, status_part}
use Rattle.status.specs.Status.{status_call}

-- ---- row 2

-- the code reads a flag as a bool
flag_number : (z : ℤ) → is_flag z ≡ true → cond (eqb (of_z w64 z) 1) 1 0 ≡ nat_of z
flag_number (pos zero) e = refl
flag_number (pos (suc zero)) e = refl
flag_number (pos (suc (suc n))) e = absurd (omega (arith, (within_bounds 0 1 (pos (suc (suc n))) e).1))
flag_number (negsuc n) e = absurd (false≢true e)

module _ (n : StatusNotice) where
  abbrev pub in_range : Bool
  in_range = is_mirn n.mirn && is_day n.day && is_flag n.on

  pub status_passed : in_range ≡ true → 0 ≡ least (status_early n)
  unfolding status_early least
  status_passed e = sym (least_skip 2 _ [] (ap not e))

  pub status_range : in_range ≡ false → 2 ≡ least (status_early n)
  unfolding status_early above
  status_range e = sym (least_first 2 _ [] refl (ap not e))

  pub status_read : least (status_early n) ≡ 0 → (nat_of n.day ≤ 39999) × (cond (eqb (of_z w64 n.on) 1) 1 0 ≡ nat_of n.on)
  unfolding status_early
  status_read e =
      let r : in_range ≡ true = not-false in_range (least_none 1 (not in_range) [] e).0 in
      let a = both (is_mirn n.mirn && is_day n.day) (is_flag n.on) r in
      let b = both (is_mirn n.mirn) (is_day n.day) a.0 in
      ((within_bounds 0 39999 n.day b.1).1, flag_number n.on a.1)

-- ---- on the point's part

module _ (day on : ℕ) (p : List ℤ) where
  pub part_back : (e : Refusal) → number_of e ≡ least (status_rows_of day on (point_from p))
      → (pos (number_of e) ∷ [] ≡ (status_part day on p).0) × (p ≡ (status_part day on p).1)
  unfolding status_part
  part_back e h = go (number_of e) refl
    where
      go : (r : ℕ) → number_of e ≡ r → (pos r ∷ [] ≡ (status_part day on p).0) × (p ≡ (status_part day on p).1)
      go zero z = absurd (omega (arith, z, number_within e))
      go (suc r) z = gives (part_refused 0 (status_rows_of day on) _ p r (sym h ∙ z))

  pub part_done : (u : List ℤ) → 0 ≡ least (status_rows_of day on (point_from p))
      → u ≡ point_numbers (room_of p) (switched_lists day on (point_from p))
      → (pos 0 ∷ [] ≡ (status_part day on p).0) × (u ≡ (status_part day on p).1)
  unfolding status_part
  part_done u e h = rw h (gives (part_entered 0 (status_rows_of day on) _ p (sym e)))

-- ---- the call

module _ (ed : Edition) (fits : Fits ed) (t : List ℤ) (g : ed ≡ edition_of t) (n : StatusNotice) (e : ℕ) (is : e ≡ least (status_early n)) where
  whole : status_call editions t n ≡ on_edition 0 (status n) ed t
  unfolding status_call
  whole = ap (λ ed. on_edition 0 (status n) ed t) (sym g)

  abbrev day : ℕ
  day = nat_of n.day

  abbrev on : ℕ
  on = nat_of n.on

  call : sound ed t ≡ true → CallOn ed (register_of ed t) 0 n.mirn (status_early n) (status_rows_of day on) (λ q. ([], switched_lists day on q)) (status n)
  unfolding status_lists with_offs status_early status_rows above up_to
  call s =
      let ok = (sound_lays ed fits t s).0 in
      record {
        numbered = refl;
        low = refl;
        high = λ q. refl;
        is = status_step n (register_of ed t) ok;
        keeps = status_keeps n ok;
        operator = λ q. refl;
        room = λ q w e. few_offs_lem (few w) _ (offs_after_few day on 8 q.offs w.offs_few (status_clear n q.facts.install (last_end q.recs) q.offs e).room);
      }

  pub status_back : (r : ℕ) → SentBack ed t n.mirn e r
      → (pos r ∷ [] ≡ (status_call editions t n).0) × (t ≡ (status_call editions t n).1)
  status_back r h = let b = call_back ed fits t call (status_call editions t n) whole e is r h in (b.0, b.1)

  pub status_done : {a b : ℕ} → PartFound ed t n.mirn e a b → (x : Numbers) (p : List ℤ)
      → (x ≡ (status_part day on (lent t a b)).0) × (p ≡ (status_part day on (lent t a b)).1)
      → (x ≡ (status_call editions t n).0) × (back_in t a b p ≡ (status_call editions t n).1)
  unfolding status_part
  status_done h x p d =
      let f = call_done ed fits t call (status_call editions t n) whole e is h x p (d.0, d.1, refl) in (f.0, f.1)

-- from an unsound table
pub status_unsound : (t : List ℤ) (n : StatusNotice) (e : Refusal) → Err e ≡ sound_edition t
    → (pos (number_of e) ∷ [] ≡ (status_call editions t n).0) × (t ≡ (status_call editions t n).1)
unfolding status_call
status_unsound t n e h =
    let w = not_sound t h in rw w.0 (gives (call_unsound 0 (status n) (edition_of t) t w.1))
