-- The correct call: the row of its numbers, and what it does once it has been told where its point is. Assumes nothing.
use mathlib.Core.Path.{◌≡◌, refl, sym, ap}
use mathlib.Core.Bool.{Bool, true, false, not, ◌&&◌}
use mathlib.Core.List.{List, [], ◌∷◌}
use Prim.Native.Nat.{ℕ}
use lib.IntN.{ℤ, pos}
use lib.ListN.{replicate}
use Rattle.std.specs.Prelude.{Err}
use Rattle.refusals.specs.declared.Refusal.{Refusal}
use Rattle.refusals.specs.Refusals.{number_of}
use Rattle.numbers.specs.Naturals.{nat_of}
use Rattle.calendar.specs.Calendar.{is_day}
use Rattle.daybook.specs.declared.Edition.{Edition}
use Rattle.daybook.specs.declared.Correction.{Correction}
use Rattle.daybook.specs.Notices.{is_mirn, is_user, least, Numbers}
use Rattle.daybook.specs.Corrections.{correct_early, correct_rows, correct_rows_at, correct}
use Rattle.daybook.specs.Editions.{editions}
use Rattle.lists.specs.InnerSteps.{with_regs, with_pending_lists, corrected_lists, correct_lists_at, correct_lists}
use Rattle.lists.proofs.Rows.{above, up_to, least_first, least_skip}
use Rattle.lists.proofs.CorrectStep.{CorrectNumbers, correct_numbers, correct_step, correct_keeps, correct_well}
use Rattle.layout.specs.Layout.{Fits, edition_of, register_of}
use Rattle.layout.specs.Sound.{sound}
use Rattle.layout.specs.Calls.{on_edition}
use Rattle.layout.proofs.Numbers.{few}
use Rattle.layout.proofs.TableSound.{sound_lays}
use Rattle.table.proofs.Laws.{lent, back_in}
use Rattle.table.specs.InnerTable.{sound_edition}
use Rattle.table.proofs.Locating.{PartFound, SentBack, not_sound}
use Rattle.table.proofs.Calls.{call_unsound, gives}
use Rattle.table.proofs.OnPart.{CallOn, call_back, call_done}
use Rattle.correction.specs.Correction.{correct_call}
use Rattle.correction.specs.InnerParts.{correct_rows_of, correct_part}

-- ---- row 2

module _ (n : Correction) where
  abbrev pub in_range : Bool
  in_range = is_mirn n.mirn && is_user n.user && is_day n.day && is_day n.notice

  pub correction_passed : in_range ≡ true → 0 ≡ least (correct_early n)
  unfolding correct_early least
  correction_passed e = sym (least_skip 2 _ [] (ap not e))

  pub correction_refused : in_range ≡ false → 2 ≡ least (correct_early n)
  unfolding correct_early above
  correction_refused e = sym (least_first 2 _ [] refl (ap not e))

  pub in_bounds : least (correct_early n) ≡ 0 → CorrectNumbers n
  unfolding correct_early
  in_bounds e = (correct_numbers n [] e).0

-- ---- the call

module _ (ed : Edition) (fits : Fits ed) (t : List ℤ) (g : ed ≡ edition_of t) (n : Correction) (e : ℕ)
    (is : e ≡ least (correct_early n)) where
  whole : correct_call editions t n ≡ on_edition 16 (correct n) ed t
  unfolding correct_call
  whole = ap (λ ed. on_edition 16 (correct n) ed t) (sym g)

  call : sound ed t ≡ true
      → CallOn ed (register_of ed t) 16 n.mirn (correct_early n)
      (correct_rows_of (nat_of n.user) (nat_of n.day) (nat_of n.notice))
      (correct_lists_at (nat_of n.user) (nat_of n.day)) (correct n)
  unfolding correct_lists correct_lists_at corrected_lists with_regs with_pending_lists correct_early correct_rows_at correct_rows above up_to
  call s =
      let ok = (sound_lays ed fits t s).0 in
      record {
        numbered = refl;
        low = refl;
        high = λ q. refl;
        is = correct_step n (register_of ed t) ok;
        keeps = correct_keeps n ok;
        operator = λ q. refl;
        room = λ q w e. few (correct_well n q w e);
      }

  pub correct_back : (r : ℕ) → SentBack ed t n.mirn e r
      → (pos r ∷ replicate 16 (pos 0) ≡ (correct_call editions t n).0) × (t ≡ (correct_call editions t n).1)
  correct_back r h = let b = call_back ed fits t call (correct_call editions t n) whole e is r h in (b.0, b.1)

  pub correct_done : {a b : ℕ} → PartFound ed t n.mirn e a b → (x : Numbers) (p : List ℤ)
      → (x ≡ (correct_part (nat_of n.user) (nat_of n.day) (nat_of n.notice) (lent t a b)).0)
      × (p ≡ (correct_part (nat_of n.user) (nat_of n.day) (nat_of n.notice) (lent t a b)).1)
      → (x ≡ (correct_call editions t n).0) × (back_in t a b p ≡ (correct_call editions t n).1)
  unfolding correct_part
  correct_done h x p d =
      let f = call_done ed fits t call (correct_call editions t n) whole e is h x p (d.0, d.1, refl) in (f.0, f.1)

-- from an unsound table
pub correct_unsound : (t : List ℤ) (n : Correction) (e : Refusal) → Err e ≡ sound_edition t
    → (pos (number_of e) ∷ replicate 16 (pos 0) ≡ (correct_call editions t n).0) × (t ≡ (correct_call editions t n).1)
unfolding correct_call
correct_unsound t n e h =
    let w = not_sound t h in rw w.0 (gives (call_unsound 16 (correct n) (edition_of t) t w.1))
