-- The withdraw call: the row of its numbers, and what it does once it has been told where its point is. Assumes nothing.
use mathlib.Core.Path.{◌≡◌, refl, sym, ap}
use mathlib.Core.Bool.{Bool, true, false, not, ◌&&◌}
use mathlib.Core.Option.{none}
use mathlib.Core.List.{List, [], ◌∷◌}
use Prim.Native.Nat.{ℕ, ◌≤◌}
use borrow.Author.Tests.{not-false}
use lib.IntN.{ℤ, pos}
use Rattle.std.specs.Prelude.{Err}
use Rattle.refusals.specs.declared.Refusal.{Refusal}
use Rattle.refusals.specs.Refusals.{number_of}
use Rattle.numbers.specs.Naturals.{nat_of}
use Rattle.numbers.proofs.Bools.{both}
use Rattle.daybook.specs.declared.Edition.{Edition}
use Rattle.daybook.specs.declared.Withdrawal.{Withdrawal}
use Rattle.daybook.specs.Notices.{is_mirn, is_user, least, Numbers, withdraw_early, withdraw_rows, withdraw}
use Rattle.daybook.specs.Editions.{editions}
use Rattle.lists.specs.InnerSteps.{with_pending_lists, withdraw_lists}
use Rattle.lists.proofs.Rows.{above, up_to, least_first, least_skip, least_none}
use Rattle.lists.proofs.Bounds.{within_bounds}
use Rattle.lists.proofs.TransferStep.{withdraw_step, withdraw_keeps}
use Rattle.layout.specs.Layout.{Fits, edition_of, register_of}
use Rattle.layout.specs.Sound.{sound}
use Rattle.layout.specs.Calls.{on_edition}
use Rattle.layout.proofs.TableSound.{sound_lays}
use Rattle.table.proofs.Laws.{lent, back_in}
use Rattle.table.specs.InnerTable.{sound_edition}
use Rattle.table.proofs.Locating.{PartFound, SentBack, not_sound}
use Rattle.table.proofs.Calls.{call_unsound, gives}
use Rattle.table.proofs.OnPart.{CallOn, call_back, call_done}
use Rattle.transfer.specs.Transfer.{withdraw_call}
use Rattle.transfer.specs.InnerParts.{withdraw_rows_of, withdraw_effect, withdraw_part}
use Rattle.transfer.proofs.Points.{pending_room}

-- ---- row 2

module _ (n : Withdrawal) where
  abbrev pub in_range : Bool
  in_range = is_mirn n.mirn && is_user n.user

  pub withdrawal_passed : in_range ≡ true → 0 ≡ least (withdraw_early n)
  unfolding withdraw_early least
  withdrawal_passed e = sym (least_skip 2 _ [] (ap not e))

  pub withdrawal_refused : in_range ≡ false → 2 ≡ least (withdraw_early n)
  unfolding withdraw_early above
  withdrawal_refused e = sym (least_first 2 _ [] refl (ap not e))

  pub withdrawal_user : least (withdraw_early n) ≡ 0 → 1 ≤ nat_of n.user
  unfolding withdraw_early
  withdrawal_user e =
      let r : in_range ≡ true = not-false in_range (least_none 1 (not in_range) [] e).0 in
      (within_bounds 1 16 n.user (both (is_mirn n.mirn) (is_user n.user) r).1).0

-- ---- the call

module _ (ed : Edition) (fits : Fits ed) (t : List ℤ) (g : ed ≡ edition_of t) (n : Withdrawal) (e : ℕ) (is : e ≡ least (withdraw_early n)) where
  whole : withdraw_call editions t n ≡ on_edition 0 (withdraw n) ed t
  unfolding withdraw_call
  whole = ap (λ ed. on_edition 0 (withdraw n) ed t) (sym g)

  call : sound ed t ≡ true → CallOn ed (register_of ed t) 0 n.mirn (withdraw_early n) (withdraw_rows_of (nat_of n.user)) withdraw_effect (withdraw n)
  unfolding withdraw_lists with_pending_lists withdraw_early withdraw_rows above up_to
  call s =
      let ok = (sound_lays ed fits t s).0 in
      record {
        numbered = refl;
        low = refl;
        high = λ q. refl;
        is = withdraw_step n (register_of ed t) ok;
        keeps = withdraw_keeps n ok;
        operator = λ q. refl;
        room = λ q w e. pending_room none q w;
      }

  pub withdraw_back : (r : ℕ) → SentBack ed t n.mirn e r
      → (pos r ∷ [] ≡ (withdraw_call editions t n).0) × (t ≡ (withdraw_call editions t n).1)
  withdraw_back r h = let b = call_back ed fits t call (withdraw_call editions t n) whole e is r h in (b.0, b.1)

  pub withdraw_done : {a b : ℕ} → PartFound ed t n.mirn e a b → (x : Numbers) (p : List ℤ)
      → (x ≡ (withdraw_part (nat_of n.user) (lent t a b)).0) × (p ≡ (withdraw_part (nat_of n.user) (lent t a b)).1)
      → (x ≡ (withdraw_call editions t n).0) × (back_in t a b p ≡ (withdraw_call editions t n).1)
  unfolding withdraw_part
  withdraw_done h x p d =
      let f = call_done ed fits t call (withdraw_call editions t n) whole e is h x p (d.0, d.1, refl) in (f.0, f.1)

-- from an unsound table
pub withdraw_unsound : (t : List ℤ) (n : Withdrawal) (e : Refusal) → Err e ≡ sound_edition t
    → (pos (number_of e) ∷ [] ≡ (withdraw_call editions t n).0) × (t ≡ (withdraw_call editions t n).1)
unfolding withdraw_call
withdraw_unsound t n e h =
    let w = not_sound t h in rw w.0 (gives (call_unsound 0 (withdraw n) (edition_of t) t w.1))
