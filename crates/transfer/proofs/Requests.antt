-- The request call: the rows of its numbers and holidays, and what it does once it has been told where its point is.
-- Assumes nothing.
use mathlib.Core.Path.{◌≡◌, refl, sym, ap, ◌∙◌}
use mathlib.Core.Bool.{Bool, true, false, not, ◌&&◌, cond}
use mathlib.Core.Option.{Option}
use mathlib.Core.List.{List, [], ◌∷◌}
use Prim.Native.Nat.{ℕ, suc, ◌≤◌}
use borrow.Author.Tests.{not-false}
use lib.IntN.{ℤ, pos}
use Rattle.std.specs.Prelude.{Err}
use Rattle.refusals.specs.declared.Refusal.{Refusal}
use Rattle.refusals.specs.Refusals.{number_of}
use Rattle.numbers.specs.Naturals.{nat_of}
use Rattle.numbers.proofs.Bools.{both}
use Rattle.calendar.specs.Calendar.{is_day, holiday_list, allowable_period}
use Rattle.daybook.specs.declared.Edition.{Edition}
use Rattle.daybook.specs.declared.TransferRequest.{TransferRequest}
use Rattle.daybook.specs.Notices.{is_mirn, is_user, is_flag, least, Numbers, request_early, request_rows, request}
use Rattle.daybook.specs.Editions.{editions}
use Rattle.lists.specs.InnerSteps.{with_pending_lists, request_lists}
use Rattle.lists.proofs.Rows.{above, up_to, least_first, least_skip, least_none}
use Rattle.lists.proofs.Bounds.{within_bounds}
use Rattle.lists.proofs.TransferStep.{request_step, request_keeps}
use Rattle.layout.specs.Layout.{Fits, edition_of, register_of}
use Rattle.layout.specs.Sound.{sound}
use Rattle.layout.specs.Calls.{on_edition}
use Rattle.layout.proofs.TableSound.{sound_lays}
use Rattle.table.proofs.Laws.{lent, back_in}
use Rattle.table.specs.InnerTable.{sound_edition}
use Rattle.table.proofs.Locating.{PartFound, SentBack, not_sound}
use Rattle.table.proofs.Calls.{call_unsound, gives}
use Rattle.table.proofs.OnPart.{CallOn, on_early, call_back, call_done}
use Rattle.transfer.specs.Transfer.{request_call}
use Rattle.transfer.specs.InnerParts.{request_rows_of, request_effect, request_part}
use Rattle.transfer.proofs.Points.{pending_room}

-- ---- rows 2 and 3

module _ (n : TransferRequest) where
  abbrev pub in_range : Bool
  in_range = is_mirn n.mirn && is_user n.user && is_day n.proposed && is_flag n.nochange

module _ (n : TransferRequest) (holidays : List ℤ) where
  pub request_range : in_range n ≡ false → 2 ≡ least (request_early n holidays)
  unfolding request_early above
  request_range e = sym (least_first 2 _ _ refl (ap not e))

  past_2 : in_range n ≡ true → least (request_early n holidays) ≡ least ((3, not (holiday_list holidays)) ∷ [])
  unfolding request_early
  past_2 r = least_skip 2 _ _ (ap not r)

  pub request_holidays : in_range n ≡ true → holiday_list holidays ≡ false → 3 ≡ least (request_early n holidays)
  unfolding above
  request_holidays r e = sym (past_2 r ∙ least_first 3 _ [] refl (ap not e))

  pub request_passed : in_range n ≡ true → holiday_list holidays ≡ true → 0 ≡ least (request_early n holidays)
  unfolding least
  request_passed r h = sym (past_2 r ∙ least_skip 3 _ [] (ap not h))

  pub request_bounds : least (request_early n holidays) ≡ 0 → (nat_of n.user ≤ 16) × (nat_of n.proposed ≤ 39999)
  unfolding request_early
  request_bounds e =
      let r : in_range n ≡ true = not-false (in_range n) (least_none 1 (not (in_range n)) _ e).0 in
      let three = (both (is_mirn n.mirn && is_user n.user && is_day n.proposed) (is_flag n.nochange) r).0 in
      let proposed = both (is_mirn n.mirn && is_user n.user) (is_day n.proposed) three in
      let user = both (is_mirn n.mirn) (is_user n.user) proposed.0 in
      ((within_bounds 1 16 n.user user.1).1, (within_bounds 0 39999 n.proposed proposed.1).1)

-- ---- the call

module _ (ed : Edition) (fits : Fits ed) (t : List ℤ) (g : ed ≡ edition_of t) (n : TransferRequest) (holidays : List ℤ) (e : ℕ) (is : e ≡ least (request_early n holidays)) where
  whole : request_call editions t n holidays ≡ on_edition 2 (request n holidays) ed t
  unfolding request_call
  whole = ap (λ ed. on_edition 2 (request n holidays) ed t) (sym g)

  abbrev user : ℕ
  user = nat_of n.user

  abbrev pub period_of : Option (ℕ × ℕ)
  period_of = allowable_period holidays (nat_of n.proposed) (nat_of n.nochange)

  call : sound ed t ≡ true → CallOn ed (register_of ed t) 2 n.mirn (request_early n holidays) (request_rows_of user period_of) (request_effect user period_of) (request n holidays)
  unfolding request_lists with_pending_lists request_early request_rows above up_to
  call s =
      let ok = (sound_lays ed fits t s).0 in
      record {
        numbered = refl;
        low = refl;
        high = λ q. refl;
        is = request_step n holidays (register_of ed t) ok;
        keeps = request_keeps n holidays ok;
        operator = λ q. refl;
        room = λ q w e. pending_room _ q w;
      }

  -- a row of its numbers or of its holidays sends it back from any table
  pub request_early_lem : (r : ℕ) → e ≡ suc r → request_call editions t n holidays ≡ (pos (cond (sound ed t) (suc r) 1) ∷ pos 0 ∷ pos 0 ∷ [], t)
  request_early_lem r z = whole ∙ go (sound ed t) refl
    where
      go : (s : Bool) → sound ed t ≡ s → on_edition 2 (request n holidays) ed t ≡ (pos (cond s (suc r) 1) ∷ pos 0 ∷ pos 0 ∷ [], t)
      go false s = call_unsound 2 (request n holidays) ed t s
      go true s = on_early ed fits t s (call s) r (sym is ∙ z)

  pub request_back : (r : ℕ) → SentBack ed t n.mirn e r
      → (pos r ∷ pos 0 ∷ pos 0 ∷ [] ≡ (request_call editions t n holidays).0)
      × (t ≡ (request_call editions t n holidays).1)
  request_back r h = let b = call_back ed fits t call (request_call editions t n holidays) whole e is r h in (b.0, b.1)

  pub request_done : {a b : ℕ} → PartFound ed t n.mirn e a b → (x : Numbers) (p : List ℤ)
      → (x ≡ (request_part user period_of (lent t a b)).0) × (p ≡ (request_part user period_of (lent t a b)).1)
      → (x ≡ (request_call editions t n holidays).0) × (back_in t a b p ≡ (request_call editions t n holidays).1)
  unfolding request_part
  request_done h x p d =
      let f = call_done ed fits t call (request_call editions t n holidays) whole e is h x p (d.0, d.1, refl) in
      (f.0, f.1)

-- from an unsound table
pub request_unsound : (t : List ℤ) (n : TransferRequest) (holidays : List ℤ) (e : Refusal) → Err e ≡ sound_edition t
    → (pos (number_of e) ∷ pos 0 ∷ pos 0 ∷ [] ≡ (request_call editions t n holidays).0)
    × (t ≡ (request_call editions t n holidays).1)
unfolding request_call
request_unsound t n holidays e h =
    let w = not_sound t h in rw w.0 (gives (call_unsound 2 (request n holidays) (edition_of t) t w.1))
