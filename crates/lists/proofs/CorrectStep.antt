-- correct: on the book's days it is the step on the lists, and it keeps the register well-formed.
use mathlib.Core.Path.{◌≡◌, refl, sym, ◌∙◌, ap}
use mathlib.Core.Bool.{Bool, true, false, not, ◌&&◌, cond}
use mathlib.Core.Option.{Option, none, some}
use mathlib.Core.List.{List, [], ◌++◌}
use Prim.Native.Nat.{ℕ, ◌≤◌}
use native.Mathlib.Omega.{arith}
use lib.Dec.{ltb, eqb}
use lib.ListN.{length}
use borrow.Author.Tests.{leb-true, ltb-false, eqb-false, ne_eqb, not-false}
use Rattle.numbers.specs.Naturals.{nat_of}
use Rattle.numbers.specs.Search.{is_some}
use Rattle.numbers.proofs.Bools.{both}
use Rattle.calendar.specs.Calendar.{is_day}
use Rattle.daybook.specs.declared.Correction.{Correction}
use Rattle.daybook.specs.declared.Edition.{Edition}
use Rattle.daybook.specs.Book.{Pending, Point, registrations, with_fro, with_pending}
use Rattle.daybook.specs.Notices.{Row, least, Numbers, is_mirn}
use Rattle.daybook.specs.Corrections.{others_request, corrected, permitted, full, correct_early, correct_rows, correct_rows_at, correct_at, correct}
use Rattle.lists.specs.Lists.{Lists, Register, book_facts, off_on, entry_on, point_of, book_of}
use Rattle.lists.specs.InnerSteps.{latest_of, user_from, with_regs, with_pending_lists, corrected_lists, correct_lists_at, correct_lists}
use Rattle.lists.specs.InnerWell.{PendingOk, nopending, pending, Well, WellFormed}
use Rattle.lists.proofs.Rows.{least_none}
use Rattle.lists.proofs.Registrations.{user_from_lem, regs_scan, regs_from_lem, starts_from, latest_from}
use Rattle.lists.proofs.Points.{on_lists_lem, on_lists_keeps}
use Rattle.lists.proofs.Bounds.{within_bounds, both_hold}

-- ---- where no row applies

-- What row 2 tells of the numbers that a point's lists take.
pub record CorrectNumbers (n : Correction) : Type 0 where
  pub user_low : 1 ≤ nat_of n.user
  pub user_high : nat_of n.user ≤ 16
  pub day_ok : nat_of n.day ≤ 39999

pub correct_numbers : (n : Correction) (rows : List Row) → least (correct_early n ++ rows) ≡ 0
    → CorrectNumbers n × (least rows ≡ 0)
unfolding correct_early
correct_numbers n rows z =
    let two = least_none 1 _ _ z in
    let day = both _ _ (both_hold _ (is_day n.notice) two.0).0 in
    let user = both (is_mirn n.mirn) _ day.0 in
    let u = within_bounds 1 16 n.user user.1 in (
      record {
        user_low = u.0;
        user_high = u.1;
        day_ok = (within_bounds 0 39999 n.day day.1).1;
      },
      two.1,
    )

-- the last row, where those before it don't apply
past : (outside unchanged full : Bool) → outside ≡ false → unchanged ≡ false
    → (not outside && not unchanged && full) ≡ false
    → full ≡ false
past outside unchanged full a b e = rw (a, b) at e

-- The correction day is on or after install, and there is room.
pub correct_clear : (user day notice : ℕ) (p : Point) → least (correct_rows_at user day notice p) ≡ 0
    → (p.facts.install ≤ day) × (full (corrected user day p) ≡ false)
unfolding correct_rows_at correct_rows
correct_clear user day notice p z =
    let twenty = least_none 19 _ _ z in
    let one = least_none 20 _ _ twenty.1 in
    let sixteen = least_none 15 _ [] one.1 in
    let period : permitted p.facts.install notice day ≡ true = not-false _ twenty.0 in
    (leb-true _ _ (both _ _ (both _ _ period).0).0, past _ _ _ twenty.0 one.0 sixteen.0)

-- ---- the step is the book's

module _ (user day : ℕ) {room : ℕ} (q : Lists) (w : Well room q) where
  -- the point corrected is the point of the lists corrected
  pub corrected_is : corrected user day (point_of q) ≡ point_of (corrected_lists user day q)
  unfolding corrected corrected_lists with_fro with_pending with_regs with_pending_lists point_of
  corrected_is = λ i. record {
    facts = book_facts q.facts;
    entry = entry_on q.recs;
    off = off_on q.offs;
    fro = sym (user_from_lem w.regs_ok day user) i;
    pending = others_request user q.pending;
  }

  correct_at_is : correct_at user day (point_of q)
      ≡ ((correct_lists_at user day q).0, point_of (correct_lists_at user day q).1)
  unfolding correct_lists_at correct_at
  correct_at_is = ap {B = Numbers × Point} (λ p. ((correct_at user day (point_of q)).0, p)) corrected_is

  -- how many registrations it has
  module _ (from : q.facts.install ≤ day) (day_ok : day ≤ 40000) (user_low : 1 ≤ user) (user_high : user ≤ 16) where
    pub full_is : full (corrected user day (point_of q))
        ≡ ltb (cond (is_some (others_request user q.pending)) 7 8) (length (user_from day user q.regs))
    unfolding full registrations corrected_lists with_regs with_pending_lists point_of
    full_is =
        ap full corrected_is
        ∙ ap (λ l. ltb (cond (is_some (others_request user q.pending)) 7 8) (length l))
        (regs_scan (regs_from_lem w.regs_ok day user from day_ok user_low user_high))

    few : (limit : ℕ) → ltb limit (length (user_from day user q.regs)) ≡ false
        → length (user_from day user q.regs) ≤ limit
    few limit e = ltb-false limit _ e

    -- another's request stays, and fits beside them
    request_keeps : (o : Option Pending) → PendingOk q.regs o
        → ltb (cond (is_some (others_request user o)) 7 8) (length (user_from day user q.regs)) ≡ false
        → (length (user_from day user q.regs) ≤ 8) × PendingOk (user_from day user q.regs) (others_request user o)
    request_keeps none p e = (few 8 e, nopending)
    request_keeps (some r) (pending a b c d f g) e = go (eqb r.user user) refl e
      where
        go : (t : Bool) → eqb r.user user ≡ t
            → ltb (cond (is_some (cond t none (some r))) 7 8) (length (user_from day user q.regs)) ≡ false
            → (length (user_from day user q.regs) ≤ 8)
            × PendingOk (user_from day user q.regs) (cond t none (some r))
        go true t e = (few 8 e, nopending)
        go false t e =
            let l : length (user_from day user q.regs) ≤ 7 = few 7 e in
            let ne : eqb (latest_of (user_from day user q.regs)).1 r.user ≡ false =
            ap (λ v. eqb v r.user) (latest_from day user q.regs)
            ∙ ne_eqb user r.user (λ z. eqb-false r.user user t (sym z)) in
            (omega arith, pending a b ne d f l)

    pub corrected_keeps : full (corrected user day (point_of q)) ≡ false → Well room (corrected_lists user day q)
    unfolding corrected_lists with_regs with_pending_lists
    corrected_keeps e =
        let after = request_keeps q.pending w.pending_ok (sym full_is ∙ e) in
        record {
          facts_ok = w.facts_ok;
          regs_ok = regs_from_lem w.regs_ok day user from day_ok user_low user_high;
          regs_start = starts_from w.regs_start day user from user_low;
          regs_few = after.0;
          offs_ok = w.offs_ok;
          offs_few = w.offs_few;
          recs_ok = w.recs_ok;
          recs_few = w.recs_few;
          pending_ok = after.1;
        }

-- correct on the days is correct on the lists.
pub correct_step : {ed : Edition} (n : Correction) (R : Register) → WellFormed ed R
    → correct n (book_of R) ≡ ((correct_lists n R).0, book_of (correct_lists n R).1)
unfolding correct correct_lists
correct_step n R ok =
    on_lists_lem 16 n.mirn (correct_early n) _ _ _ (correct_lists_at (nat_of n.user) (nat_of n.day)) (λ q w. refl)
    (λ q w z. correct_at_is (nat_of n.user) (nat_of n.day) q w) R ok.points_ok

-- correct leaves a point well-formed, and a register.
pub correct_well : (n : Correction) {room : ℕ} (q : Lists) → Well room q
    → least (correct_early n ++ correct_rows_at (nat_of n.user) (nat_of n.day) (nat_of n.notice) (point_of q)) ≡ 0
    → Well room (correct_lists_at (nat_of n.user) (nat_of n.day) q).1
unfolding correct_lists_at point_of
correct_well n q w z =
    let numbers = correct_numbers n _ z in
    let clear = correct_clear (nat_of n.user) (nat_of n.day) (nat_of n.notice) (point_of q) numbers.1 in
    let c = numbers.0 in
    let h : nat_of n.day ≤ 39999 = c.day_ok in
    corrected_keeps (nat_of n.user) (nat_of n.day) q w clear.0 (omega arith) c.user_low c.user_high
    clear.1

pub correct_keeps : {ed : Edition} (n : Correction) {R : Register} → WellFormed ed R
    → WellFormed ed (correct_lists n R).1
unfolding correct_lists correct_lists_at corrected_lists with_regs with_pending_lists
correct_keeps n ok =
    on_lists_keeps 16 n.mirn (correct_early n) _ (correct_lists_at (nat_of n.user) (nat_of n.day))
    (λ q w z. (correct_well n q w z, refl)) ok
