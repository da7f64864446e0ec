-- request and withdraw: on the book's days they are the steps on the lists, and they keep the register well-formed.
use mathlib.Core.Path.{◌≡◌, refl, ap, ap₂}
use mathlib.Core.Bool.{true, false}
use mathlib.Core.Option.{Option, none, some}
use mathlib.Core.List.{List, [], ◌++◌}
use Prim.Native.Nat.{ℕ, ◌≤◌}
use native.Mathlib.Omega.{arith}
use lib.Dec.{eqb}
use lib.ListN.{length}
use lib.IntN.{ℤ}
use borrow.Author.Tests.{leb-false, not-false}
use Rattle.numbers.specs.Naturals.{nat_of}
use Rattle.numbers.specs.Search.{maybe, is_some}
use Rattle.numbers.proofs.Bools.{both}
use Rattle.calendar.specs.Calendar.{holiday_list, allowable_period}
use Rattle.calendar.proofs.Business.{period_bound}
use Rattle.daybook.specs.declared.TransferRequest.{TransferRequest}
use Rattle.daybook.specs.declared.Withdrawal.{Withdrawal}
use Rattle.daybook.specs.declared.Edition.{Edition}
use Rattle.daybook.specs.Book.{Pending, Point, with_pending, registrations, latest}
use Rattle.daybook.specs.Notices.{Row, least, Numbers, request_early, request_rows, period_numbers, pending_of, request, withdraw_early, withdraw_rows, withdraw}
use Rattle.lists.specs.Lists.{Lists, Register, point_of, book_of}
use Rattle.lists.specs.InnerSteps.{latest_of, with_pending_lists, request_lists, withdraw_lists}
use Rattle.lists.specs.InnerWell.{PendingOk, nopending, pending, Well, WellFormed}
use Rattle.lists.proofs.Rows.{least_none}
use Rattle.lists.proofs.Registrations.{registrations_is, latest_is_lem}
use Rattle.lists.proofs.Points.{on_lists_lem, on_lists_keeps}
use Rattle.lists.proofs.Bounds.{within_bounds, both_hold}

-- ---- another pending request

-- A point with another request is the point of the lists with that request.
pub pending_is : (o : Option Pending) (q : Lists) → with_pending o (point_of q) ≡ point_of (with_pending_lists o q)
unfolding with_pending with_pending_lists point_of
pending_is o q = refl

-- It is well-formed if the request is, and keeps its MIRN.
pub pending_keeps : {room : ℕ} (o : Option Pending) (q : Lists) → Well room q → PendingOk q.regs o
    → Well room (with_pending_lists o q) × ((with_pending_lists o q).facts.mirn ≡ q.facts.mirn)
unfolding with_pending_lists
pending_keeps {room} o q w ok =
    let well : Well room (with_pending_lists o q) = record {
      facts_ok = w.facts_ok;
      regs_ok = w.regs_ok;
      regs_start = w.regs_start;
      regs_few = w.regs_few;
      offs_ok = w.offs_ok;
      offs_few = w.offs_few;
      recs_ok = w.recs_ok;
      recs_few = w.recs_few;
      pending_ok = ok;
    } in
    (well, refl)

-- ---- request

-- What holds of a request that isn't sent back, by its allowable period and its point's pending request, registrations
-- and latest User.
pub record RequestClear (n : TransferRequest) (holidays : List ℤ) (period : Option (ℕ × ℕ)) (before : Option Pending)
    (regs : List (ℕ × ℕ)) (latestUser : ℕ) : Type 0
  where
    pub mirn_low : 1 ≤ nat_of n.mirn
    pub mirn_high : nat_of n.mirn ≤ 9999999999
    pub user_low : 1 ≤ nat_of n.user
    pub user_high : nat_of n.user ≤ 16
    pub proposed_ok : nat_of n.proposed ≤ 39999
    pub nochange_ok : nat_of n.nochange ≤ 1
    pub holidays_ok : holiday_list holidays ≡ true
    pub idle : is_some before ≡ false
    pub other : eqb latestUser (nat_of n.user) ≡ false
    pub period_known : is_some period ≡ true
    pub room : length regs ≤ 7

pub request_clear : (n : TransferRequest) (holidays : List ℤ) (period : Option (ℕ × ℕ)) (before : Option Pending)
    (regs : List (ℕ × ℕ)) (latestUser : ℕ)
    → least (request_early n holidays ++ request_rows (nat_of n.user) period before regs latestUser) ≡ 0
    → RequestClear n holidays period before regs latestUser
unfolding request_early request_rows
request_clear n holidays period before regs latestUser z =
    let two = least_none 1 _ _ z in
    let three = least_none 2 _ _ two.1 in
    let ten = least_none 9 _ _ three.1 in
    let twelve = least_none 11 _ _ ten.1 in
    let thirteen = least_none 12 _ _ twelve.1 in
    let sixteen = least_none 15 _ [] thirteen.1 in
    let nochange = both_hold _ _ two.0 in
    let proposed = both _ _ nochange.0 in
    let user = both _ _ proposed.0 in
    let m = within_bounds 1 9999999999 n.mirn user.0 in
    let u = within_bounds 1 16 n.user user.1 in
    record {
      mirn_low = m.0;
      mirn_high = m.1;
      user_low = u.0;
      user_high = u.1;
      proposed_ok = (within_bounds 0 39999 n.proposed proposed.1).1;
      nochange_ok = (within_bounds 0 1 n.nochange nochange.1).1;
      holidays_ok = not-false _ three.0;
      idle = ten.0;
      other = twelve.0;
      period_known = not-false _ thirteen.0;
      room = omega (arith, leb-false 8 (length regs) sixteen.0);
    }

-- The allowable period, the rows of a point's lists, and the effect where none of them applies.
abbrev period_of : TransferRequest → List ℤ → Option (ℕ × ℕ)
period_of n holidays = allowable_period holidays (nat_of n.proposed) (nat_of n.nochange)

abbrev request_rows_of : TransferRequest → List ℤ → Lists → List Row
request_rows_of n holidays q = request_rows (nat_of n.user) (period_of n holidays) q.pending q.regs (latest_of q.regs).1

abbrev request_effect_of : TransferRequest → List ℤ → Lists → Numbers × Lists
request_effect_of n holidays q =
    (period_numbers (period_of n holidays), with_pending_lists (pending_of (nat_of n.user) (period_of n holidays)) q)

-- The request that is entered is well-formed.
pub pending_of_ok : (n : TransferRequest) (holidays : List ℤ) (period : Option (ℕ × ℕ)) {before : Option Pending}
    {regs : List (ℕ × ℕ)}
    → allowable_period holidays (nat_of n.proposed) (nat_of n.nochange) ≡ period
    → RequestClear n holidays period before regs (latest_of regs).1 → PendingOk regs (pending_of (nat_of n.user) period)
pending_of_ok n holidays none e clear = nopending
pending_of_ok n holidays (some (first, last)) e clear =
    let b = period_bound holidays (nat_of n.proposed) (nat_of n.nochange) first last e clear.proposed_ok in
    pending {q = record { user = nat_of n.user; first = first; last = last }} clear.user_low clear.user_high
    clear.other (omega arith) b.2 clear.room

module _ (n : TransferRequest) (holidays : List ℤ) {room : ℕ} (q : Lists) (w : Well room q) where
  -- the book's rows of the days are the rows of the lists
  request_rows_is : request_rows (nat_of n.user) (period_of n holidays) (point_of q).pending (registrations (point_of q))
      (latest (point_of q)).1 ≡ request_rows_of n holidays q
  request_rows_is =
      unfold point_of in
      ap₂ (request_rows (nat_of n.user) (period_of n holidays) q.pending) (registrations_is w) (ap (λ x. x.1) (latest_is_lem w))

  -- the effect leaves the point well-formed, and its MIRN as it was
  request_effect_keeps : least (request_early n holidays ++ request_rows_of n holidays q) ≡ 0
      → Well room (request_effect_of n holidays q).1 × ((request_effect_of n holidays q).1.facts.mirn ≡ q.facts.mirn)
  request_effect_keeps z =
      pending_keeps (pending_of (nat_of n.user) (period_of n holidays)) q w
      (pending_of_ok n holidays (period_of n holidays) refl
      (request_clear n holidays (period_of n holidays) q.pending q.regs (latest_of q.regs).1 z))

-- request on the days is request on the lists.
pub request_step : {ed : Edition} (n : TransferRequest) (holidays : List ℤ) (R : Register) → WellFormed ed R
    → request n holidays (book_of R) ≡ ((request_lists n holidays R).0, book_of (request_lists n holidays R).1)
unfolding request request_lists
request_step n holidays R ok =
    on_lists_lem 2 n.mirn (request_early n holidays) _ (request_rows_of n holidays) _ (request_effect_of n holidays)
    (request_rows_is n holidays)
    (λ q w z. ap {B = Numbers × Point} (λ p. (period_numbers (period_of n holidays), p)) (pending_is _ q)) R ok.points_ok

-- request keeps a register well-formed.
pub request_keeps : {ed : Edition} (n : TransferRequest) (holidays : List ℤ) {R : Register} → WellFormed ed R
    → WellFormed ed (request_lists n holidays R).1
unfolding request_lists
request_keeps n holidays ok =
    on_lists_keeps 2 n.mirn (request_early n holidays) (request_rows_of n holidays) (request_effect_of n holidays)
    (request_effect_keeps n holidays) ok

-- ---- withdraw

-- What holds of a withdrawal that isn't sent back, by its point's pending request: the request is its User's.
pub record WithdrawClear (n : Withdrawal) (before : Option Pending) : Type 0 where
  pub mirn_low : 1 ≤ nat_of n.mirn
  pub mirn_high : nat_of n.mirn ≤ 9999999999
  pub user_low : 1 ≤ nat_of n.user
  pub user_high : nat_of n.user ≤ 16
  pub own : maybe false (λ q. eqb q.user (nat_of n.user)) before ≡ true

pub withdraw_clear : (n : Withdrawal) (before : Option Pending)
    → least (withdraw_early n ++ withdraw_rows (nat_of n.user) before) ≡ 0 → WithdrawClear n before
unfolding withdraw_early withdraw_rows
withdraw_clear n before z =
    let two = least_none 1 _ _ z in
    let eleven = least_none 10 _ [] two.1 in
    let user = both_hold _ _ two.0 in
    let m = within_bounds 1 9999999999 n.mirn user.0 in
    let u = within_bounds 1 16 n.user user.1 in
    record { mirn_low = m.0; mirn_high = m.1; user_low = u.0; user_high = u.1; own = not-false _ eleven.0 }

-- The book's rows of the days are the rows of the lists.
withdraw_rows_is : (n : Withdrawal) (q : Lists)
    → withdraw_rows (nat_of n.user) (point_of q).pending ≡ withdraw_rows (nat_of n.user) q.pending
unfolding point_of
withdraw_rows_is n q = refl

-- withdraw on the days is withdraw on the lists.
pub withdraw_step : {ed : Edition} (n : Withdrawal) (R : Register) → WellFormed ed R
    → withdraw n (book_of R) ≡ ((withdraw_lists n R).0, book_of (withdraw_lists n R).1)
unfolding withdraw withdraw_lists
withdraw_step n R ok =
    on_lists_lem 0 n.mirn (withdraw_early n) _ (λ q. withdraw_rows (nat_of n.user) q.pending) _
    (λ q. ([], with_pending_lists none q)) (λ q w. withdraw_rows_is n q)
    (λ q w z. ap {B = Numbers × Point} (λ p. ([], p)) (pending_is none q)) R ok.points_ok

-- withdraw keeps a register well-formed.
pub withdraw_keeps : {ed : Edition} (n : Withdrawal) {R : Register} → WellFormed ed R → WellFormed ed (withdraw_lists n R).1
unfolding withdraw_lists
withdraw_keeps n ok =
    on_lists_keeps 0 n.mirn (withdraw_early n) (λ q. withdraw_rows (nat_of n.user) q.pending)
    (λ q. ([], with_pending_lists none q)) (λ q w z. pending_keeps none q w nopending) ok
