-- The lists' own steps: what each notice is on a point's lists. The code follows these, and the laws of this folder say
-- that they are the book's steps. The refusal rows are the book's own.
use Rattle.std.specs.Prelude.{Bool, true, false, ◌&&◌, ◌||◌, cond, List, [], ◌∷◌, ◌++◌, map, ℕ, suc, leb, ltb, eqb, length, ℤ, pos}
use mathlib.Core.Option.{Option, none, some}
use Rattle.numbers.specs.Naturals.{nat_of}
use Rattle.numbers.specs.Search.{maybe, is_some}
use Rattle.calendar.specs.Calendar.{allowable_period}
use Rattle.daybook.specs.declared.Opening.{Opening}
use Rattle.daybook.specs.declared.EnergyNotice.{EnergyNotice}
use Rattle.daybook.specs.declared.StatusNotice.{StatusNotice}
use Rattle.daybook.specs.declared.TransferRequest.{TransferRequest}
use Rattle.daybook.specs.declared.Withdrawal.{Withdrawal}
use Rattle.daybook.specs.declared.Correction.{Correction}
use Rattle.daybook.specs.declared.Edition.{Edition}
use Rattle.daybook.specs.Book.{Entry, Pending, last_of}
use Rattle.daybook.specs.Notices.{Row, least, Numbers, decide, facts_of, opening_rows, Which, append, replacement, recut, which_number, which_of, entry_of, energy_early, energy_rows, beyond, removed, Outcome, registers, lapses, stays, outcome_of, outcome_numbers, status_early, status_rows, request_early, request_rows, period_numbers, pending_of, withdraw_early, withdraw_rows}
use Rattle.daybook.specs.Corrections.{others_request, correct_early, correct_rows_at, correct_at}
use Rattle.daybook.specs.Calls.{Notice, open!, energy!, status!, request!, withdraw!, correct! }
use Rattle.lists.specs.Lists.{Lists, Register, operator_of, point_of, next_after}

-- ---- what is read off the lists

unfoldable pub latest_of : List (ℕ × ℕ) → ℕ × ℕ
latest_of l = maybe (0, 0) (λ x. x) (last_of l)

unfoldable pub last_end : List Entry → Option ℕ
last_end l = maybe none (λ x. some x.end) (last_of l)

-- The record that starts on day d.
unfoldable pub starting_on : List Entry → ℕ → Option Entry
starting_on [] d = none
starting_on (x ∷ l) d = cond (eqb x.start d) (some x) (starting_on l d)

unfoldable pub which_in : Lists → Entry → Which
which_in q x = which_of x.end (starting_on q.recs x.start)

-- The first day from d on that is in no span.
unfoldable pub skip : List (ℕ × Option ℕ) → ℕ → Option ℕ
skip [] d = some d
skip (x ∷ l) d = cond (ltb d x.0) (some d) (maybe none (λ on. cond (ltb d on) (some on) (skip l d)) x.1)

unfoldable pub append_day_of : Lists → Option ℕ
append_day_of q = skip q.offs (maybe q.facts.install suc (last_end q.recs))

-- Does a span hold a day from a to b, a ≤ b?
abbrev pub overlaps : ℕ → ℕ → ℕ × Option ℕ → Bool
overlaps a b x = leb x.0 b && maybe true (ltb a) x.1

unfoldable pub some_overlap : ℕ → ℕ → List (ℕ × Option ℕ) → Bool
some_overlap a b [] = false
some_overlap a b (x ∷ l) = overlaps a b x || some_overlap a b l

-- Does the test hold of the User of some day from d on? A registration has such a day if the next starts after d.
unfoldable pub some_user : (ℕ → Bool) → ℕ → List (ℕ × ℕ) → Bool
some_user test d [] = false
some_user test d (x ∷ l) = (next_after d l && test x.1) || some_user test d l

-- ---- lists that change

-- The first of the list, up to the one that starts on day d or later.
unfoldable pub earlier : {A : Type 0} → (A → ℕ) → ℕ → List A → List A
earlier start d [] = []
earlier start d (x ∷ l) = cond (ltb (start x) d) (x ∷ earlier start d l) []

-- x in the place of the record with its start.
unfoldable pub replaced : Entry → List Entry → List Entry
replaced x [] = []
replaced x (y ∷ l) = cond (eqb y.start x.start) (x ∷ l) (y ∷ replaced x l)

abbrev pub recs_after : Which → Entry → List Entry → List Entry
recs_after append x l = l ++ (x ∷ [])
recs_after replacement x l = replaced x l
recs_after recut x l = earlier (λ (y : Entry). y.start) x.start l ++ (x ∷ [])

-- User u from day d on, for any d: registrations from d on go, and one that would repeat its neighbour's User is left out.
unfoldable pub user_from : ℕ → ℕ → List (ℕ × ℕ) → List (ℕ × ℕ)
user_from d u l =
    let before : List (ℕ × ℕ) = earlier (λ (x : ℕ × ℕ). x.0) d l in
    cond (eqb (latest_of before).1 u) before (before ++ ((d, u) ∷ []))

abbrev pub regs_after : Outcome → ℕ → List (ℕ × ℕ) → List (ℕ × ℕ)
regs_after (registers u) end l = user_from (suc end) u l
regs_after lapses end l = l
regs_after stays end l = l

abbrev pub pending_after : Outcome → Option Pending → Option Pending
pending_after (registers u) o = none
pending_after lapses o = none
pending_after stays o = o

-- The last span ends on day d.
unfoldable pub closed : ℕ → List (ℕ × Option ℕ) → List (ℕ × Option ℕ)
closed d [] = []
closed d (x ∷ []) = (x.0, some d) ∷ []
closed d (x ∷ y ∷ l) = x ∷ closed d (y ∷ l)

unfoldable pub offs_after : ℕ → ℕ → List (ℕ × Option ℕ) → List (ℕ × Option ℕ)
offs_after day on l = cond (eqb on 0) (l ++ ((day, none) ∷ [])) (closed day l)

-- ---- a point's lists with one part changed

unfoldable pub with_offs : List (ℕ × Option ℕ) → Lists → Lists
with_offs l q = record { facts = q.facts; regs = q.regs; offs = l; recs = q.recs; pending = q.pending }

unfoldable pub with_regs : List (ℕ × ℕ) → Lists → Lists
with_regs l q = record { facts = q.facts; regs = l; offs = q.offs; recs = q.recs; pending = q.pending }

unfoldable pub with_pending_lists : Option Pending → Lists → Lists
with_pending_lists o q = record { facts = q.facts; regs = q.regs; offs = q.offs; recs = q.recs; pending = o }

-- ---- a call on the point of a MIRN

unfoldable pub find_lists : ℕ → List Lists → Option Lists
find_lists m [] = none
find_lists m (q ∷ qs) = cond (eqb m q.facts.mirn) (some q) (find_lists m qs)

unfoldable pub put_lists : ℕ → Lists → List Lists → List Lists
put_lists m q [] = []
put_lists m q (x ∷ xs) = cond (eqb m x.facts.mirn) (q ∷ xs) (x ∷ put_lists m q xs)

unfoldable pub with_lists : ℕ → Lists → Register → Register
with_lists m q R = record { nondaily = R.nondaily; daily = R.daily; points = put_lists m q R.points }

unfoldable pub on_lists :
    ℕ → ℤ → List Row → (Lists → List Row) → (Lists → Numbers × Lists) → Register → Numbers × Register
on_lists k m early rows effect R =
    let found : Option Lists = find_lists (nat_of m) R.points in
    let after : Numbers × Register = maybe ([], R) (λ q. ((effect q).0, with_lists (nat_of m) (effect q).1 R)) found in
    decide (least (early ++ maybe ((4, true) ∷ []) rows found)) k R after

-- ---- the notices

unfoldable pub opened_lists : Opening → Lists
opened_lists n =
    record { facts = facts_of n; regs = (nat_of n.install, nat_of n.user) ∷ []; offs = []; recs = []; pending = none }

-- The book's operators of the points.
abbrev pub operators_of : List Lists → List ℕ
operators_of qs = map (λ (q : Lists). operator_of q.facts.operator) qs

unfoldable pub opening_lists : Edition → Opening → Register → Numbers × Register
opening_lists ed n R =
    decide (least (opening_rows ed n (is_some (find_lists (nat_of n.mirn) R.points)) (operators_of R.points))) 0 R
    ([], record { nondaily = R.nondaily; daily = R.daily; points = R.points ++ (opened_lists n ∷ []) })

unfoldable pub entered_lists : Entry → Which → Outcome → Lists → Numbers × Lists
entered_lists x w o q =
    let regs : List (ℕ × ℕ) = regs_after o x.end q.regs in (
      map pos (which_number w ∷ removed w x.start q.recs ∷ outcome_numbers o),
      record {
        facts = q.facts;
        regs = regs;
        offs = q.offs;
        recs = recs_after w x q.recs;
        pending = pending_after o q.pending;
      },
    )

unfoldable pub enter_lists : Entry → Lists → Numbers × Lists
enter_lists x q =
    let w : Which = which_in q x in entered_lists x w (outcome_of w q.facts.section x (latest_of q.regs).0 q.pending) q

unfoldable pub energy_lists_rows : Edition → EnergyNotice → Register → Lists → List Row
energy_lists_rows ed n R q =
    let x : Entry = entry_of n in
    energy_rows ed n q.facts.kind (which_in q x) (append_day_of q)
    (leb x.start x.end && some_overlap x.start x.end q.offs)
    (beyond R.nondaily R.daily q.facts.kind x.energy) (length q.recs)

unfoldable pub energy_lists : Edition → EnergyNotice → Register → Numbers × Register
energy_lists ed n R = on_lists 4 n.mirn (energy_early n) (energy_lists_rows ed n R) (enter_lists (entry_of n)) R

unfoldable pub status_lists : StatusNotice → Register → Numbers × Register
status_lists n R =
    on_lists 0 n.mirn (status_early n)
    (λ q. status_rows (nat_of n.day) (nat_of n.on) q.facts.install (last_end q.recs) q.offs)
    (λ q. ([], with_offs (offs_after (nat_of n.day) (nat_of n.on) q.offs) q)) R

unfoldable pub request_lists : TransferRequest → List ℤ → Register → Numbers × Register
request_lists n holidays R =
    let period : Option (ℕ × ℕ) = allowable_period holidays (nat_of n.proposed) (nat_of n.nochange) in
    on_lists 2 n.mirn (request_early n holidays)
    (λ q. request_rows (nat_of n.user) period q.pending q.regs (latest_of q.regs).1)
    (λ q. (period_numbers period, with_pending_lists (pending_of (nat_of n.user) period) q)) R

unfoldable pub withdraw_lists : Withdrawal → Register → Numbers × Register
withdraw_lists n R =
    on_lists 0 n.mirn (withdraw_early n) (λ q. withdraw_rows (nat_of n.user) q.pending)
    (λ q. ([], with_pending_lists none q)) R

unfoldable pub corrected_lists : ℕ → ℕ → Lists → Lists
corrected_lists user day q =
    with_regs (user_from day user q.regs) (with_pending_lists (others_request user q.pending) q)

-- The flags, and below the rows, are those of the days.
unfoldable pub correct_lists_at : ℕ → ℕ → Lists → Numbers × Lists
correct_lists_at user day q = ((correct_at user day (point_of q)).0, corrected_lists user day q)

unfoldable pub correct_lists : Correction → Register → Numbers × Register
correct_lists n R =
    on_lists 16 n.mirn (correct_early n)
    (λ q. correct_rows_at (nat_of n.user) (nat_of n.day) (nat_of n.notice) (point_of q))
    (correct_lists_at (nat_of n.user) (nat_of n.day)) R

-- Each notice on the lists.
unfoldable pub notice_lists : Notice → Edition → Register → Numbers × Register
notice_lists (open! n) ed R = opening_lists ed n R
notice_lists (energy! n) ed R = energy_lists ed n R
notice_lists (status! n) ed R = status_lists n R
notice_lists (request! n holidays) ed R = request_lists n holidays R
notice_lists (withdraw! n) ed R = withdraw_lists n R
notice_lists (correct! n) ed R = correct_lists n R
