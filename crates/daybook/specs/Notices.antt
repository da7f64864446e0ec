-- Six calls that change the book, each with its rows of "Notices sent back". Row 1 is the table's, not the book's.
use Rattle.std.specs.Prelude.{Bool, true, false, not, ◌&&◌, ◌||◌, cond, List, [], ◌∷◌, ◌++◌, map, ℕ, zero, suc, ◌+◌, ◌-◌, min, leb, ltb, eqb, length, replicate, ℤ, pos, negsuc, nat_abs}
use mathlib.Core.Option.{Option, none, some}
use Rattle.std.specs.Int.Signed.{le_z}
use Rattle.numbers.specs.Naturals.{nat_of}
use Rattle.numbers.specs.Search.{maybe, is_some, first_from}
use Rattle.calendar.specs.Calendar.{within, is_day, holiday_list, allowable_period}
use Rattle.daybook.specs.declared.NewRegister.{NewRegister}
use Rattle.daybook.specs.declared.Opening.{Opening}
use Rattle.daybook.specs.declared.Facts.{Facts}
use Rattle.daybook.specs.declared.EnergyNotice.{EnergyNotice}
use Rattle.daybook.specs.declared.StatusNotice.{StatusNotice}
use Rattle.daybook.specs.declared.TransferRequest.{TransferRequest}
use Rattle.daybook.specs.declared.Withdrawal.{Withdrawal}
use Rattle.daybook.specs.declared.Edition.{Edition}
use Rattle.daybook.specs.Book.{Entry, Pending, Point, Book, from_on, fill, with_entries, with_off, with_fro, with_pending, last_of, record_at, records, registrations, spans, latest, last_filled, append_day}

-- A row: the number that is returned, and whether the row applies.
abbrev pub Row : Type 0
Row = ℕ × Bool

-- The highest number of a row.
abbrev pub highest_refusal : ℕ
highest_refusal = 22

-- The lowest number of a row that applies; 0 if none does.
abbrev pub smaller : ℕ → ℕ → ℕ
smaller n zero = n
smaller n (suc m) = min n (suc m)

unfoldable pub least : List Row → ℕ
least [] = 0
least (r ∷ rs) = let others : ℕ = least rs in let lower : ℕ = smaller r.0 others in cond r.1 lower others

-- Document 01's numbers of an answer: the refusal, then the fields.
abbrev pub Numbers : Type 0
Numbers = List ℤ

-- A call with k fields that row r sends back answers r and zeros, and leaves the book, or whatever else it changes, as it
-- was. With no such row, r = 0, it answers the fields and leaves what comes with them.
unfoldable pub decide : {X : Type 0} → ℕ → ℕ → X → Numbers × X → Numbers × X
decide zero k x w = (pos 0 ∷ w.0, w.1)
decide (suc r) k x w = (pos (suc r) ∷ replicate k (pos 0), x)

abbrev pub is_mirn : ℤ → Bool
is_mirn z = within (pos 1) (pos 9999999999) z

abbrev pub is_user : ℤ → Bool
is_user z = within (pos 1) (pos 16) z

abbrev pub users : List ℕ
users = 1 ∷ 2 ∷ 3 ∷ 4 ∷ 5 ∷ 6 ∷ 7 ∷ 8 ∷ 9 ∷ 10 ∷ 11 ∷ 12 ∷ 13 ∷ 14 ∷ 15 ∷ 16 ∷ []

abbrev pub is_flag : ℤ → Bool
is_flag z = within (pos 0) (pos 1) z

abbrev pub is_range : ℤ → Bool
is_range z = within (negsuc 0) (pos 1000000) z

-- The number of an edition: 0 standard, 1 long.
abbrev pub is_edition : ℤ → Bool
is_edition z = within (pos 0) (pos 1) z

unfoldable pub find : ℕ → List Point → Option Point
find m [] = none
find m (p ∷ ps) = cond (eqb m p.facts.mirn) (some p) (find m ps)

-- q in the place of the point of MIRN m.
unfoldable pub put : ℕ → Point → List Point → List Point
put m q [] = []
put m q (p ∷ ps) = cond (eqb m p.facts.mirn) (q ∷ ps) (p ∷ put m q ps)

unfoldable pub with_point : ℕ → Point → Book → Book
with_point m q B = record { nondaily = B.nondaily; daily = B.daily; points = put m q B.points }

-- A call with k fields on the point of MIRN m: the rows of its numbers, those of the point, and its effect on the point.
-- An unknown MIRN leaves only 1 to 4 to test.
unfoldable pub on_point : ℕ → ℤ → List Row → (Point → List Row) → (Point → Numbers × Point) → Book → Numbers × Book
on_point k m early rows effect B =
    let found : Option Point = find (nat_of m) B.points in
    let after : Numbers × Book = maybe ([], B) (λ p. ((effect p).0, with_point (nat_of m) (effect p).1 B)) found in
    decide (least (early ++ maybe ((4, true) ∷ []) rows found)) k B after

-- ---- fresh: no points, in the edition that it names (document 02, k)

unfoldable pub fresh_rows : NewRegister → List Row
fresh_rows n = (2, not (is_range n.nondaily && is_range n.daily && is_edition n.edition)) ∷ []

abbrev pub fresh_book : NewRegister → Book
fresh_book n = record { nondaily = n.nondaily; daily = n.daily; points = [] }

-- ---- open

-- A base load of -1 becomes 1,000 (8.11.5).
unfoldable pub facts_of : Opening → Facts
facts_of n =
    let base : ℕ = cond (le_z (pos 0) n.base) (nat_of n.base) 1000 in
    record {
      mirn = nat_of n.mirn;
      kind = nat_of n.kind;
      install = nat_of n.install;
      base = base;
      section = nat_of n.section;
      operator = nat_of n.operator;
    }

-- The User is FRO from the install day on.
unfoldable pub opened : Opening → Point
opened n =
    let fro : ℕ → ℕ = from_on (nat_of n.install) (nat_of n.user) (λ d. 0) in
    record { facts = facts_of n; entry = λ d. none; off = λ d. false; fro = fro; pending = none }

-- The operators of the points, in order of opening.
abbrev pub operators_in : List Point → List ℕ
operators_in ps = map (λ (p : Point). p.facts.operator) ps

-- How many points operator o holds, and how many of those reserved for it are unfilled (document 02, g).
unfoldable pub held : List ℕ → ℕ → ℕ
held [] o = 0
held (x ∷ l) o = cond (eqb x o) 1 0 + held l o

abbrev pub unfilled : Edition → List ℕ → ℕ → ℕ
unfilled ed operators o = ed.reserve - held operators o

-- A sum over the four operators.
abbrev pub over_four : (ℕ → ℕ) → ℕ
over_four f = f 1 + f 2 + f 3 + f 4

-- The unfilled reserves of the other three.
unfoldable pub others_unfilled : Edition → List ℕ → ℕ → ℕ
others_unfilled ed operators o = over_four (λ x. cond (eqb x o) 0 (unfilled ed operators x))

-- An opening needs a free row, and points left after it that cover the others' unfilled reserves (document 02, g).
unfoldable pub opening_rows : Edition → Opening → Bool → List ℕ → List Row
opening_rows ed n known operators = (
  2,
  not (is_mirn n.mirn && is_flag n.kind && is_user n.user && is_day n.install
      && within (negsuc 0) (pos 10000) n.base && within (pos 0) (pos 1) n.section
      && within (pos 1) (pos 4) n.operator),
)
    ∷ (5, known)
    ∷ (16, leb ed.points (length operators))
    ∷ (19, ltb (ed.points - suc (length operators)) (others_unfilled ed operators (nat_of n.operator))) ∷ []

unfoldable pub opening : Edition → Opening → Book → Numbers × Book
opening ed n B =
    decide (least (opening_rows ed n (is_some (find (nat_of n.mirn) B.points)) (operators_in B.points))) 0 B
    ([], record { nondaily = B.nondaily; daily = B.daily; points = B.points ++ (opened n ∷ []) })

-- ---- energy (3.6.8, 3.6.9)

-- Which of the three a notice is: document 01's append, replacement and recut.
pub data Which : Type 0 where
  append replacement recut : Which

abbrev pub which_number : Which → ℕ
which_number append = 1
which_number replacement = 2
which_number recut = 3

-- By the standing entry that starts on the notice's start: with its end a replacement, with another a recut.
abbrev pub which_of : ℕ → Option Entry → Which
which_of end o = maybe append (λ e. cond (eqb e.end end) replacement recut) o

unfoldable pub which : Point → Entry → Which
which p x = which_of x.end (record_at p.entry x.start)

unfoldable pub entry_of : EnergyNotice → Entry
entry_of n = record { start = nat_of n.start; end = nat_of n.end; energy = n.energy; type = nat_of n.type_ }

unfoldable pub energy_early : EnergyNotice → List Row
energy_early n = (
  2,
  not (is_mirn n.mirn && is_day n.start && is_day n.end
      && within (negsuc 999999) (pos 1000000) n.energy && within (pos 0) (pos 2) n.type_ && is_flag n.confirmed),
)
    ∷ []

-- A non-daily record has start < end, a daily one start = end.
abbrev pub fits_kind : ℕ → ℕ → ℕ → Bool
fits_kind kind start end = cond (eqb kind 0) (ltb start end) (eqb start end)

-- Is a day from a to b off?
unfoldable pub off_within : Point → ℕ → ℕ → Bool
off_within p a b = is_some (first_from p.off a (suc b - a))

-- Beyond ± the kind's range (3.6.8(c)); -1 is no range.
abbrev pub beyond : ℤ → ℤ → ℕ → ℤ → Bool
beyond nondaily daily kind z =
    let range : ℤ = cond (eqb kind 0) nondaily daily in le_z (pos 0) range && ltb (nat_abs range) (nat_abs z)

unfoldable pub energy_rows : Edition → EnergyNotice → ℕ → Which → Option ℕ → Bool → Bool → ℕ → List Row
energy_rows ed n kind w append_day off unusual count =
    (6, not (fits_kind kind (nat_of n.start) (nat_of n.end)))
    ∷ (7, eqb (which_number w) 1 && not (maybe false (eqb (nat_of n.start)) append_day))
    ∷ (8, off)
    ∷ (9, unusual && eqb (nat_of n.confirmed) 0)
    ∷ (16, eqb (which_number w) 1 && leb ed.records count) ∷ []

-- What stays of the days: a recut first empties every day from its start on.
abbrev pub kept : Which → ℕ → (ℕ → Option Entry) → ℕ → Option Entry
kept append start f = f
kept replacement start f = f
kept recut start f = from_on start none f

unfoldable pub later_starts : ℕ → List Entry → ℕ
later_starts start [] = 0
later_starts start (x ∷ l) = cond (ltb start x.start) 1 0 + later_starts start l

-- How many entries with a later start are removed.
abbrev pub removed : Which → ℕ → List Entry → ℕ
removed append start l = 0
removed replacement start l = 0
removed recut start l = later_starts start l

-- What a pending request comes to (*ours*): its User is registered, it lapses, or it stays.
pub data Outcome : Type 0 where
  registers : ℕ → Outcome
  lapses stays : Outcome

-- In section 1 a transfer "can only be registered on an actual meter reading" (clause 1.1.2(f)(iii); document 02, a).
abbrev pub type_registers : ℕ → ℕ → Bool
type_registers section type = eqb section 0 || eqb type 0

-- An append registers by its own end, in the period and with end + 1 after the latest registration's start, and by its
-- type, where the section asks for one.
abbrev pub append_registers : ℕ → Entry → ℕ → Pending → Bool
append_registers section x latestStart q =
    leb q.first x.end && leb x.end q.last && ltb latestStart (suc x.end) && type_registers section x.type

-- Only an append settles the request (document 02, c). Where it registers nobody and ends after the period, the request
-- lapses, in either section. A replacement or recut leaves it.
abbrev pub outcome_of : Which → ℕ → Entry → ℕ → Option Pending → Outcome
outcome_of append section x latestStart none = stays
outcome_of append section x latestStart (some q) =
    cond (append_registers section x latestStart q) (registers q.user) (cond (ltb q.last x.end) lapses stays)
outcome_of replacement section x latestStart o = stays
outcome_of recut section x latestStart o = stays

-- The User registered or 0, and whether the request lapsed.
abbrev pub outcome_numbers : Outcome → List ℕ
outcome_numbers (registers u) = u ∷ 0 ∷ []
outcome_numbers lapses = 0 ∷ 1 ∷ []
outcome_numbers stays = 0 ∷ 0 ∷ []

abbrev pub settled : Outcome → ℕ → Point → Point
settled (registers u) end p = with_fro (from_on (suc end) u p.fro) (with_pending none p)
settled lapses end p = with_pending none p
settled stays end p = p

-- The entry goes onto its days, and then the request comes to o.
unfoldable pub entered : Entry → Which → Outcome → Point → Numbers × Point
entered x w o p = (
  map pos (which_number w ∷ removed w x.start (records p) ∷ outcome_numbers o),
  settled o x.end (with_entries (fill x (kept w x.start p.entry)) p),
)

unfoldable pub enter : Entry → Point → Numbers × Point
enter x p =
    let w : Which = which p x in entered x w (outcome_of w p.facts.section x (latest p).0 p.pending) p

-- The rows that the point decides.
unfoldable pub energy_rows_at : Edition → EnergyNotice → Book → Point → List Row
energy_rows_at ed n B p =
    let x : Entry = entry_of n in
    energy_rows ed n p.facts.kind (which p x) (append_day p) (off_within p x.start x.end)
    (beyond B.nondaily B.daily p.facts.kind x.energy) (length (records p))

unfoldable pub energy : Edition → EnergyNotice → Book → Numbers × Book
energy ed n B = on_point 4 n.mirn (energy_early n) (energy_rows_at ed n B) (enter (entry_of n)) B

-- ---- status

unfoldable pub status_early : StatusNotice → List Row
status_early n = (2, not (is_mirn n.mirn && is_day n.day && is_flag n.on)) ∷ []

-- By the last span. Off while off, or at or before the last on day; on while on, or not after the off day.
abbrev pub cannot_off : ℕ → Option (ℕ × Option ℕ) → Bool
cannot_off d o = maybe false (λ span. maybe true (leb d) span.1) o

abbrev pub cannot_on : ℕ → Option (ℕ × Option ℕ) → Bool
cannot_on d o = maybe true (λ span. maybe (leb d span.0) (λ on. true) span.1) o

unfoldable pub status_rows : ℕ → ℕ → ℕ → Option ℕ → List (ℕ × Option ℕ) → List Row
status_rows day on install last_filled spans = (
  14,
  cond (eqb on 1) (cannot_on day (last_of spans))
      (cannot_off day (last_of spans) || maybe false (leb day) last_filled || ltb day install),
)
    ∷ (16, eqb on 0 && leb 8 (length spans)) ∷ []

-- Every day from there on is off, or is not.
unfoldable pub switched : ℕ → ℕ → Point → Point
switched day on p = with_off (from_on day (eqb on 0) p.off) p

unfoldable pub status : StatusNotice → Book → Numbers × Book
status n B =
    on_point 0 n.mirn (status_early n)
    (λ p. status_rows (nat_of n.day) (nat_of n.on) p.facts.install (last_filled p) (spans p))
    (λ p. ([], switched (nat_of n.day) (nat_of n.on) p)) B

-- ---- request and withdraw

unfoldable pub request_early : TransferRequest → List ℤ → List Row
request_early n holidays =
    (2, not (is_mirn n.mirn && is_user n.user && is_day n.proposed && is_flag n.nochange))
    ∷ (3, not (holiday_list holidays)) ∷ []

unfoldable pub request_rows : ℕ → Option (ℕ × ℕ) → Option Pending → List (ℕ × ℕ) → ℕ → List Row
request_rows user period pending registrations latestUser =
    (10, is_some pending) ∷ (12, eqb latestUser user) ∷ (13, not (is_some period))
    ∷ (16, leb 8 (length registrations)) ∷ []

abbrev pub period_numbers : Option (ℕ × ℕ) → Numbers
period_numbers o = maybe [] (λ period. pos period.0 ∷ pos period.1 ∷ []) o

abbrev pub pending_of : ℕ → Option (ℕ × ℕ) → Option Pending
pending_of user o = maybe none (λ period. some (record { user = user; first = period.0; last = period.1 })) o

unfoldable pub request : TransferRequest → List ℤ → Book → Numbers × Book
request n holidays B =
    let period : Option (ℕ × ℕ) = allowable_period holidays (nat_of n.proposed) (nat_of n.nochange) in
    on_point 2 n.mirn (request_early n holidays)
    (λ p. request_rows (nat_of n.user) period p.pending (registrations p) (latest p).1)
    (λ p. (period_numbers period, with_pending (pending_of (nat_of n.user) period) p)) B

unfoldable pub withdraw_early : Withdrawal → List Row
withdraw_early n = (2, not (is_mirn n.mirn && is_user n.user)) ∷ []

unfoldable pub withdraw_rows : ℕ → Option Pending → List Row
withdraw_rows user pending = (11, not (maybe false (λ q. eqb q.user user) pending)) ∷ []

unfoldable pub withdraw : Withdrawal → Book → Numbers × Book
withdraw n B =
    on_point 0 n.mirn (withdraw_early n) (λ p. withdraw_rows (nat_of n.user) p.pending)
    (λ p. ([], with_pending none p)) B
