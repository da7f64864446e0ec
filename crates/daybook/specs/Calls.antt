-- Document 01's numbers for each answer of the code, and lists of calls, from state to state.
use Rattle.std.specs.Prelude.{Bool, not, cond, Result, Ok, Err, ⊤, List, [], ◌∷◌, map, ℕ, ℤ, pos, length, replicate}
use mathlib.Core.Option.{Option, some}
use Rattle.refusals.specs.declared.Refusal.{Refusal}
use Rattle.refusals.specs.Refusals.{number_of}
use Rattle.numbers.specs.Naturals.{nat_of}
use Rattle.numbers.specs.Search.{maybe, is_some}
use Rattle.calendar.specs.declared.Period.{Period}
use Rattle.daybook.specs.declared.NewRegister.{NewRegister}
use Rattle.daybook.specs.declared.Opening.{Opening}
use Rattle.daybook.specs.declared.EnergyNotice.{EnergyNotice}
use Rattle.daybook.specs.declared.StatusNotice.{StatusNotice}
use Rattle.daybook.specs.declared.TransferRequest.{TransferRequest}
use Rattle.daybook.specs.declared.Withdrawal.{Withdrawal}
use Rattle.daybook.specs.declared.Correction.{Correction}
use Rattle.daybook.specs.declared.AccountQuery.{AccountQuery}
use Rattle.daybook.specs.declared.AllocationQuery.{AllocationQuery}
use Rattle.daybook.specs.declared.Settlement.TheVariants.{Registered, Lapsed, Unsettled}
use Rattle.daybook.specs.declared.EnergyEntry.{EnergyEntry}
use Rattle.daybook.specs.declared.EnergyEntry.TheVariants.{Append, Replacement, Recut}
use Rattle.daybook.specs.declared.Allocation.{Allocation}
use Rattle.daybook.specs.declared.TrialCounts.{TrialCounts}
use Rattle.daybook.specs.declared.Edition.{Edition}
use Rattle.daybook.specs.Book.{Book}
use Rattle.daybook.specs.Notices.{least, Numbers, decide, fresh_rows, fresh_book, opening, energy, status, request, withdraw}
use Rattle.daybook.specs.Corrections.{correct}
use Rattle.daybook.specs.Queries.{account, allocate}
use Rattle.daybook.specs.States.{state_row, under}
use Rattle.daybook.specs.Editions.{Editions, edition_no, other_than, convert_rows}
use Rattle.daybook.specs.Trials.{trial}

-- ---- the numbers of an answer: the refusal first, then the fields, every one 0 on a refusal

abbrev pub notice_numbers : Result ⊤ Refusal → Numbers
notice_numbers (Ok u) = pos 0 ∷ []
notice_numbers (Err r) = pos (number_of r) ∷ []

-- An append is 1, a replacement 2 and a recut 3; then how many records were removed, the User that was registered or 0,
-- and whether a request lapsed.
abbrev pub energy_fields : EnergyEntry → Numbers
energy_fields (Append (Registered user)) = pos 1 ∷ pos 0 ∷ pos user ∷ pos 0 ∷ []
energy_fields (Append Lapsed) = pos 1 ∷ pos 0 ∷ pos 0 ∷ pos 1 ∷ []
energy_fields (Append Unsettled) = pos 1 ∷ pos 0 ∷ pos 0 ∷ pos 0 ∷ []
energy_fields Replacement = pos 2 ∷ pos 0 ∷ pos 0 ∷ pos 0 ∷ []
energy_fields (Recut removed) = pos 3 ∷ pos removed ∷ pos 0 ∷ pos 0 ∷ []

abbrev pub energy_numbers : Result EnergyEntry Refusal → Numbers
energy_numbers (Ok e) = pos 0 ∷ energy_fields e
energy_numbers (Err r) = pos (number_of r) ∷ replicate 4 (pos 0)

abbrev pub request_numbers : Result Period Refusal → Numbers
request_numbers (Ok p) = pos 0 ∷ pos p.first.0 ∷ pos p.last.0 ∷ []
request_numbers (Err r) = pos (number_of r) ∷ replicate 2 (pos 0)

abbrev pub correction_numbers : Result (List Bool) Refusal → Numbers
correction_numbers (Ok affected) = pos 0 ∷ map (λ a. cond a (pos 1) (pos 0)) affected
correction_numbers (Err r) = pos (number_of r) ∷ replicate 16 (pos 0)

abbrev pub account_numbers : Result ℤ Refusal → Numbers
account_numbers (Ok sum) = pos 0 ∷ sum ∷ []
account_numbers (Err r) = pos (number_of r) ∷ pos 0 ∷ []

abbrev pub allocation_numbers : Result Allocation Refusal → Numbers
allocation_numbers (Ok a) = pos 0 ∷ a.nsl ∷ a.totals
allocation_numbers (Err r) = pos (number_of r) ∷ replicate 17 (pos 0)

abbrev pub trial_numbers : Result TrialCounts Refusal → Numbers
trial_numbers (Ok c) = pos 0 ∷ pos c.most ∷ pos c.removed ∷ []
trial_numbers (Err r) = pos (number_of r) ∷ replicate 2 (pos 0)

-- ---- calls

-- A call that may change the book, in its edition: its numbers, and the holidays that a request lends.
pub data Notice : Type 0 where
  open! : Opening → Notice
  energy! : EnergyNotice → Notice
  status! : StatusNotice → Notice
  request! : TransferRequest → List ℤ → Notice
  withdraw! : Withdrawal → Notice
  correct! : Correction → Notice

-- A call that only reads: its numbers, and the length of the answer table that an allocation or a trial lends. A trial
-- says how many notices it tries and lends them as a table of numbers.
pub data Query : Type 0 where
  account! : AccountQuery → Query
  allocate! : AllocationQuery → ℕ → Query
  trial! : ℤ → List ℤ → ℕ → Query

-- A call on a named state: its number, and how many of its image's bytes are lent.
pub data StateCall : Type 0 where
  save! : ℤ → ℕ → StateCall
  restore! : ℤ → ℕ → StateCall

-- Any of these; fresh; and a conversion, with the second table that it is lent.
pub data Call : Type 0 where
  fresh! : NewRegister → Call
  notice! : Notice → Call
  query! : Query → Call
  state! : StateCall → Call
  convert! : List ℤ → Call

-- An answer's numbers, and those for the first places of the answer table.
abbrev pub Answer : Type 0
Answer = Numbers × List ℤ

-- What a notice answers and leaves of the book, in an edition of the table.
unfoldable pub noted : Notice → Edition → Book → Numbers × Book
noted (open! n) ed B = opening ed n B
noted (energy! n) ed B = energy ed n B
noted (status! n) ed B = status n B
noted (request! n holidays) ed B = request n holidays B
noted (withdraw! n) ed B = withdraw n B
noted (correct! n) ed B = correct n B

-- What the book answers to a query, in an edition of the table.
unfoldable pub given : Query → Edition → Book → Answer
given (account! n) ed B = (account n B, [])
given (allocate! n room) ed B = allocate n room B
given (trial! count notices room) ed B = trial ed count notices room B

-- ---- lists of calls, from state to state

-- The book, and beside it the edition of the table; and under each state number the book that was saved last, if one
-- was, with its edition.
pub record State : Type 0 where
  pub edition : Edition
  pub book : Book
  pub saved : ℕ → Option (Edition × Book)

-- The state that goes on with another book, in an edition.
abbrev pub on_with : State → Edition × Book → State
on_with S w = record { edition = w.0; book = w.1; saved = S.saved }

-- An accepted fresh, restore or conversion sets the edition (document 02, k). A refusal changes nothing.
unfoldable pub renewed : Editions → NewRegister → State → Numbers × State
renewed E n S =
    decide (least (fresh_rows n)) 0 S ([], on_with S (edition_no E (nat_of n.edition), fresh_book n))

unfoldable pub converted : Editions → ℕ → State → Numbers × State
converted E room S =
    let ed : Edition = other_than E S.edition in
    decide (least (convert_rows ed room S.book)) 0 S ([], on_with S (ed, S.book))

-- A save keeps the book under its number, and a restore takes the book back to that (document 02, d): 17 where nothing
-- was saved.
unfoldable pub stated : StateCall → State → Numbers × State
stated (save! n lent) S =
    let kept : ℕ → Option (Edition × Book) = under (nat_of n) (some (S.edition, S.book)) S.saved in
    decide (least (state_row n lent ∷ [])) 0 S ([], record { edition = S.edition; book = S.book; saved = kept })
stated (restore! n lent) S =
    let kept : Option (Edition × Book) = S.saved (nat_of n) in
    decide (least (state_row n lent ∷ (17, not (is_some kept)) ∷ [])) 0 S ([], maybe S (on_with S) kept)

-- A call, where the two editions are E.
unfoldable pub step : Editions → Call → State → Answer × State
step E (fresh! n) S = let w : Numbers × State = renewed E n S in ((w.0, []), w.1)
step E (notice! c) S =
    let w : Numbers × Book = noted c S.edition S.book in ((w.0, []), on_with S (S.edition, w.1))
step E (query! q) S = (given q S.edition S.book, S)
step E (state! c) S = let w : Numbers × State = stated c S in ((w.0, []), w.1)
step E (convert! t) S = let w : Numbers × State = converted E (length t) S in ((w.0, []), w.1)

-- What a list of calls leaves, and what it answers.
unfoldable pub run : Editions → List Call → State → State
run E [] S = S
run E (c ∷ cs) S = run E cs (step E c S).1

unfoldable pub answers : Editions → List Call → State → List Answer
answers E [] S = []
answers E (c ∷ cs) S = let r : Answer × State = step E c S in r.0 ∷ answers E cs r.1
