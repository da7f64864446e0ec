-- Lists of calls through the hub, each on the register's bytes that the one before left, and the same in the day book.
use Rattle.std.specs.Prelude.{Bool, cond, List, [], ◌∷◌, ◌++◌, ℕ, ◌*◌, ◌/◌, leb, ℤ, pos, length, take, drop}
use Rattle.numbers.specs.Naturals.{nat_of, same_z}
use Rattle.daybook.specs.Notices.{Numbers}
use Rattle.daybook.specs.declared.NewRegister.{NewRegister}
use Rattle.daybook.specs.declared.Opening.{Opening}
use Rattle.daybook.specs.declared.EnergyNotice.{EnergyNotice}
use Rattle.daybook.specs.declared.StatusNotice.{StatusNotice}
use Rattle.daybook.specs.declared.TransferRequest.{TransferRequest}
use Rattle.daybook.specs.declared.Withdrawal.{Withdrawal}
use Rattle.daybook.specs.declared.Correction.{Correction}
use Rattle.daybook.specs.declared.AccountQuery.{AccountQuery}
use Rattle.daybook.specs.declared.AllocationQuery.{AllocationQuery}
use Rattle.daybook.specs.States.{under}
use Rattle.daybook.specs.Editions.{Editions}
use Rattle.daybook.specs.Calls.{Notice, open!, energy!, status!, request!, withdraw!, correct!, Query, account!, allocate!, trial!, StateCall, save!, restore!, Call, fresh!, notice!, query!, state!, convert!, State, Answer, step}
use Rattle.history.specs.Runs.{Lent, notice_call, query_call}
use Rattle.opening.specs.Opening.{fresh_call}
use Rattle.images.specs.Images.{save_call, restore_call}
use Rattle.conversion.specs.Conversion.{convert_call}
use Rattle.buffers.specs.Buffers.{table_in, numbers_held, written_bytes, written, image_in}

-- The exported functions that take a register, each with its numbers: those that may change it, those that only read,
-- of which a trial says beside its count the bytes of its notices, those of a named state, which say beside its number
-- how many of its image's bytes they are lent; and the two that make a register.
pub data HubNotice : Type 0 where
  petlumas_open : Opening → HubNotice
  petlumas_energy : EnergyNotice → HubNotice
  petlumas_status : StatusNotice → HubNotice
  petlumas_request : TransferRequest → HubNotice
  petlumas_withdraw : Withdrawal → HubNotice
  petlumas_correct : Correction → HubNotice

pub data HubQuery : Type 0 where
  petlumas_account : AccountQuery → HubQuery
  petlumas_allocate : AllocationQuery → HubQuery
  petlumas_trial : ℤ → List ℕ → HubQuery

pub data HubState : Type 0 where
  petlumas_save : ℤ → ℕ → HubState
  petlumas_restore : ℤ → ℕ → HubState

pub data HubCall : Type 0 where
  petlumas_fresh : NewRegister → HubCall
  hub_notice : HubNotice → HubCall
  hub_query : HubQuery → HubCall
  hub_state : HubState → HubCall
  petlumas_convert : HubCall

-- A call, and the bytes that it lends beside the register, the images and a trial's notices: its second buffer, a
-- request's holidays, an allocation's or a trial's answer table or a conversion's second register (no other call has
-- one: its bytes do not matter and stay), and its answer buffer.
pub record LentCall : Type 0 where
  pub call : HubCall
  pub second : List ℕ
  pub answer : List ℕ

-- What a call returns, and the bytes that it leaves of its second buffer and of its answer buffer.
abbrev pub Reply : Type 0
Reply = ℤ × (List ℕ × List ℕ)

-- ---- the calls, by the bytes that they lend

-- A request's holidays are those that its bytes spell.
unfoldable pub notice_in : HubNotice → List ℕ → Notice
notice_in (petlumas_open n) second = open! n
notice_in (petlumas_energy n) second = energy! n
notice_in (petlumas_status n) second = status! n
notice_in (petlumas_request n) second = request! n (numbers_held second)
notice_in (petlumas_withdraw n) second = withdraw! n
notice_in (petlumas_correct n) second = correct! n

-- An answer table has 8 bytes a number.
unfoldable pub query_in : HubQuery → List ℕ → Query
query_in (petlumas_account n) second = account! n
query_in (petlumas_allocate n) second = allocate! n (length second / 8)
query_in (petlumas_trial count notices) second = trial! count (numbers_held notices) (length second / 8)

unfoldable pub state_in : HubState → StateCall
state_in (petlumas_save n lent) = save! n lent
state_in (petlumas_restore n lent) = restore! n lent

abbrev pub call_in : HubCall → List ℕ → Call
call_in (petlumas_fresh n) second = fresh! n
call_in (hub_notice c) second = notice! (notice_in c second)
call_in (hub_query q) second = query! (query_in q second)
call_in (hub_state c) second = state! (state_in c)
call_in petlumas_convert second = convert! (table_in second)

-- ---- on bytes

-- What is lent from call to call: the register, and for each state number an image of its own.
pub record LentBytes : Type 0 where
  pub register : List ℕ
  pub images : ℕ → List ℕ

-- The same with the register as a table.
abbrev pub lent_in : LentBytes → Lent
lent_in L = record { table = table_in L.register; images = L.images }

-- A save writes the first bytes of its number's image, as many as it says, and a restore reads them.
unfoldable pub state_step : Editions → HubState → List ℕ → LentBytes → ℤ × (LentBytes × List ℕ)
state_step E (petlumas_save n lent) answer L =
    let image : List ℕ = L.images (nat_of n) in
    let first : List ℕ = take lent image in
    let call : Numbers × List ℕ = save_call E (table_in L.register) n (image_in first answer) in
    let w : ℤ × (List ℕ × List ℕ) = written_bytes call first answer in
    let images : ℕ → List ℕ = under (nat_of n) (w.1.0 ++ drop lent image) L.images in
    (w.0, (record { register = L.register; images = images }, w.1.1))
state_step E (petlumas_restore n lent) answer L =
    let first : List ℕ = take lent (L.images (nat_of n)) in
    let call : Numbers × List ℤ = restore_call E (table_in L.register) n (image_in first answer) in
    let w : ℤ × (List ℕ × List ℕ) = written call L.register answer in
    (w.0, (record { register = w.1.0; images = L.images }, w.1.1))

-- The same with another register.
abbrev pub with_register : LentBytes → List ℕ → LentBytes
with_register L b = record { register = b; images = L.images }

-- The reply to a call, and what it leaves of what it is lent: the definitions that the hub's contracts equate the code
-- with. Fresh and a notice write the register and leave their second buffer; a query only reads the register. (An
-- account has no numbers for a second buffer: `written` with none of them leaves that, and is `replied`.) A conversion
-- reads the register and writes its second buffer. Where it returns 0 that is the register from then on, and its reply
-- has the second buffer as it was lent.
unfoldable pub byte_step : Editions → HubCall → List ℕ → List ℕ → LentBytes → Reply × LentBytes
byte_step E (petlumas_fresh n) second answer L =
    let w : ℤ × (List ℕ × List ℕ) = written (fresh_call E (table_in L.register) n) L.register answer in
    ((w.0, (second, w.1.1)), with_register L w.1.0)
byte_step E (hub_notice c) second answer L =
    let w : ℤ × (List ℕ × List ℕ) = written (notice_call E (notice_in c second) (table_in L.register)) L.register answer in
    ((w.0, (second, w.1.1)), with_register L w.1.0)
byte_step E (hub_query q) second answer L =
    (written (query_call E (query_in q second) (table_in L.register)) second answer, L)
byte_step E (hub_state c) second answer L =
    let w : ℤ × (LentBytes × List ℕ) = state_step E c answer L in ((w.0, (second, w.1.1)), w.1.0)
byte_step E petlumas_convert second answer L =
    let w : ℤ × (List ℕ × List ℕ) = written (convert_call E (table_in L.register) (table_in second)) second answer in
    let on : Bool = same_z w.0 (pos 0) in
    ((w.0, (cond on second w.1.0, w.1.1)), with_register L (cond on w.1.0 L.register))

-- What a list of calls leaves of what is lent, and the replies.
unfoldable pub byte_run : Editions → List LentCall → LentBytes → LentBytes
byte_run E [] L = L
byte_run E (h ∷ hs) L = byte_run E hs (byte_step E h.call h.second h.answer L).1

unfoldable pub replies : Editions → List LentCall → LentBytes → List Reply
replies E [] L = []
replies E (h ∷ hs) L =
    let r : Reply × LentBytes = byte_step E h.call h.second h.answer L in r.0 ∷ replies E hs r.1

-- ---- in the day book, by its own answers alone

-- An answer buffer that is too short for the book's answer, 8 bytes a number, leaves the book as it was.
unfoldable pub book_step : Editions → HubCall → List ℕ → List ℕ → State → Reply × State
book_step E h second answer S =
    let r : Answer × State = step E (call_in h second) S in
    (written r.0 second answer, cond (leb (8 * length r.0.0) (length answer)) r.1 S)

unfoldable pub book_run : Editions → List LentCall → State → State
book_run E [] S = S
book_run E (h ∷ hs) S = book_run E hs (book_step E h.call h.second h.answer S).1

unfoldable pub book_replies : Editions → List LentCall → State → List Reply
book_replies E [] S = []
book_replies E (h ∷ hs) S =
    let r : Reply × State = book_step E h.call h.second h.answer S in r.0 ∷ book_replies E hs r.1
