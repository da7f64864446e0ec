-- Lists of calls on what a hub lends, each on what the one before left.
use Rattle.std.specs.Prelude.{cond, List, [], ◌∷◌, ◌++◌, ℕ, ◌+◌, ℤ, take, drop, replicate}
use mathlib.Core.Option.{none}
use Rattle.numbers.specs.Naturals.{nat_of}
use Rattle.numbers.specs.Answers.{refused}
use Rattle.daybook.specs.declared.NewRegister.{NewRegister}
use Rattle.daybook.specs.Notices.{Numbers, fresh_book}
use Rattle.daybook.specs.States.{image_length, under}
use Rattle.daybook.specs.Editions.{Editions, edition_no}
use Rattle.daybook.specs.Calls.{Notice, open!, energy!, status!, request!, withdraw!, correct!, Query, account!, allocate!, trial!, StateCall, save!, restore!, Call, fresh!, notice!, query!, state!, convert!, State, Answer}
use Rattle.opening.specs.Opening.{fresh_call, open_call}
use Rattle.energy.specs.Energy.{energy_call}
use Rattle.status.specs.Status.{status_call}
use Rattle.transfer.specs.Transfer.{request_call, withdraw_call}
use Rattle.correction.specs.Correction.{correct_call}
use Rattle.account.specs.Account.{account_call}
use Rattle.allocate.specs.Allocate.{allocate_call}
use Rattle.images.specs.Images.{save_call, restore_call}
use Rattle.trial.specs.Trial.{trial_call}
use Rattle.conversion.specs.Conversion.{convert_call}

-- ---- a call on a table: the very definitions that the contracts equate the code with, where the two editions are E

-- What a notice answers, and what it leaves of the table.
unfoldable pub notice_call : Editions → Notice → List ℤ → Numbers × List ℤ
notice_call E (open! n) t = open_call E t n
notice_call E (energy! n) t = energy_call E t n
notice_call E (status! n) t = status_call E t n
notice_call E (request! n holidays) t = request_call E t n holidays
notice_call E (withdraw! n) t = withdraw_call E t n
notice_call E (correct! n) t = correct_call E t n

-- What a query answers of it.
unfoldable pub query_call : Editions → Query → List ℤ → Answer
query_call E (account! n) t = (account_call E t n, [])
query_call E (allocate! n room) t = allocate_call E t n room
query_call E (trial! count notices room) t = trial_call E t count notices room

-- ---- lists of calls

-- What is lent from call to call: the table, and for each state number the bytes of an image of its own.
pub record Lent : Type 0 where
  pub table : List ℤ
  pub images : ℕ → List ℕ

-- A save or a restore is lent the first bytes of its number's image, as many as it says. A save writes the image alone,
-- and a restore the table alone; no other call is lent an image.
unfoldable pub state_call : Editions → StateCall → Lent → Numbers × Lent
state_call E (save! n lent) L =
    let image : List ℕ = L.images (nat_of n) in
    let w : Numbers × List ℕ = save_call E L.table n (take lent image) in
    (w.0, record { table = L.table; images = under (nat_of n) (w.1 ++ drop lent image) L.images })
state_call E (restore! n lent) L =
    let w : Numbers × List ℤ = restore_call E L.table n (take lent (L.images (nat_of n))) in
    (w.0, record { table = w.1; images = L.images })

-- The same with another table.
abbrev pub with_table : Lent → List ℤ → Lent
with_table L t = record { table = t; images = L.images }

-- The table in which a list goes on after a conversion that answers and leaves w: the second one where it is accepted.
abbrev pub goes_on : List ℤ → Numbers × List ℤ → List ℤ
goes_on t w = cond (refused w.0) t w.1

-- What a call answers, and what it leaves of what it is lent. A conversion reads the table and writes the second one.
unfoldable pub lent_step : Editions → Call → Lent → Answer × Lent
lent_step E (fresh! n) L = let w : Numbers × List ℤ = fresh_call E L.table n in ((w.0, []), with_table L w.1)
lent_step E (notice! c) L = let w : Numbers × List ℤ = notice_call E c L.table in ((w.0, []), with_table L w.1)
lent_step E (query! q) L = (query_call E q L.table, L)
lent_step E (state! c) L = let w : Numbers × Lent = state_call E c L in ((w.0, []), w.1)
lent_step E (convert! second) L =
    let w : Numbers × List ℤ = convert_call E L.table second in
    ((w.0, []), with_table L (goes_on L.table w))

-- What a list of calls leaves, and what it answers.
unfoldable pub lent_run : Editions → List Call → Lent → Lent
lent_run E [] L = L
lent_run E (c ∷ cs) L = lent_run E cs (lent_step E c L).1

unfoldable pub lent_answers : Editions → List Call → Lent → List Answer
lent_answers E [] L = []
lent_answers E (c ∷ cs) L = let r : Answer × Lent = lent_step E c L in r.0 ∷ lent_answers E cs r.1

-- ---- where a list begins

-- The state that an accepted fresh begins: its edition, the two ranges, no points, and nothing saved.
abbrev pub fresh_state : Editions → NewRegister → State
fresh_state E n =
    record { edition = edition_no E (nat_of n.edition); book = fresh_book n; saved = λ k. none }

-- Images of zero bytes, each with so many past its own.
abbrev pub zero_images : (ℕ → ℕ) → ℕ → List ℕ
zero_images past k = replicate (image_length + past k) 0
