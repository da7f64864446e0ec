-- The calls of the register as a journal has them: what each one does on bytes.
use Rattle.std.specs.Prelude.{List, [], ℕ, ◌/◌, ℤ, length}
use Rattle.calendar.specs.Calendar.{date_call}
use Rattle.daybook.specs.Notices.{Numbers}
use Rattle.daybook.specs.FromNumbers.{num, new_register_of, opening_of, energy_notice_of, status_of, request_of, withdrawal_of, correction_of, account_query_of, allocation_query_of}
use Rattle.daybook.specs.Editions.{editions}
use Rattle.opening.specs.Opening.{fresh_call, open_call}
use Rattle.energy.specs.Energy.{energy_call}
use Rattle.status.specs.Status.{status_call}
use Rattle.transfer.specs.Transfer.{request_call, withdraw_call}
use Rattle.correction.specs.Correction.{correct_call}
use Rattle.account.specs.Account.{account_call}
use Rattle.allocate.specs.Allocate.{allocate_call}
use Rattle.buffers.specs.Buffers.{table_in, numbers_held, written}
use Rattle.journal.specs.declared.NoticeWord.{NoticeWord}
use Rattle.journal.specs.declared.NoticeWord.TheVariants.{Fresh, Open, Energy, Status, Transfer}
use Rattle.journal.specs.declared.TransferWord.{TransferWord}
use Rattle.journal.specs.declared.TransferWord.TheVariants.{Request, Withdraw, Correct}
use Rattle.journal.specs.declared.QueryWord.{QueryWord}
use Rattle.journal.specs.declared.QueryWord.TheVariants.{Account, Allocate, Date}
use Rattle.journal.specs.declared.CallWord.{CallWord}
use Rattle.journal.specs.declared.CallWord.TheVariants as Call·

-- A notice's answer and the table after it: one of a transfer, and any.
abbrev pub transferred : TransferWord → List ℤ → List ℤ → List ℤ → Numbers × List ℤ
transferred Request t xs list = request_call editions t (request_of xs) list
transferred Withdraw t xs list = withdraw_call editions t (withdrawal_of xs)
transferred Correct t xs list = correct_call editions t (correction_of xs)

abbrev pub noticed : NoticeWord → List ℤ → List ℤ → List ℤ → Numbers × List ℤ
noticed Fresh t xs list = fresh_call editions t (new_register_of xs)
noticed Open t xs list = open_call editions t (opening_of xs)
noticed Energy t xs list = energy_call editions t (energy_notice_of xs)
noticed Status t xs list = status_call editions t (status_of xs)
noticed (Transfer w) t xs list = transferred w t xs list

-- A query's answer, and its numbers for an answer table of `room` places.
abbrev pub asked : QueryWord → List ℤ → List ℤ → ℕ → Numbers × List ℤ
asked Account t xs room = (account_call editions t (account_query_of xs), [])
asked Allocate t xs room = allocate_call editions t (allocation_query_of xs) room
asked Date t xs room = (date_call (num xs 0) (num xs 1) (num xs 2), [])

-- What a call leaves: its result, and the bytes of the register, of its answer and of its answer table.
pub record Left : Type 0 where
  pub result : ℤ
  pub register : List ℕ
  pub answer : List ℕ
  pub table : List ℕ

-- A call with the numbers xs, on the bytes of its list, the register, the answer and the answer table.
abbrev pub called : CallWord → List ℤ → List ℕ → List ℕ → List ℕ → List ℕ → Left
called (Call·.Notice n) xs list register answer table =
    let w : ℤ × (List ℕ × List ℕ) = written (noticed n (table_in register) xs (numbers_held list)) register answer in
    record { result = w.0; register = w.1.0; answer = w.1.1; table = table }
called (Call·.Query q) xs list register answer table =
    let w : ℤ × (List ℕ × List ℕ) = written (asked q (table_in register) xs (length table / 8)) table answer in
    record { result = w.0; register = register; answer = w.1.1; table = w.1.0 }
