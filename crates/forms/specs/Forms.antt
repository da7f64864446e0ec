-- The form of each call's line in a journal.
use Rattle.std.specs.Prelude.{Bool, true, false, cond, List, ℕ, ◌+◌, ℤ}
use Rattle.numbers.specs.Naturals.{nat_of}
use Rattle.daybook.specs.FromNumbers.{num}
use Rattle.journal.specs.declared.NoticeWord.{NoticeWord}
use Rattle.journal.specs.declared.NoticeWord.TheVariants.{Fresh, Open, Energy, Status, Transfer}
use Rattle.journal.specs.declared.TransferWord.{TransferWord}
use Rattle.journal.specs.declared.TransferWord.TheVariants.{Request, Withdraw, Correct}
use Rattle.journal.specs.declared.QueryWord.{QueryWord}
use Rattle.journal.specs.declared.QueryWord.TheVariants.{Account, Allocate, Date}
use Rattle.journal.specs.declared.CallWord.{CallWord}
use Rattle.journal.specs.declared.CallWord.TheVariants as Call·
use Rattle.forms.specs.declared.Form.{Form}

-- How many numbers a call and its answer have; whether a list follows the call's numbers, with its count in front; and
-- whether an answer table is lent.
abbrev pub shape_of : ℕ → ℕ → Bool → Bool → Form
shape_of takes gives list table = record { takes = takes; gives = gives; list = list; table = table }

abbrev pub transfer_form : TransferWord → Form
transfer_form Request = shape_of 4 3 true false
transfer_form Withdraw = shape_of 2 1 false false
transfer_form Correct = shape_of 4 17 false false

abbrev pub notice_form : NoticeWord → Form
notice_form Fresh = shape_of 3 1 false false
notice_form Open = shape_of 7 1 false false
notice_form Energy = shape_of 6 5 false false
notice_form Status = shape_of 3 1 false false
notice_form (Transfer w) = transfer_form w

abbrev pub query_form : QueryWord → Form
query_form Account = shape_of 3 2 false false
query_form Allocate = shape_of 6 18 false true
query_form Date = shape_of 3 2 false false

abbrev pub form_of : CallWord → Form
form_of (Call·.Notice n) = notice_form n
form_of (Call·.Query q) = query_form q

-- The numbers of a line up to its list: a call's own, and the list's count.
abbrev pub own_numbers : Form → ℕ
own_numbers f = cond f.list (f.takes + 1) f.takes

-- All numbers of a line.
abbrev pub size_of : Form → List ℤ → ℕ
size_of f xs = own_numbers f + cond f.list (nat_of (num xs f.takes)) 0
