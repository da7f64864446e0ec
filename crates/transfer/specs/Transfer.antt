-- The calls request and withdraw on a lent table.
use Rattle.std.specs.Prelude.{List, ℤ}
use Rattle.daybook.specs.declared.TransferRequest.{TransferRequest}
use Rattle.daybook.specs.declared.Withdrawal.{Withdrawal}
use Rattle.daybook.specs.Notices.{Numbers, request, withdraw}
use Rattle.daybook.specs.Editions.{Editions}
use Rattle.layout.specs.Calls.{on_table}

-- request answers two fields, the first and the last day of the allowable period.
unfoldable pub request_call : Editions → List ℤ → TransferRequest → List ℤ → Numbers × List ℤ
request_call E t n holidays = on_table E 2 (λ ed. request n holidays) t

unfoldable pub withdraw_call : Editions → List ℤ → Withdrawal → Numbers × List ℤ
withdraw_call E t n = on_table E 0 (λ ed. withdraw n) t
