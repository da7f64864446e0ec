-- What status answers, and what it leaves of the lent table.
use Rattle.std.specs.Prelude.{List, ℤ}
use Rattle.daybook.specs.declared.StatusNotice.{StatusNotice}
use Rattle.daybook.specs.Notices.{Numbers, status}
use Rattle.daybook.specs.Editions.{Editions}
use Rattle.layout.specs.Calls.{on_table}

unfoldable pub status_call : Editions → List ℤ → StatusNotice → Numbers × List ℤ
status_call E t n = on_table E 0 (λ ed. status n) t
