-- The call correct on a lent table.
use Rattle.std.specs.Prelude.{List, ℤ}
use Rattle.daybook.specs.declared.Correction.{Correction}
use Rattle.daybook.specs.Notices.{Numbers}
use Rattle.daybook.specs.Corrections.{correct}
use Rattle.daybook.specs.Editions.{Editions}
use Rattle.layout.specs.Calls.{on_table}

-- correct answers sixteen fields, the flags of the Users.
unfoldable pub correct_call : Editions → List ℤ → Correction → Numbers × List ℤ
correct_call E t n = on_table E 16 (λ ed. correct n) t
