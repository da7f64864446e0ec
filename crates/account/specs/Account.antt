-- What account answers of a lent table.
use Rattle.std.specs.Prelude.{List, [], ◌∷◌, ℤ, pos}
use Rattle.daybook.specs.declared.AccountQuery.{AccountQuery}
use Rattle.daybook.specs.Notices.{Numbers}
use Rattle.daybook.specs.Queries.{account}
use Rattle.daybook.specs.Editions.{Editions}
use Rattle.layout.specs.Calls.{of_table}

-- One field: the sum.
unfoldable pub account_call : Editions → List ℤ → AccountQuery → Numbers
account_call E t n = of_table E (pos 1 ∷ pos 0 ∷ []) (λ ed. account n) t
