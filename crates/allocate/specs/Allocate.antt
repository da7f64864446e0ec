-- What allocate answers of a lent table, and what it gives the answer table.
use Rattle.std.specs.Prelude.{List, [], ◌∷◌, ℕ, ℤ, pos, replicate}
use Rattle.daybook.specs.declared.AllocationQuery.{AllocationQuery}
use Rattle.daybook.specs.Notices.{Numbers}
use Rattle.daybook.specs.Queries.{allocate}
use Rattle.daybook.specs.Editions.{Editions}
use Rattle.layout.specs.Calls.{of_table}

-- Seventeen fields, the net section load and the sixteen totals, and numbers for the first places of an answer table of
-- `room` numbers, none on a refusal.
unfoldable pub allocate_call : Editions → List ℤ → AllocationQuery → ℕ → Numbers × List ℤ
allocate_call E t n room = of_table E (pos 1 ∷ replicate 17 (pos 0), []) (λ ed. allocate n room) t
