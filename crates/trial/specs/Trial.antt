-- What a trial answers of a lent table, and what it gives the answer table.
use Rattle.std.specs.Prelude.{List, [], ◌∷◌, ℕ, ℤ, pos, replicate}
use Rattle.daybook.specs.Notices.{Numbers}
use Rattle.daybook.specs.Trials.{trial}
use Rattle.daybook.specs.Editions.{Editions}
use Rattle.layout.specs.Calls.{of_table}

-- Two fields, the most records and the total removed, and numbers for the first places of an answer table of `room`
-- numbers, five for each notice, none on a refusal. The table is only read.
unfoldable pub trial_call : Editions → List ℤ → ℤ → List ℤ → ℕ → Numbers × List ℤ
trial_call E t count notices room =
    of_table E (pos 1 ∷ replicate 2 (pos 0), []) (λ ed. trial ed count notices room) t
