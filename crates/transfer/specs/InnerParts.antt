-- What the two calls do to the part of their point, once the rows of their numbers have passed.
use mathlib.Core.Option.{Option, none}
use Rattle.std.specs.Prelude.{List, [], ℕ, ℤ}
use Rattle.daybook.specs.Notices.{Row, Numbers, request_rows, period_numbers, pending_of, withdraw_rows}
use Rattle.lists.specs.Lists.{Lists}
use Rattle.lists.specs.InnerSteps.{latest_of, with_pending_lists}
use Rattle.table.specs.InnerTable.{on_part}

abbrev pub request_rows_of : ℕ → Option (ℕ × ℕ) → Lists → List Row
request_rows_of user period q = request_rows user period q.pending q.regs (latest_of q.regs).1

abbrev pub request_effect : ℕ → Option (ℕ × ℕ) → Lists → Numbers × Lists
request_effect user period q = (period_numbers period, with_pending_lists (pending_of user period) q)

-- A request, by its User and its allowable period, if there is one.
unfoldable pub request_part : ℕ → Option (ℕ × ℕ) → List ℤ → Numbers × List ℤ
request_part user period = on_part 2 (request_rows_of user period) (request_effect user period)

abbrev pub withdraw_rows_of : ℕ → Lists → List Row
withdraw_rows_of user q = withdraw_rows user q.pending

abbrev pub withdraw_effect : Lists → Numbers × Lists
withdraw_effect q = ([], with_pending_lists none q)

unfoldable pub withdraw_part : ℕ → List ℤ → Numbers × List ℤ
withdraw_part user = on_part 0 (withdraw_rows_of user) withdraw_effect
