-- What the functions that work on one point's part say of its lists. The call itself speaks of none of this.
use Rattle.std.specs.Prelude.{Bool, false, ◌||◌, cond, List, [], ℕ, leb, ltb, eqb, ℤ}
use Rattle.numbers.specs.Search.{maybe}
use Rattle.daybook.specs.Book.{last_of}
use Rattle.daybook.specs.Notices.{Row, Numbers, cannot_off, cannot_on, status_rows}
use Rattle.lists.specs.Lists.{Lists}
use Rattle.lists.specs.InnerSteps.{last_end, offs_after, with_offs}
use Rattle.table.specs.InnerTable.{on_part}

-- Is this day or a later one filled?
abbrev pub filled_from : ℕ → Lists → Bool
filled_from day q = maybe false (leb day) (last_end q.recs)

-- Row 14.
abbrev pub cannot_switch : ℕ → ℕ → Lists → Bool
cannot_switch day on q =
    cond (eqb on 1) (cannot_on day (last_of q.offs))
    (cannot_off day (last_of q.offs) || filled_from day q || ltb day q.facts.install)

-- The point's rows.
abbrev pub status_rows_of : ℕ → ℕ → Lists → List Row
status_rows_of day on q = status_rows day on q.facts.install (last_end q.recs) q.offs

-- The point with the notice entered.
abbrev pub switched_lists : ℕ → ℕ → Lists → Lists
switched_lists day on q = with_offs (offs_after day on q.offs) q

-- The notice on its point's part.
unfoldable pub status_part : ℕ → ℕ → List ℤ → Numbers × List ℤ
status_part day on = on_part 0 (status_rows_of day on) (λ q. ([], switched_lists day on q))
