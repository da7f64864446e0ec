-- What the functions of this crate say of a point's part.
use Rattle.std.specs.Prelude.{Bool, not, ◌&&◌, List, ℕ, eqb, ℤ}
use Rattle.daybook.specs.Notices.{Row, Numbers}
use Rattle.daybook.specs.Corrections.{correct_rows_at}
use Rattle.lists.specs.Lists.{Lists, point_of}
use Rattle.lists.specs.InnerSteps.{some_user, correct_lists_at}
use Rattle.table.specs.InnerTable.{on_part}

-- The day on which a registration starts.
abbrev pub start_of : ℕ × ℕ → ℕ
start_of x = x.0

-- By the registrations: is a User FRO on some day from `day` on, where another, `user`, is to be?
abbrev pub loses_day : ℕ → ℕ → List (ℕ × ℕ) → ℕ → Bool
loses_day user day regs w = not (eqb w user) && some_user (eqb w) day regs

abbrev pub correct_rows_of : ℕ → ℕ → ℕ → Lists → List Row
correct_rows_of user day notice q = correct_rows_at user day notice (point_of q)

-- What a correction does to the part of its point, once the rows of its numbers have passed.
unfoldable pub correct_part : ℕ → ℕ → ℕ → List ℤ → Numbers × List ℤ
correct_part user day notice = on_part 16 (correct_rows_of user day notice) (correct_lists_at user day)
