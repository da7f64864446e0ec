-- The point that a part of the table stands for, and days of it.
use Rattle.std.specs.Prelude.{cond, List, ℕ, zero, suc, ◌+◌, ◌-◌, min, ℤ}
use Rattle.daybook.specs.Book.{Point, filled}
use Rattle.lists.specs.Lists.{point_of}
use Rattle.layout.specs.Layout.{point_from}
use Rattle.point.specs.declared.Part.{Part}

-- The day book's point of a part.
unfoldable pub point_at : List ℤ → Point
point_at p = point_of (point_from p)

-- The same, of a part of a sound table.
abbrev pub point_of_part : Part → Point
point_of_part part = point_at part.numbers.now

-- How many of the days s to e lie before day d.
unfoldable pub days_passed : ℕ → ℕ → ℕ → ℕ
days_passed s e d = min (d - s) (suc e - s)

-- How many of the n days from a on are filled.
unfoldable pub filled_days : Point → ℕ → ℕ → ℕ
filled_days p a zero = 0
filled_days p a (suc n) = cond (filled p a) 1 0 + filled_days p (suc a) n
