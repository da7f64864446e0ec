-- What a part of a sound table stands for.
use Rattle.std.specs.Prelude.{ℕ}
use Rattle.lists.specs.Lists.{Lists}
use Rattle.layout.specs.Layout.{num_at, point_from}
use Rattle.point.specs.declared.Part.{Part}

-- Its point's lists.
abbrev pub lists_of : Part → Lists
lists_of p = point_from p.numbers.now

-- The number at a place.
abbrev pub number_in : Part → ℕ → ℕ
number_in p place = num_at p.numbers.now place
