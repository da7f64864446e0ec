-- What the functions that read one record say of it.
use Rattle.std.specs.Prelude.{ℕ, suc, ◌-◌, ℤ, pos, ◌-ℤ◌}
use Rattle.numbers.specs.Shares.{partial_energy}
use Rattle.daybook.specs.Book.{Entry}
use Rattle.readings.specs.InnerReadings.{days_passed}

-- What an entry has on the days x to y - 1, where its first k days have g k: the difference of two prefixes.
unfoldable pub part_between : (Entry → ℕ → ℤ) → ℕ → ℕ → Entry → ℤ
part_between g x y e = g e (days_passed e.start e.end y) -ℤ g e (days_passed e.start e.end x)

-- The energy of an entry's first k days, and how many they are.
unfoldable pub partial_of : Entry → ℕ → ℤ
partial_of e k = partial_energy e.energy (suc e.end - e.start) k

unfoldable pub day_count : Entry → ℕ → ℤ
day_count e k = pos k
