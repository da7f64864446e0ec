-- A record as the row writers take it.
use Rattle.std.specs.Prelude.{◌<◌, ◌^◌}
use Rattle.numbers.specs.InnerEnergies.{energy_of}
use Rattle.daybook.specs.Book.{Entry}
use Rattle.rows.specs.declared.Record.{Record}

-- The record that it stands for: its energy is raised by 1,000,000.
abbrev pub record_of : Record → Entry
record_of r = record { start = r.start; end = r.end; energy = energy_of r.energy; type = r.type_ }

-- Each of its numbers has a place in the table.
abbrev pub SmallRecord : Record → Type 0
SmallRecord r = (r.start < 2 ^ 63) × (r.end < 2 ^ 63) × (r.energy < 2 ^ 63) × (r.type_ < 2 ^ 63)
