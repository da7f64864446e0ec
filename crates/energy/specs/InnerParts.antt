-- The rows of a notice's point and the whole notice, on the point's part and on a table of an edition.
use Rattle.std.specs.Prelude.{List, [], ℕ, ℤ}
use Rattle.numbers.specs.InnerEnergies.{energy_of}
use Rattle.daybook.specs.declared.Edition.{Edition}
use Rattle.daybook.specs.declared.EnergyNotice.{EnergyNotice}
use Rattle.daybook.specs.Notices.{Row, Numbers, energy}
use Rattle.lists.specs.Lists.{Lists, Register}
use Rattle.lists.specs.InnerSteps.{enter_lists, energy_lists_rows}
use Rattle.layout.specs.InnerParts.{room_of}
use Rattle.layout.specs.Calls.{on_edition}
use Rattle.table.specs.InnerTable.{on_part}
use Rattle.entering.specs.declared.RaisedNotice.{RaisedNotice}
use Rattle.entering.specs.InnerEntering.{notice_of, entry_from}

-- A register with these ranges, each raised by 1,000,000.
abbrev pub register_with : ℕ → ℕ → Register
register_with nondaily daily = record { nondaily = energy_of nondaily; daily = energy_of daily; points = [] }

-- An edition with room for so many records at a point.
abbrev pub edition_with : ℕ → Edition
edition_with room = record { number = 0; points = 0; records = room; reserve = 0 }

-- The rows that the point decides: of the edition they ask for the room alone, of the register for its ranges.
unfoldable pub energy_rows_of : RaisedNotice → ℕ → ℕ → ℕ → Lists → List Row
energy_rows_of x nondaily daily room q =
    energy_lists_rows (edition_with room) (notice_of x) (register_with nondaily daily) q

-- The whole notice, on its point's part: its four fields and what it leaves.
unfoldable pub energy_part : RaisedNotice → ℕ → ℕ → List ℤ → Numbers × List ℤ
energy_part x nondaily daily p = on_part 4 (energy_rows_of x nondaily daily (room_of p)) (enter_lists (entry_from x)) p

-- The whole call on a table of an edition.
abbrev pub energy_in : Edition → List ℤ → EnergyNotice → Numbers × List ℤ
energy_in ed t n = on_edition 4 (energy ed n) ed t
