-- What a sound table, of its edition, stands for.
use Rattle.std.specs.Prelude.{Result, Ok, Err, List, ℕ, ℤ}
use Rattle.refusals.specs.declared.Refusal.{Refusal}
use Rattle.daybook.specs.declared.Edition.{Edition}
use Rattle.daybook.specs.Book.{Book}
use Rattle.daybook.specs.Notices.{operators_in}
use Rattle.layout.specs.Places.{points_place}
use Rattle.layout.specs.Layout.{num_at, part_of as part_of_table, table_book}
use Rattle.table.specs.declared.register.Register.{Register}

-- Its edition, or what its table was sent back with.
abbrev pub edition_or_refusal : Result Register Refusal → Result Edition Refusal
edition_or_refusal (Ok r) = Ok r.edition
edition_or_refusal (Err e) = Err e

abbrev pub book : Register → Book
book r = table_book r.edition r.table.now

-- The points' operators.
abbrev pub operators : Register → List ℕ
operators r = operators_in (book r).points

abbrev pub number_of_points : Register → ℕ
number_of_points r = num_at r.table.now points_place

-- The numbers of point i.
abbrev pub part_of : Register → ℕ → List ℤ
part_of r i = part_of_table r.edition r.table.now i
