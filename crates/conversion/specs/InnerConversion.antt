-- The words of the inner contracts: when a register is copied into the second table, and what is.
use Rattle.std.specs.Prelude.{◌≡◌, false, List, ℕ, zero, suc, ◌≤◌, ℤ, length}
use Rattle.daybook.specs.declared.Edition.{Edition}
use Rattle.daybook.specs.Editions.{no_room}
use Rattle.lists.specs.Lists.{Lists, book_facts, with_facts}
use Rattle.layout.specs.Layout.{table_length, Fits, part_of, point_numbers, point_from}
use Rattle.layout.specs.InnerWrites.{with_part}
use Rattle.table.specs.declared.register.Register.{Register}
use Rattle.table.specs.InnerRegisters.{book}

-- A register, an edition that has room for its book, and a second table for it.
pub record Convertible (r : Register) (to : Edition) (second : List ℤ) : Type 0 where
  pub other : Fits to
  pub room : no_room to (book r) ≡ false
  pub long : table_length ≤ length second

-- A point's part p with room for so many records, its operator named.
unfoldable pub copied_part : ℕ → List ℤ → List ℤ
copied_part room p = let q : Lists = point_from p in point_numbers room (with_facts (book_facts q.facts) q)

-- The table u with the parts of the first n points of t, in the edition `to`.
unfoldable pub parts_into : Edition → Edition → List ℤ → List ℤ → ℕ → List ℤ
parts_into ed to t u zero = u
parts_into ed to t u (suc n) = with_part to (parts_into ed to t u n) n (copied_part to.records (part_of ed t n))
