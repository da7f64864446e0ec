-- What an accepted conversion promises, for any two tables and any two editions that fit (document 02, k).
use Rattle.std.specs.Prelude.{◌≡◌, true, List, [], ◌∷◌, ℕ, ◌≤◌, ◌<◌, ℤ, pos, drop}
use Rattle.daybook.specs.declared.Edition.{Edition}
use Rattle.daybook.specs.Editions.{table_length, Editions, other_than}
use Rattle.layout.specs.Places.{points_place, operator_place}
use Rattle.layout.specs.Layout.{BothFit, edition_in, part_of, num_at, table_book}
use Rattle.layout.specs.Sound.{sound}
use Rattle.conversion.specs.Conversion.{convert_call}

-- The table u holds the register of t in the edition `to`.
pub record InEdition (E : Editions) (to : Edition) (t u : List ℤ) : Type 0 where
  pub edition : edition_in E u ≡ to
  pub is_sound : sound to u ≡ true
  -- The same day book.
  pub book : table_book to u ≡ table_book (edition_in E t) t
  -- Every point's operator is named: a 0 is written as 1.
  pub operators : (i : ℕ) → i < num_at u points_place → 1 ≤ num_at (part_of to u i) operator_place

abbrev pub SameBook : Type 0
SameBook =
    (E : Editions) → BothFit E → (t second : List ℤ) → (convert_call E t second).0 ≡ pos 0 ∷ []
    → InEdition E (other_than E (edition_in E t)) t (convert_call E t second).1
    × (drop table_length (convert_call E t second).1 ≡ drop table_length second)
