-- The words of the inner contracts: an answer's numbers, one notice tried, a batch tried, and one that may be.
use Rattle.std.specs.Prelude.{◌≡◌, true, ℕ, ◌*◌, ◌≤◌, ℤ, pos, length}
use mathlib.Core.List.{List, flatten}
use Rattle.numbers.specs.Naturals.{nat_of}
use Rattle.daybook.specs.declared.Edition.{Edition}
use Rattle.daybook.specs.declared.EnergyNotice.{EnergyNotice}
use Rattle.daybook.specs.Book.{Book}
use Rattle.daybook.specs.Notices.{Numbers, energy}
use Rattle.daybook.specs.FromNumbers.{num}
use Rattle.daybook.specs.Queries.{sum_of}
use Rattle.daybook.specs.Trials.{answers_to, books_on_the_way, most_in, removed_in}
use Rattle.layout.specs.Layout.{table_length, Fits, table_book}
use Rattle.layout.specs.Sound.{sound}
use Rattle.layout.specs.Calls.{placed}

-- Numbers of which none is negative or above the length of a table: what a notice on a sound table answers.
abbrev pub SmallNumbers : Numbers → Type 0
SmallNumbers l = (k : ℕ) → nat_of (num l k) ≤ table_length

-- A notice n was entered into a table of the book B: what is left of the table, t, and of the answer's five numbers,
-- and how many records it removed.
pub record Tried (ed : Edition) (n : EnergyNotice) (B : Book) (t answer : List ℤ) (removed : ℕ) : Type 0 where
  pub is_sound : sound ed t ≡ true
  pub book : table_book ed t ≡ (energy ed n B).1
  pub answered : answer ≡ (energy ed n B).0
  pub removed_is : pos removed ≡ removed_in (energy ed n B).0
  pub few : removed ≤ table_length

-- The notices ns were entered into a table of the book B: what was counted on the way, and what is left of the answer
-- table `out`.
pub record TriedAll (ed : Edition) (ns : List EnergyNotice) (B : Book) (out left : List ℤ) (most removed : ℕ) : Type 0 where
  pub most_is : most ≡ most_in (books_on_the_way ed ns B)
  pub removed_is : pos removed ≡ sum_of removed_in (answers_to ed ns B)
  pub answered : left ≡ placed (flatten (answers_to ed ns B)) out

-- A sound table, and a batch of so many notices whose tables are long enough.
pub record Triable (ed : Edition) (t : List ℤ) (count : ℕ) (notices answers : List ℤ) : Type 0 where
  pub fits : Fits ed
  pub is_sound : sound ed t ≡ true
  pub few : count ≤ 100
  pub given : 6 * count ≤ length notices
  pub room : 5 * count ≤ length answers
