-- The trial of a batch of energy notices (document 02, i): what entering them in order would answer.
use Rattle.std.specs.Prelude.{Bool, not, ◌&&◌, ℕ, zero, suc, ◌*◌, leb, ℤ, pos, length, get_or, drop}
use mathlib.Core.List.{List, [], ◌∷◌, map, flatten}
use Rattle.numbers.specs.Naturals.{nat_of}
use Rattle.calendar.specs.Calendar.{within}
use Rattle.daybook.specs.declared.Edition.{Edition}
use Rattle.daybook.specs.declared.EnergyNotice.{EnergyNotice}
use Rattle.daybook.specs.Book.{Book}
use Rattle.daybook.specs.Notices.{Row, least, Numbers, decide, energy}
use Rattle.daybook.specs.Queries.{sum_of}
use Rattle.daybook.specs.Editions.{largest, most_records}
use Rattle.daybook.specs.FromNumbers.{energy_notice_of}

-- The first k notices of a table of numbers, six to a notice in the order of document 01.
unfoldable pub notices_in : ℕ → List ℤ → List EnergyNotice
notices_in zero xs = []
notices_in (suc k) xs = energy_notice_of xs ∷ notices_in k (drop 6 xs)

-- ---- a batch, entered in order

-- What each notice answers, five numbers: it is entered into the book that the one before left, and a refusal leaves
-- that as it was.
unfoldable pub answers_to : Edition → List EnergyNotice → Book → List Numbers
answers_to ed [] B = []
answers_to ed (n ∷ ns) B = let w : Numbers × Book = energy ed n B in w.0 ∷ answers_to ed ns w.1

-- The books on the way: the one at the start, and the one after each notice.
unfoldable pub books_on_the_way : Edition → List EnergyNotice → Book → List Book
books_on_the_way ed [] B = B ∷ []
books_on_the_way ed (n ∷ ns) B = B ∷ books_on_the_way ed ns (energy ed n B).1

-- The largest number of records that a point has in any of these books.
abbrev pub most_in : List Book → ℕ
most_in Bs = largest (map (λ (B : Book). most_records B.points) Bs)

-- How many records an answer says were removed: the third of its numbers.
abbrev pub removed_in : Numbers → ℤ
removed_in a = get_or a 2 (pos 0)

-- ---- trial

-- A count of 0 to 100, and tables that have room for so many notices and answers.
abbrev pub batch_fits : ℤ → ℕ → ℕ → Bool
batch_fits count given room =
    within (pos 0) (pos 100) count && leb (6 * nat_of count) given && leb (5 * nat_of count) room

unfoldable pub trial_rows : ℤ → ℕ → ℕ → List Row
trial_rows count given room = (2, not (batch_fits count given room)) ∷ []

-- The most records and the total removed, and the answers for the first places of an answer table that has room for so
-- many numbers, none on a refusal. The book stays as it is.
unfoldable pub trial : Edition → ℤ → List ℤ → ℕ → Book → Numbers × List ℤ
trial ed count notices room B =
    let ns : List EnergyNotice = notices_in (nat_of count) notices in
    let given : List Numbers = answers_to ed ns B in
    decide (least (trial_rows count (length notices) room)) 2 []
    (pos (most_in (books_on_the_way ed ns B)) ∷ sum_of removed_in given ∷ [], flatten given)
