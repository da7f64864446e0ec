-- What a trial promises, for any table, any batch and any two editions that fit (document 02, i): entering the batch
-- into that same register gives those very answers, and its counts are those of the registers on the way.
use Rattle.std.specs.Prelude.{◌≡◌, false, ℕ, ℤ, pos}
use mathlib.Core.List.{List, [], ◌∷◌, map, flatten}
use Rattle.numbers.specs.Naturals.{nat_of}
use Rattle.numbers.specs.Answers.{refused}
use Rattle.daybook.specs.declared.EnergyNotice.{EnergyNotice}
use Rattle.daybook.specs.Notices.{Numbers}
use Rattle.daybook.specs.Queries.{sum_of}
use Rattle.daybook.specs.Editions.{Editions, largest, most_records}
use Rattle.daybook.specs.FromNumbers.{num}
use Rattle.daybook.specs.Trials.{notices_in, removed_in}
use Rattle.layout.specs.Places.{points_place}
use Rattle.layout.specs.Layout.{BothFit, edition_in, num_at, table_book}
use Rattle.energy.specs.Energy.{energy_call}
use Rattle.trial.specs.Trial.{trial_call}

-- The notices entered for good, each by the public call, energy, on the table that the one before left: what they
-- answer; and the tables on the way, the one at the start and the one after each notice.
unfoldable pub entered_answers : Editions → List EnergyNotice → List ℤ → List Numbers
entered_answers E [] t = []
entered_answers E (n ∷ ns) t =
    let w : Numbers × List ℤ = energy_call E t n in w.0 ∷ entered_answers E ns w.1

unfoldable pub tables_on_the_way : Editions → List EnergyNotice → List ℤ → List (List ℤ)
tables_on_the_way E [] t = t ∷ []
tables_on_the_way E (n ∷ ns) t = t ∷ tables_on_the_way E ns (energy_call E t n).1

-- The largest number of records that a point of a table has.
abbrev pub most_records_of : Editions → List ℤ → ℕ
most_records_of E t = most_records (table_book (edition_in E t) t).points

-- A trial's answer and what it gives the answer table, w, beside the batch entered into the table t.
pub record AsEntered (E : Editions) (t : List ℤ) (ns : List EnergyNotice) (w : Numbers × List ℤ) : Type 0 where
  pub answers : w.1 ≡ flatten (entered_answers E ns t)
  pub most : num w.0 1 ≡ pos (largest (map (most_records_of E) (tables_on_the_way E ns t)))
  pub removed : num w.0 2 ≡ sum_of removed_in (entered_answers E ns t)
  pub no_point : num_at t points_place ≡ 0 → num w.0 1 ≡ pos 0

abbrev pub TriedAsEntered : Type 0
TriedAsEntered =
    (E : Editions) → BothFit E → (t : List ℤ) (count : ℤ) (notices : List ℤ) (room : ℕ)
    → refused (trial_call E t count notices room).0 ≡ false
    → AsEntered E t (notices_in (nat_of count) notices) (trial_call E t count notices room)
