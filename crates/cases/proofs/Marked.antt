-- The marked cases hold: each is computed.
use mathlib.Core.Path.{◌≡◌, refl, ap}
use mathlib.Core.List.{◌++◌}
use lib.ListN.{take, drop}
use Rattle.calendar.specs.Calendar.{date_call, is_date, day_of, new_year, days_before}
use Rattle.daybook.specs.Editions.{editions}
use Rattle.cases.specs.Journal.{replies_from, answers_in}
use Rattle.cases.specs.Marked.{Marked, story, accounts_answers, recut_answers}

-- The story is computed once for both of its cases.
whole : answers_in editions story ≡ accounts_answers ++ recut_answers
unfolding replies_from
whole = refl

pub marked : Marked
unfolding replies_from date_call is_date day_of new_year days_before
marked =
    record {
      ten = refl;
      minus_ten = refl;
      one = refl;
      january = refl;
      february = refl;
      monday = refl;
      no_change = refl;
      holiday = refl;
      saturday = refl;
      first_day = refl;
      accounts = ap (take 9) whole;
      recut = ap (drop 9) whole;
      thirds = refl;
    }
