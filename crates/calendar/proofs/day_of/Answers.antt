use Rattle.calendar.specs.Calendar.{day_of}
use Rattle.calendar.proofs.Dates.{new_year_lem}
use Rattle.calendar.proofs.day_of.Goals as goal

pub returns : goal.returns
unfolding day_of
returns c = rw (new_year_lem, ← c.days_before.ensures.0, ← c.leap_day.ensures.0)
