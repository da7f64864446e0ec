use Rattle.std.proofs.Common.{◌≡◌, rules, arith}
use Rattle.numbers.specs.Naturals.{nat_of}
use Rattle.calendar.proofs.Dates.{calendar_bound, date_off, date_late, date_day}
use Rattle.calendar.proofs.date.Goals as goal

pub returns-then-not-on_calendar : goal.returns-then-not-on_calendar
returns-then-not-on_calendar c =
    let d = c.args.d in
    let year : c.natural-year.result ≡ nat_of d.year = search rules in
    let month : c.natural-month.result ≡ nat_of d.month = search rules in
    let day : c.natural-day.result ≡ nat_of d.day = search rules in
    date_off d.year d.month d.day year month day c.on_calendar.ensures c.if-not-on_calendar.true

pub day_of-at-requires : goal.day_of-at-requires
day_of-at-requires c = calendar_bound _ _ _ c.on_calendar.ensures c.if-not-on_calendar.false

pub returns-then-late : goal.returns-then-late
returns-then-late c =
    let d = c.args.d in
    date_late d.year d.month d.day (search rules) (search rules) (search rules) c.on_calendar.ensures c.if-not-on_calendar.false c.day_of-at.ensures (omega (arith, c.if-late.true))

pub returns : goal.returns
returns c =
    let d = c.args.d in
    date_day d.year d.month d.day (search rules) (search rules) (search rules) c.on_calendar.ensures c.if-not-on_calendar.false c.day_of-at.ensures (omega (arith, c.if-late.false))
