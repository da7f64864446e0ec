use native.Mathlib.Omega.{arith}
use borrow.Author.Tests.{le-leb, lt-leb}
use Rattle.calendar.proofs.Dates.{month_formula}
use Rattle.calendar.proofs.days_before.Goals as goal

pub returns-then-early : goal.returns-then-early
returns-then-early c =
    let m = c.args.month in
    let early = le-leb m 2 (omega (arith, c.if-early.true)) in
    month_formula m c.requires.1 (rw early (omega arith))

pub returns : goal.returns
returns c =
    let m = c.args.month in
    let late = lt-leb m 2 (omega (arith, c.if-early.false)) in
    month_formula m c.requires.1 (rw late (omega arith))
