use mathlib.Core.Bool.{not}
use mathlib.Core.Path.{ap}
use mir.Facts.{to_z-of_z}
use mir.Syntax.{w64}
use borrow.Author.Rules.{rules}
use Rattle.daybook.specs.FromNumbers.{num}
use Rattle.lines.proofs.Outcomes.{nothing}
use Rattle.triallines.proofs.Outcomes.{not_tried, trial_made}
use Rattle.triallines.proofs.answer.Goals as goal

pub returns-then-not-tryable : goal.returns-then-not-tryable
returns-then-not-tryable g c =
    nothing _ _ (not_tried c.args.nums.now c.tryable.result c.tryable.ensures c.args.register.now c.args.lent (ap not c.if-not-tryable.true))

pub returns : goal.returns
returns g c =
    let a = c.args in
    let count = to_z-of_z {w = w64} {z = num a.nums.now 0} (search rules) in
    let row = c.print_row.ensures in
    trial_made a.nums.now c.tryable.result c.tryable.ensures a.register.now a.lent c.natural-room.result c.bytes_of-notices.result.now c.filled-answers.result.now _ _ c.petlumas_trial.result _ c.if-not-tryable.false c.natural-room.ensures.0 count c.bytes_of-notices.ensures.0 c.filled-answers.ensures.0 c.petlumas_trial.ensures row.room row.text
