use mathlib.Core.Bool.{not}
use mathlib.Core.Path.{ap}
use mir.Facts.{to_z-of_z}
use mir.Syntax.{w64}
use borrow.Author.Rules.{rules}
use Rattle.daybook.specs.FromNumbers.{num}
use Rattle.lines.proofs.Outcomes.{nothing}
use Rattle.imagelines.proofs.Outcomes.{not_restored, restored}
use Rattle.imagelines.proofs.restore.Goals as goal

pub returns-then-not-lendable : goal.returns-then-not-lendable
returns-then-not-lendable g c =
    let a = c.args in
    nothing _ _ (not_restored a.register.now a.images.now a.nums.now c.lendable.result c.lendable.ensures (ap not c.if-not-lendable.true))

pub returns : goal.returns
returns g c =
    let a = c.args in
    let p = c.lent_part-part in
    let call = rw (to_z-of_z {w = w64} {z = num a.nums.now 0} (search rules)) at c.petlumas_restore.ensures in
    restored a.register.now a.images.now a.nums.now c.lendable.result c.lendable.ensures c.if-not-lendable.false p.result.start p.result.end p.ensures.0 p.ensures.1 c.petlumas_restore.result _ _ call c.print_answer.ensures.room c.print_answer.ensures.text
