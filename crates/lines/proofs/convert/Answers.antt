use mathlib.Core.Bool.{not}
use mathlib.Core.Path.{ap}
use native.Mathlib.Omega.{arith}
use mir.Facts.{to_z-of_z}
use mir.Syntax.{w64}
use borrow.Author.Rules.{rules}
use Rattle.lines.proofs.Outcomes.{nothing}
use Rattle.lines.proofs.Conversions.{not_converted, converted}
use Rattle.lines.proofs.convert.Goals as goal

pub returns-then-not-convertible : goal.returns-then-not-convertible
returns-then-not-convertible g c =
    let a = c.args in
    nothing _ _ (not_converted a.nums.now c.convertible.result c.convertible.ensures a.register.now a.lent (ap not c.if-not-convertible.true))

pub returns : goal.returns
returns g c =
    let a = c.args in
    let call = c.petlumas_convert-result in
    let back = to_z-of_z {w = w64} {z = call.result} (search rules) in
    converted a.nums.now c.convertible.result c.convertible.ensures a.register.now a.lent c.natural.result c.filled-second.result.now _ _ call.result c.if-not-convertible.false c.natural.ensures.0 c.filled-second.ensures.0 call.ensures (rw back at c.go_on.ensures) (omega (arith, c.row.ensures.room)) (rw back at c.row.ensures.text)
