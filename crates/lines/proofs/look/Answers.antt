use native.Mathlib.Omega.{arith}
use borrow.Author.Tests.{ne_eqb}
use mir.Facts.{to_z-of_z}
use mir.Syntax.{w64}
use Rattle.daybook.specs.FromNumbers.{num}
use Rattle.lines.specs.Lines.{look_line}
use Rattle.lines.proofs.Outcomes.{nothing}
use Rattle.lines.proofs.Rows.{looked}
use borrow.Author.Rules.{rules}
use Rattle.lines.proofs.look.Goals as goal

pub returns-then-nums-ne1 : goal.returns-then-nums-ne1
unfolding look_line
returns-then-nums-ne1 g c = nothing _ _ (rw (ne_eqb _ _ c.if-nums-ne1.true))

pub returns : goal.returns
returns g c =
    let sums = c.before in
    let part = sums.before in
    let read = part.before in
    let else1 = read.before in
    let a = else1.args in
    let p = c.row in
    let u = sums.sums-s in
    looked a.register.now a.nums.now read.numbers_in-numbers.result.now part.look_up-part.result.now _ u.result.s1 u.result.s2 else1.if-nums-ne1.false read.numbers_in-numbers.ensures.0 (to_z-of_z {w = w64} {z = num a.nums.now 0} (search rules)) part.look_up-part.ensures u.ensures.0 u.ensures.1 (omega (arith, p.ensures.room)) p.ensures.text
