use native.Mathlib.Omega.{arith}
use mir.Facts.{to_z-of_z}
use mir.Syntax.{w64}
use Rattle.daybook.specs.FromNumbers.{num}
use Rattle.lines.proofs.Outcomes.{nothing}
use Rattle.lines.proofs.Rows.{poke_miscounted, poke_outside, poked}
use borrow.Author.Rules.{rules}
use Rattle.lines.proofs.poke.Goals as goal

pub returns-then-nums-ne2 : goal.returns-then-nums-ne2
returns-then-nums-ne2 g c = nothing _ _ (poke_miscounted _ _ c.if-nums-ne2.true)

pub returns-then-place : goal.returns-then-place
returns-then-place g c = nothing _ _ (poke_outside _ _ c.get-place.result c.get-place.ensures.0 c.if-place.true)

pub returns : goal.returns
returns g c =
    let put = c.before in
    let else2 = put.before in
    let place = else2.before in
    let else1 = place.before in
    let a = else1.args in
    let p = c.row in
    poked a.register.now a.nums.now place.get-place.result place.get-place.ensures.0 else1.if-nums-ne2.false else2.if-place.false (rw (to_z-of_z {w = w64} {z = num a.nums.now 1} (search rules)) at put.put_word.ensures) (omega (arith, p.ensures.room)) p.ensures.text
