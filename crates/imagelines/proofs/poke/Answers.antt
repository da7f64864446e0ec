use mathlib.Core.Bool.{not}
use mathlib.Core.Path.{ap}
use native.Mathlib.Omega.{arith}
use Rattle.lines.proofs.Outcomes.{nothing}
use Rattle.imagelines.proofs.Outcomes.{not_poked, set_byte}
use Rattle.imagelines.proofs.poke.Goals as goal

pub returns-then-not-pokeable : goal.returns-then-not-pokeable
returns-then-not-pokeable g c =
    nothing _ _ (not_poked c.args.images.now c.args.nums.now c.pokeable.result c.pokeable.ensures (ap not c.if-not-pokeable.true))

pub returns : goal.returns
returns g c =
    let a = c.args in
    let p = c.row in
    set_byte a.images.now a.nums.now c.pokeable.result c.pokeable.ensures c.natural.result c.natural-2.result c.natural-3.result c.if-not-pokeable.false c.natural.ensures.0 c.natural-2.ensures.0 c.natural-3.ensures.0 (omega (arith, p.ensures.room)) p.ensures.text
