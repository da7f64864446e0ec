use mathlib.Core.Bool.{not}
use mathlib.Core.Path.{ap}
use native.Mathlib.Omega.{arith}
use Rattle.lines.proofs.Outcomes.{nothing}
use Rattle.imagelines.proofs.Outcomes.{not_summed, sums_are}
use Rattle.imagelines.proofs.sums.Goals as goal

pub returns-then-not-summable : goal.returns-then-not-summable
returns-then-not-summable g c =
    nothing _ _ (not_summed c.args.images.now c.args.nums.now c.summable.result c.summable.ensures (ap not c.if-not-summable.true))

pub returns : goal.returns
returns g c =
    let a = c.args in
    let s = c.byte_sums-s in
    let p = c.row in
    sums_are a.images.now a.nums.now c.summable.result c.summable.ensures c.natural.result s.result.s1 s.result.s2 c.if-not-summable.false c.natural.ensures.0 s.ensures.0 s.ensures.1 (omega (arith, p.ensures.room)) p.ensures.text
