use mathlib.Core.Path.{◌∙◌}
use native.Mathlib.Omega.{arith}
use Rattle.point.proofs.Loops.{zeros_none, zeros_more, zeros_end}
use Rattle.point.proofs.zeros_in.Goals as goal

pub loop-i-init : goal.loop-i-init
loop-i-init c = (omega arith, zeros_none _ _)

pub loop-i-preserved : goal.loop-i-preserved
loop-i-preserved c =
    let l = c.loop-i in
    (omega arith, zeros_more _ _ l.i l.bits c.bits_at-bits.result (omega arith) l.invariant.1 c.bits_at-bits.ensures)

pub returns : goal.returns
returns c = c.loop-i.invariant.1 ∙ zeros_end _ _ c.loop-i.i _ (omega arith)
