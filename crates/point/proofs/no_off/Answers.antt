use mathlib.Core.Path.{sym}
use native.Mathlib.Omega.{arith}
use Rattle.numbers.proofs.Rows.{all_none, all_more, all_fails, all_done}
use Rattle.point.specs.InnerTests.{no_off}
use Rattle.point.proofs.no_off.Goals as goal

pub loop-k-init : goal.loop-k-init
loop-k-init c = all_none _

pub returns-then-not-b-off_day : goal.returns-then-not-b-off_day
unfolding no_off
returns-then-not-b-off_day c =
    sym (all_fails _ c.loop-k.k _ (omega arith) (rw (c.on_day.ensures.0, c.off_day.ensures.0) at c.if-not-b-off_day.true))

pub loop-k-preserved : goal.loop-k-preserved
loop-k-preserved c =
    all_more _ _ c.loop-k.invariant (rw (c.on_day.ensures.0, c.off_day.ensures.0) at c.if-not-b-off_day.false)

pub returns : goal.returns
unfolding no_off
returns c = all_done _ _ _ c.loop-k.invariant (omega arith)
