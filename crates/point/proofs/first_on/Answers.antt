use mathlib.Core.Path.{◌≡◌, sym, ◌∙◌}
use Prim.Native.Nat.{◌-◌}
use native.Mathlib.Omega.{arith}
use Rattle.point.specs.InnerTests.{first_on}
use Rattle.point.proofs.Loops.{passed_more, passed_end}
use Rattle.point.proofs.first_on.Goals as goal

pub loop-k-init : goal.loop-k-init
unfolding first_on
loop-k-init c = let z : c.args.m - 0 ≡ c.args.m = omega arith in rw z

pub loop-k-preserved : goal.loop-k-preserved
loop-k-preserved c =
    let l = c.loop-k in
    rw (c.past_span-x.ensures, c.on_day.ensures.0, c.off_day.ensures.0) (sym (passed_more _ _ l.k _ (omega arith)) ∙ l.invariant)

pub returns : goal.returns
returns c = sym (passed_end _ _ c.loop-k.k _ (omega arith)) ∙ c.loop-k.invariant
