use native.Mathlib.Numerals.{add-one}
use mathlib.Core.Path.{◌≡◌, sym, ap, ◌∙◌}
use Prim.Native.Nat.{suc, ◌-◌}
use native.Mathlib.Omega.{arith}
use Rattle.point.specs.InnerTests.{spans_ok}
use Rattle.point.proofs.Loops.{rows_pass, rows_fail, rows_end}
use Rattle.soundness.proofs.spans_ok.Goals as goal

pub loop-k-init : goal.loop-k-init
unfolding spans_ok
loop-k-init c = let z : c.args.n - 0 ≡ c.args.n = omega arith in rw (z, c.install-lo.ensures.0)

pub returns-then-not-lo-off : goal.returns-then-not-lo-off
returns-then-not-lo-off c =
    let l = c.loop-k in
    sym (rows_fail _ _ _ l.k _ (omega arith) (rw (c.on_day-on.ensures.0, c.off_day-off.ensures.0) at c.if-not-lo-off.true)) ∙ l.invariant

pub loop-k-preserved : goal.loop-k-preserved
loop-k-preserved c =
    let l = c.loop-k in
    let on = c.on_day-on in
    sym (rows_pass _ _ _ l.k _ _ (omega arith) (rw (on.ensures.0, c.off_day-off.ensures.0) at c.if-not-lo-off.false) (add-one on.result ∙ ap suc on.ensures.0)) ∙ l.invariant

pub returns : goal.returns
returns c = sym (rows_end _ _ _ c.loop-k.k _ (omega arith)) ∙ c.loop-k.invariant
