use mathlib.Core.Path.{sym, ◌∙◌}
use native.Mathlib.Omega.{arith}
use Rattle.numbers.proofs.Rows.{all_none, all_more, all_fails, all_done}
use Rattle.layout.proofs.Mirns.{differ_is}
use Rattle.table.proofs.mirns_differ.Goals as goal

pub loop-i-init : goal.loop-i-init
loop-i-init c = all_none _

pub returns-then-not-later_differ : goal.returns-then-not-later_differ
returns-then-not-later_differ c =
    sym (all_fails _ c.loop-i.i _ (omega arith) (sym c.later_differ.ensures ∙ c.if-not-later_differ.true))
    ∙ sym (differ_is c.args.ed c.args.t.now c.args.n)

pub loop-i-preserved : goal.loop-i-preserved
loop-i-preserved c =
    all_more _ _ c.loop-i.invariant (sym c.later_differ.ensures ∙ c.if-not-later_differ.false)

pub returns : goal.returns
returns c =
    all_done _ _ _ c.loop-i.invariant (omega arith) ∙ sym (differ_is c.args.ed c.args.t.now c.args.n)
