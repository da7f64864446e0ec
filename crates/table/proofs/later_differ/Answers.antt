use mathlib.Core.Path.{sym, ◌∙◌}
use native.Mathlib.Omega.{arith}
use borrow.Author.Rules.{rules}
use Rattle.table.proofs.Laws.{later_none, later_fails, later_more, later_done}
use Rattle.table.proofs.later_differ.Goals as goal

pub loop-j-init : goal.loop-j-init
loop-j-init c = (search rules, later_none c.args.ed c.args.t.now c.args.i)

pub returns-then-mirn-own : goal.returns-then-mirn-own
returns-then-mirn-own c =
    let l = c.loop-j in
    later_fails c.args.ed c.args.t.now c.args.i c.args.n l.j c.mirn.result (omega arith) c.mirn.ensures (omega arith) (c.if-mirn-own.true ∙ l.invariant.0)

pub loop-j-preserved : goal.loop-j-preserved
loop-j-preserved c =
    let l = c.loop-j in
    (l.invariant.0, later_more c.args.ed c.args.t.now c.args.i c.args.n l.j c.mirn.result (omega arith) c.mirn.ensures (λ q. c.if-mirn-own.false (q ∙ sym l.invariant.0)) l.invariant.1)

pub returns : goal.returns
returns c = later_done c.args.ed c.args.t.now c.args.i c.args.n c.loop-j.j c.loop-j.invariant.1 (omega arith)
