use mathlib.Core.Path.{sym, ap, ◌∙◌}
use Prim.Native.Nat.{◌-◌, ◌<◌}
use native.Mathlib.Omega.{arith}
use lib.Dec.{eqb}
use lib.ListN.{length}
use Rattle.point.specs.InnerParts.{lists_of}
use Rattle.correction.proofs.Walks.{count_is_lem, user_at, latest_of_none, latest_of_first}
use Rattle.correction.proofs.is_last.Goals as goal

pub returns-then-k-eq0 : goal.returns-then-k-eq0
returns-then-k-eq0 c =
    sym
    (latest_of_none (lists_of c.args.part.now).regs c.args.k c.args.user c.if-k-eq0.true c.requires.1)

pub returns : goal.returns
returns c =
    let part = c.args.part.now in
    let k = c.args.k - 1 in
    let h : k < length (lists_of part).regs = omega (arith, count_is_lem part.is_sound, c.if-k-eq0.false) in
    ap (λ u. eqb u c.args.user)
    (c.reg_user.ensures.0 ∙ user_at part.is_sound k (omega arith)
    ∙ ap (λ x. x.1) (sym (latest_of_first (lists_of part).regs c.args.k (omega arith) h)))
