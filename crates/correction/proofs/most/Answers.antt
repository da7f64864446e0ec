use mathlib.Core.Path.{sym, ◌∙◌}
use Rattle.correction.proofs.Points.{most_is_lem}
use Rattle.correction.proofs.most.Goals as goal

pub returns-then-pending-user : goal.returns-then-pending-user
returns-then-pending-user c =
    let a = c.args in
    sym (most_is_lem a.part.now.numbers.now a.user _ c.pending_user-pending.ensures.0 ∙ rw c.if-pending-user.true)

pub returns : goal.returns
returns c =
    let a = c.args in
    sym (most_is_lem a.part.now.numbers.now a.user _ c.pending_user-pending.ensures.0 ∙ rw c.if-pending-user.false)
