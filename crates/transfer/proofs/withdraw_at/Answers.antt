use Rattle.std.proofs.Common.{sym, ◌∙◌, arith}
use Rattle.table.proofs.Calls.{gives}
use Rattle.transfer.proofs.Points.{withdraw_other, withdraw_own}
use Rattle.transfer.proofs.withdraw_at.Goals as goal

pub returns-then-pending_user-user : goal.returns-then-pending_user-user
returns-then-pending_user-user c =
    gives (withdraw_other c.args.p.now c.args.user c.requires.1 (λ e. omega (arith, c.pending_user.ensures.0)))

pub returns : goal.returns
returns c =
    let w = gives (withdraw_own c.args.p.now c.args.user c.requires.1 c.requires.0 (sym c.pending_user.ensures.0 ∙ c.if-pending_user-user.false)) in
    (w.0, c.clear_pending.ensures ∙ w.1)
