use Rattle.soundness.specs.InnerPart.{pending_ok}
use Rattle.soundness.proofs.pending_ok.Goals as goal

pub returns : goal.returns
unfolding pending_ok
returns c = rw (c.pending_first.ensures.0, c.pending_last-last.ensures.0, c.reg_user-latest.ensures.0, c.pending_user-user.ensures.0)
