use Rattle.correction.proofs.Points.{by_days}
use Rattle.correction.proofs.permitted.Goals as goal

pub returns : goal.returns
returns c = let a = c.args in by_days a.install a.notice a.day
