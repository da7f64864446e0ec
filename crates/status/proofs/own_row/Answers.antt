use Rattle.std.proofs.Common.{rules}
use Rattle.status.proofs.Call.{status_passed, status_range}
use Rattle.status.proofs.own_row.Goals as goal

pub returns-then-is_mirn-is_day : goal.returns-then-is_mirn-is_day
returns-then-is_mirn-is_day c = status_passed c.args.n (search rules)

pub returns : goal.returns
returns c = status_range c.args.n (search rules)
