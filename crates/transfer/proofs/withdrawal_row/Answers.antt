use Rattle.std.proofs.Common.{rules}
use Rattle.transfer.proofs.Withdrawals.{withdrawal_passed, withdrawal_refused}
use Rattle.transfer.proofs.withdrawal_row.Goals as goal

pub returns-then-is_mirn-is_user : goal.returns-then-is_mirn-is_user
returns-then-is_mirn-is_user c = withdrawal_passed c.args.n (search rules)

pub returns : goal.returns
returns c = withdrawal_refused c.args.n (search rules)
