use Rattle.std.proofs.Common.{rules}
use Rattle.transfer.proofs.Requests.{request_range, request_holidays, request_passed}
use Rattle.transfer.proofs.request_row.Goals as goal

pub returns-then-not-numbers : goal.returns-then-not-numbers
returns-then-not-numbers c = request_range c.args.n _ (search rules)

pub returns-then-not-holiday_list : goal.returns-then-not-holiday_list
returns-then-not-holiday_list c = request_holidays c.args.n _ (search rules) (search rules)

pub returns : goal.returns
returns c = request_passed c.args.n _ (search rules) (search rules)
