use Rattle.std.proofs.Common.{rules}
use Rattle.correction.proofs.Calls.{correction_passed, correction_refused}
use Rattle.correction.proofs.correction_row.Goals as goal

pub returns-then-numbers : goal.returns-then-numbers
returns-then-numbers c = correction_passed c.args.n (search rules)

pub returns : goal.returns
returns c = correction_refused c.args.n (search rules)
