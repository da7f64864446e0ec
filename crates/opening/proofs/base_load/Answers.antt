use Rattle.std.proofs.Common.{◌∙◌, rules}
use Rattle.opening.proofs.CallNumbers.{base_below, base_itself}
use Rattle.opening.proofs.base_load.Goals as goal

pub returns-then-n-lt0 : goal.returns-then-n-lt0
returns-then-n-lt0 c = base_below c.args.n (search rules) c.if-n-lt0.true

pub returns : goal.returns
returns c = c.natural.ensures.0 ∙ base_itself c.args.n (search rules) c.if-n-lt0.false
