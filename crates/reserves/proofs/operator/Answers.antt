use mathlib.Core.Path.{sym, ◌∙◌, ap}
use native.Mathlib.Omega.{arith}
use Rattle.lists.specs.Lists.{operator_of}
use Rattle.lists.proofs.Operators.{named}
use Rattle.reserves.proofs.operator.Goals as goal

pub returns-then-o-eq0 : goal.returns-then-o-eq0
returns-then-o-eq0 c = ap operator_of (sym c.if-o-eq0.true ∙ c.get-o.ensures.0)

pub returns : goal.returns
returns c = sym (named c.get-o.result (omega arith)) ∙ ap operator_of c.get-o.ensures.0
