use mathlib.Core.Path.{sym, ap₂, ◌∙◌}
use mathlib.Core.Bool.{◌&&◌}
use lib.Dec.{eqb}
use Rattle.readings.specs.InnerReadings.{point_of_part}
use Rattle.readings.proofs.Users.{kind_is}
use Rattle.readings.proofs.Weights.{metered_gas, metered_none}
use borrow.Author.Rules.{rules}
use Rattle.readings.proofs.metered.Goals as goal

pub returns-then-active-kind : goal.returns-then-active-kind
returns-then-active-kind c =
    let test_is = ap₂ (λ a k. a && eqb k 1) c.active.ensures (c.kind.ensures.0 ∙ kind_is c.args.part.now.numbers.now) in
    (c.gas_on.ensures.0 ∙ metered_gas (point_of_part c.args.part.now) c.args.g (sym test_is ∙ c.if-active-kind.true), c.gas_on.ensures.1)

pub returns : goal.returns
returns c =
    let test_is = ap₂ (λ a k. a && eqb k 1) c.active.ensures (c.kind.ensures.0 ∙ kind_is c.args.part.now.numbers.now) in
    (metered_none (point_of_part c.args.part.now) c.args.g (sym test_is ∙ c.if-active-kind.false), search rules)
