use mathlib.Core.Path.{sym, ◌∙◌}
use Rattle.readings.specs.InnerReadings.{point_of_part}
use Rattle.readings.proofs.Weights.{gas_day, gas_week, gas_before, gas_none}
use borrow.Author.Rules.{rules}
use Rattle.readings.proofs.gas_on.Goals as goal

pub returns-then-filled_on : goal.returns-then-filled_on
returns-then-filled_on c =
    (c.share_on.ensures.0 ∙ gas_day (point_of_part c.args.part.now) c.args.g (sym c.filled_on.ensures ∙ c.if-filled_on.true), c.share_on.ensures.1)

pub returns-then-week_filled : goal.returns-then-week_filled
returns-then-week_filled c = (
  c.share_on-then-week_filled.ensures.0
      ∙ gas_week (point_of_part c.args.part.now) c.args.g (sym c.filled_on.ensures ∙ c.if-filled_on.false) (sym c.week_filled.ensures ∙ c.if-week_filled.true),
  c.share_on-then-week_filled.ensures.1,
)

pub returns-then-filled_on-2 : goal.returns-then-filled_on-2
returns-then-filled_on-2 c = (
  c.share_on-then-filled_on-2.ensures.0
      ∙ gas_before (point_of_part c.args.part.now) c.args.g (sym c.filled_on.ensures ∙ c.if-filled_on.false)
      (sym c.week_filled.ensures ∙ c.if-week_filled.false) (sym c.filled_on-2.ensures ∙ c.if-filled_on-2.true),
  c.share_on-then-filled_on-2.ensures.1,
)

pub returns : goal.returns
returns c = (
  gas_none (point_of_part c.args.part.now) c.args.g (sym c.filled_on.ensures ∙ c.if-filled_on.false)
      (sym c.week_filled.ensures ∙ c.if-week_filled.false) (sym c.filled_on-2.ensures ∙ c.if-filled_on-2.false),
  search rules,
)
