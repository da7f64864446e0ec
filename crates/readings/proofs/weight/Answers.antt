use mathlib.Core.Path.{sym, ap, ap₂, ◌∙◌}
use mathlib.Core.Bool.{◌&&◌}
use native.Mathlib.Omega.{arith}
use lib.Dec.{eqb}
use Rattle.daybook.specs.Queries.{base_over}
use Rattle.readings.specs.InnerReadings.{point_of_part}
use Rattle.readings.proofs.Users.{kind_is, base_is, base_few}
use Rattle.readings.proofs.Weights.{weight_none, weight_base, weight_measured, weight_shown}
use borrow.Author.Rules.{rules}
use Rattle.readings.proofs.weight.Goals as goal

pub returns-then-not-active-kind : goal.returns-then-not-active-kind
returns-then-not-active-kind c =
    let test_is = ap₂ (λ a k. a && eqb k 0) c.active.ensures (c.kind.ensures.0 ∙ kind_is c.args.part.now.numbers.now) in
    (weight_none (point_of_part c.args.part.now) c.args.g c.args.a c.args.b (sym test_is ∙ c.if-not-active-kind.true), search rules)

pub returns-then-energy-ne0 : goal.returns-then-energy-ne0
returns-then-energy-ne0 c =
    let test_is = ap₂ (λ a k. a && eqb k 0) c.active.ensures (c.kind.ensures.0 ∙ kind_is c.args.part.now.numbers.now) in (
      c.measured-energy.ensures.0
          ∙ weight_shown (point_of_part c.args.part.now) c.args.g c.args.a c.args.b (sym test_is ∙ c.if-not-active-kind.false)
          (λ z. c.if-energy-ne0.true (c.measured-energy.ensures.0 ∙ z)),
      omega arith,
    )

pub base_over-requires : goal.base_over-requires
base_over-requires c =
    let h = base_few c.args.part.now.is_sound in
    search rules

pub returns-then-filled_between-eq0 : goal.returns-then-filled_between-eq0
returns-then-filled_between-eq0 c =
    let test_is = ap₂ (λ a k. a && eqb k 0) c.active.ensures (c.kind.ensures.0 ∙ kind_is c.args.part.now.numbers.now) in (
      c.base_over.ensures.0
          ∙ ap (λ base. base_over base c.args.a c.args.b) (c.base.ensures.0 ∙ base_is c.args.part.now.numbers.now)
          ∙ weight_base (point_of_part c.args.part.now) c.args.g c.args.a c.args.b (sym test_is ∙ c.if-not-active-kind.false)
          (sym c.filled_between.ensures ∙ c.if-filled_between-eq0.true),
      omega arith,
    )

pub returns : goal.returns
returns c =
    let test_is = ap₂ (λ a k. a && eqb k 0) c.active.ensures (c.kind.ensures.0 ∙ kind_is c.args.part.now.numbers.now) in (
      sym c.if-energy-ne0.false ∙ c.measured-energy.ensures.0
          ∙ weight_measured (point_of_part c.args.part.now) c.args.g c.args.a c.args.b (sym test_is ∙ c.if-not-active-kind.false)
          (λ e. c.if-filled_between-eq0.false (c.filled_between.ensures ∙ e)),
      omega arith,
    )
