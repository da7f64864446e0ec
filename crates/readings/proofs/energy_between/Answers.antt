use Rattle.std.proofs.Common.{rules, ◌*◌}
use mathlib.Core.Path.{ap, ◌∙◌}
use native.Mathlib.Omega.{arith}
use Rattle.numbers.specs.Sums.{sum_from}
use Rattle.numbers.proofs.Integers.{raise}
use Rattle.point.specs.InnerTests.{rec_row}
use Rattle.readings.specs.InnerRecords.{part_between, partial_of}
use Rattle.readings.proofs.Chains.{chain_sum, chain_fits}
use Rattle.readings.proofs.Energy.{energy_by_rows}
use Rattle.readings.proofs.energy_between.Goals as goal

pub sum-sum-requires-clause-fits : goal.sum-sum-requires-clause-fits
sum-sum-requires-clause-fits c =
    chain_fits _ _ _ (λ k. part_between partial_of c.args.x c.args.y (rec_row c.args.part.now.numbers.now k)) 1000000 2000000 (λ k r q l h. search rules)
    _ c.map.ensures.closure c.map.ensures.source (omega arith)

pub overflow_add-result : goal.overflow_add-result
overflow_add-result c =
    let sum = chain_sum _ _ _ (λ k. part_between partial_of c.args.x c.args.y (rec_row c.args.part.now.numbers.now k)) 1000000 2000000 (λ k r q l h. search rules) _ c.map.ensures.closure c.map.ensures.source _ c.sum-sum.ensures.ran in
    search rules

pub returns : goal.returns
returns c =
    let n = c.records-n.result in
    let sum = chain_sum _ _ _ (λ k. part_between partial_of c.args.x c.args.y (rec_row c.args.part.now.numbers.now k)) 1000000 2000000 (λ k r q l h. search rules) _ c.map.ensures.closure c.map.ensures.source _ c.sum-sum.ensures.ran in (
      raise c.sum-sum.result (1000000 * n) 2000000000 (omega arith)
          ∙ sum.0
          ∙ ap (sum_from _ 0) c.records-n.ensures.0
          ∙ energy_by_rows c.args.part.now.is_sound c.args.x c.args.y c.requires,
      omega (arith, sum.1),
    )
