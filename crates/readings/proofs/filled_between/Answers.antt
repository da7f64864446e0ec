use mathlib.Core.Path.{sym, ap, ◌∙◌}
use native.Mathlib.Omega.{arith}
use Rattle.std.proofs.Common.{rules}
use Rattle.numbers.specs.Sums.{sum_from}
use Rattle.numbers.proofs.Integers.{pos_same}
use Rattle.point.specs.InnerTests.{rec_row}
use Rattle.readings.specs.InnerRecords.{part_between, day_count}
use Rattle.readings.proofs.Chains.{unraised, chain_sum, chain_fits}
use Rattle.readings.proofs.Days.{filled_by_rows}
use Rattle.readings.proofs.filled_between.Goals as goal

pub sum-requires-clause-fits : goal.sum-requires-clause-fits
sum-requires-clause-fits c =
    chain_fits _ _ _ (λ k. part_between day_count c.args.x c.args.y (rec_row c.args.part.now.numbers.now k)) 0 40000 (λ k r q l h. search rules)
    _ c.map.ensures.closure c.map.ensures.source (omega arith)

pub returns : goal.returns
returns c =
    let sum = chain_sum _ _ _ (λ k. part_between day_count c.args.x c.args.y (rec_row c.args.part.now.numbers.now k)) 0 40000 (λ k r q l h. search rules) _ c.map.ensures.closure c.map.ensures.source _ c.sum.ensures.ran in
    pos_same
    (sym (unraised _ _ (omega arith))
    ∙ sum.0
    ∙ ap (sum_from _ 0) c.records.ensures.0
    ∙ filled_by_rows c.args.part.now.is_sound c.args.x c.args.y c.requires)
