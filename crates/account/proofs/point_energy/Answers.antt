use Rattle.std.proofs.Common.{rules, ◌*◌}
use mathlib.Core.Path.{ap, ◌∙◌}
use native.Mathlib.Omega.{arith}
use Rattle.numbers.specs.Sums.{sum_from}
use Rattle.numbers.proofs.Integers.{raise}
use Rattle.daybook.specs.Book.{day_share}
use Rattle.readings.specs.InnerReadings.{point_of_part}
use Rattle.readings.proofs.Chains.{chain_sum, chain_fits}
use Rattle.account.specs.InnerRegistrations.{own_in}
use Rattle.account.proofs.Registrations.{own_by_rows}
use Rattle.account.proofs.point_energy.Goals as goal

pub sum-sum-requires-clause-fits : goal.sum-sum-requires-clause-fits
sum-sum-requires-clause-fits c =
    chain_fits _ _ _ (own_in (day_share (point_of_part c.args.part.now)) c.args.user c.args.part.now.numbers.now c.args.x c.args.y) 2000000000 4000000000 (λ k r q l h. search rules)
    _ c.map.ensures.closure c.map.ensures.source (omega arith)

pub overflow_add-result : goal.overflow_add-result
overflow_add-result c =
    let sum = chain_sum _ _ _ (own_in (day_share (point_of_part c.args.part.now)) c.args.user c.args.part.now.numbers.now c.args.x c.args.y) 2000000000 4000000000 (λ k r q l h. search rules)
    _ c.map.ensures.closure c.map.ensures.source _ c.sum-sum.ensures.ran in
    search rules

pub returns : goal.returns
returns c =
    let n = c.registrations-n.result in
    let sum = chain_sum _ _ _ (own_in (day_share (point_of_part c.args.part.now)) c.args.user c.args.part.now.numbers.now c.args.x c.args.y) 2000000000 4000000000 (λ k r q l h. search rules)
    _ c.map.ensures.closure c.map.ensures.source _ c.sum-sum.ensures.ran in (
      raise c.sum-sum.result (2000000000 * n) 16000000000 (omega arith)
          ∙ sum.0
          ∙ ap (sum_from _ 0) c.registrations-n.ensures.0
          ∙ own_by_rows c.args.part.now.is_sound c.args.user c.args.x c.args.y c.requires.0 c.requires.1,
      omega (arith, sum.1),
    )
