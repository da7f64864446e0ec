use Prim.Native.Nat.{◌+◌, ◌-◌}
use mathlib.Core.Path.{◌≡◌, ap, ◌∙◌}
use native.Mathlib.Omega.{arith}
use mir.Syntax.{w64}
use mir.ValLaws.{to_z-of_z}
use Rattle.numbers.specs.Sums.{sum_from}
use Rattle.numbers.proofs.Sums.{sum_none, sum_turn, sum_end}
use Rattle.daybook.specs.Queries.{own_share}
use Rattle.readings.specs.InnerReadings.{point_at}
use Rattle.account.proofs.Call.{table_sum}
use borrow.Author.Rules.{sfits_of, rules}
use Rattle.account.proofs.table_energy.Goals as goal

pub loop-i-init : goal.loop-i-init
loop-i-init c = (omega (arith, c.points-n.ensures, c.args.register.now.fits.few), omega arith, sum_none _ 0)

pub loop-i-preserved : goal.loop-i-preserved
loop-i-preserved c =
    let l = c.loop-i in (
      l.invariant.0,
      search rules,
      sum_turn _ 16000000000 l.i l.sum _ l.invariant.2
          (c.point_energy-sum.ensures.0 ∙ ap (λ p. sum_from (own_share c.args.user (point_at p)) c.args.a (c.args.b + 1 - c.args.a)) c.part.ensures.is),
    )

pub returns : goal.returns
returns c =
    let l = c.loop-i in
    let n = c.points-n.result in
    let e : l.i ≡ n = omega arith in
    to_z-of_z w64 _ (sfits_of c.difference.type_inv) ∙ c.difference.ensures
    ∙ sum_end _ 16000000000 l.i l.sum n l.invariant.2 e
    ∙ ap (sum_from _ 0) c.points-n.ensures.0
    ∙ table_sum c.args.register.now.edition c.args.register.now.table.now c.args.user c.args.a c.args.b
