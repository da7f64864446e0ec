use mathlib.Core.Path.{◌≡◌, sym, ◌∙◌, ap}
use Prim.Native.Nat.{◌*◌}
use native.Mathlib.Omega.{arith}
use lib.IntN.{sub_ℕ}
use Rattle.numbers.specs.Sums.{sum_from}
use Rattle.numbers.proofs.Sums.{sum_none, sum_turn}
use Rattle.daybook.specs.Queries.{metered_of, tdm_of}
use Rattle.table.specs.InnerRegisters.{number_of_points}
use Rattle.readings.specs.InnerReadings.{point_at}
use Rattle.readings.proofs.Points.{part_point, points_sum}
use Rattle.allocate.proofs.metered.Goals as goal

pub loop-i-init : goal.loop-i-init
loop-i-init c = (omega arith, sum_none _ 0)

pub overflow_add-sum : goal.overflow_add-sum
overflow_add-sum c = omega (arith, c.loop-i.invariant.0, c.metered-sum.ensures.1, c.points-i-end.ensures.1, c.args.register.now.fits.few)

pub loop-i-preserved : goal.loop-i-preserved
loop-i-preserved c =
    let k = c.loop-i in
    let r = c.args.register.now in
    let is = c.metered-sum.ensures.0 ∙ ap (λ p. metered_of c.args.g (point_at p)) c.part.ensures.is in (
      omega arith,
      sum_turn (λ i. metered_of c.args.g (part_point r.edition r.table.now i)) 1000000 k.i k.sum c.metered-sum.result k.invariant.1 is,
    )

pub returns : goal.returns
unfolding tdm_of
returns c =
    let l = c.loop-i in
    let r = c.args.register.now in
    let e : l.i ≡ number_of_points r = omega (arith, c.points-i-end.ensures.0) in
    let is = sym l.invariant.1 ∙ ap (sum_from (λ i. metered_of c.args.g (part_point r.edition r.table.now i)) 0) e in
    (sym (ap (λ n. sub_ℕ l.sum (1000000 * n)) e) ∙ is ∙ sym (points_sum r.edition r.table.now (metered_of c.args.g)), omega (arith, e))
