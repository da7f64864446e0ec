use mathlib.Core.Path.{◌≡◌, ◌∙◌, ap, ap₂, subst}
use Prim.Native.Nat.{◌+◌, ◌*◌, ◌<◌, ◌≤◌}
use native.Mathlib.Omega.{arith}
use lib.ListN.{length, set}
use Rattle.daybook.specs.Queries.{total}
use Rattle.table.specs.InnerRegisters.{number_of_points}
use Rattle.table.proofs.Registers.{register_stride}
use Rattle.readings.specs.InnerReadings.{point_at}
use Rattle.readings.proofs.Points.{part_point}
use Rattle.allocate.proofs.Arrays.{filled_to, none_filled, one_filled, all_filled_lem, put_adds}
use Rattle.allocate.proofs.Given.{total_zeros}
use Rattle.allocate.proofs.of_points.Goals as goal

pub loop-i-init : goal.loop-i-init
loop-i-init g c = λ number most each. (none_filled _, omega (arith, total_zeros 32))

pub bounds-numbers-i : goal.bounds-numbers-i
bounds-numbers-i g c = omega (arith, c.points-i-end.ensures.1, c.args.register.now.fits.few)

pub loop-i-preserved : goal.loop-i-preserved
loop-i-preserved g c =
    let k = c.loop-i in
    let r = c.args.register.now in
    let below : k.i < 32 = omega (arith, c.points-i-end.ensures.1, r.fits.few) in
    let long = ap length c.part.ensures.is ∙ register_stride r k.i (omega (arith, c.points-i-end.ensures.0)) in
    λ number most each.
    let so_far = k.invariant number most each in
    let one = each _ c.read.result long c.read.ensures in
    let step : most * (k.i + 1) ≡ most * k.i + most = omega arith in (
      ap₂ (λ l x. set l k.i x) so_far.0 (one.0 ∙ ap (λ p. number (point_at p)) c.part.ensures.is)
          ∙ one_filled (λ i. number (part_point r.edition r.table.now i)) k.i below,
      omega (arith, put_adds k.numbers k.i c.read.result, so_far.1, one.1, step),
    )

pub returns : goal.returns
returns g c = λ number most each.
    let l = c.loop-i in
    let r = c.args.register.now in
    let e : l.i ≡ number_of_points r = omega (arith, c.points-i-end.ensures.0) in
    let all = l.invariant number most each in (
      all.0 ∙ ap (filled_to (λ i. number (part_point r.edition r.table.now i))) e ∙ all_filled_lem r number,
      subst (λ i. total l.numbers ≤ most * i) e all.1,
    )
