use mathlib.Core.Path.{◌≡◌, ◌∙◌, ap}
use native.Mathlib.Omega.{arith}
use mir.Val.{of_z}
use mir.Syntax.{w64}
use Rattle.numbers.specs.Naturals.{nat_of}
use Rattle.numbers.proofs.Naturals.{natural_read}
use Rattle.point.proofs.OnDays.{until_open, until_day, until_none}
use Rattle.point.proofs.until.Goals as goal

pub returns-then-x-eqminus1 : goal.returns-then-x-eqminus1
returns-then-x-eqminus1 c = (until_open c.args.x c.ranges.x c.if-x-eqminus1.true, omega arith)

pub returns-then-n-lt40000 : goal.returns-then-n-lt40000
returns-then-n-lt40000 c =
    let e : c.natural-n.result ≡ nat_of c.args.x = c.natural-n.ensures.0 ∙ natural_read _ c.ranges.x in
    (e ∙ until_day c.args.x (omega arith), omega arith)

pub returns : goal.returns
returns c =
    let e : c.natural-n.result ≡ nat_of c.args.x = c.natural-n.ensures.0 ∙ natural_read _ c.ranges.x in
    (until_none c.args.x (λ q. c.if-x-eqminus1.false (ap (of_z w64) q)) (omega arith), omega arith)
