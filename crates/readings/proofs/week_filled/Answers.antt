use mathlib.Core.Path.{ap, ◌∙◌}
use lib.Dec.{eqb}
use Rattle.readings.specs.InnerReadings.{point_of_part}
use Rattle.readings.proofs.Days.{week_is}
use Rattle.readings.proofs.week_filled.Goals as goal

pub returns-then-g-ge7 : goal.returns-then-g-ge7
returns-then-g-ge7 c = ap (λ n. eqb n 7) c.filled_between.ensures ∙ week_is (point_of_part c.args.part.now) c.args.g c.if-g-ge7.true
