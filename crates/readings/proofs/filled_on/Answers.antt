use mathlib.Core.Path.{ap, ◌∙◌}
use lib.Dec.{eqb}
use Rattle.readings.specs.InnerReadings.{point_of_part}
use Rattle.readings.proofs.Days.{one_filled}
use Rattle.readings.proofs.filled_on.Goals as goal

pub returns : goal.returns
returns c = ap (λ n. eqb n 1) c.filled_between.ensures ∙ one_filled (point_of_part c.args.part.now) c.args.d
