use native.Mathlib.Omega.{arith}
use Rattle.readings.specs.InnerReadings.{days_passed}
use Rattle.readings.proofs.days_passed.Goals as goal

pub returns : goal.returns
unfolding days_passed
returns c = (rw (c.min.ensures, c.saturating_sub.ensures) (omega arith), omega (arith, c.min.ensures, c.saturating_sub.ensures))
