-- A refusal's number is a row of the table of refusals, 1 to 22. Assumes nothing.
use Rattle.std.specs.Prelude.{◌≤◌}
use native.Mathlib.Omega.{arith}
use Rattle.refusals.specs.declared.Refusal.{Refusal}
use Rattle.refusals.specs.declared.Refusal.TheVariants as Refusal·
use Rattle.refusals.specs.Refusals.{number_of}

pub number_within : (r : Refusal) → (1 ≤ number_of r) × (number_of r ≤ 22)
number_within Refusal·.Unsound = (omega arith, omega arith)
number_within Refusal·.OutOfRange = (omega arith, omega arith)
number_within Refusal·.NoHolidayList = (omega arith, omega arith)
number_within Refusal·.UnknownMirn = (omega arith, omega arith)
number_within Refusal·.MirnOpen = (omega arith, omega arith)
number_within Refusal·.DaysOfOtherKind = (omega arith, omega arith)
number_within Refusal·.NotAppendDay = (omega arith, omega arith)
number_within Refusal·.OffDay = (omega arith, omega arith)
number_within Refusal·.Unconfirmed = (omega arith, omega arith)
number_within Refusal·.RequestPending = (omega arith, omega arith)
number_within Refusal·.NoRequest = (omega arith, omega arith)
number_within Refusal·.LatestUser = (omega arith, omega arith)
number_within Refusal·.PeriodOutside = (omega arith, omega arith)
number_within Refusal·.CannotSwitch = (omega arith, omega arith)
number_within Refusal·.NoWeight = (omega arith, omega arith)
number_within Refusal·.Full = (omega arith, omega arith)
number_within Refusal·.BrokenBlock = (omega arith, omega arith)
number_within Refusal·.OtherState = (omega arith, omega arith)
number_within Refusal·.ReserveAtStake = (omega arith, omega arith)
number_within Refusal·.DayNotPermitted = (omega arith, omega arith)
number_within Refusal·.UserUnchanged = (omega arith, omega arith)
number_within Refusal·.OtherEditionFull = (omega arith, omega arith)
