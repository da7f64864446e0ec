-- The number of each refusal: the first column of document 01's "Notices sent back"; from 17 on document 02's.
use Rattle.std.specs.Prelude.{ℕ, Result, Ok, Err}
use Rattle.refusals.specs.declared.Refusal.{Refusal}
use Rattle.refusals.specs.declared.Refusal.TheVariants as Refusal·

abbrev pub number_of : Refusal → ℕ
number_of Refusal·.Unsound = 1
number_of Refusal·.OutOfRange = 2
number_of Refusal·.NoHolidayList = 3
number_of Refusal·.UnknownMirn = 4
number_of Refusal·.MirnOpen = 5
number_of Refusal·.DaysOfOtherKind = 6
number_of Refusal·.NotAppendDay = 7
number_of Refusal·.OffDay = 8
number_of Refusal·.Unconfirmed = 9
number_of Refusal·.RequestPending = 10
number_of Refusal·.NoRequest = 11
number_of Refusal·.LatestUser = 12
number_of Refusal·.PeriodOutside = 13
number_of Refusal·.CannotSwitch = 14
number_of Refusal·.NoWeight = 15
number_of Refusal·.Full = 16
number_of Refusal·.BrokenBlock = 17
number_of Refusal·.OtherState = 18
number_of Refusal·.ReserveAtStake = 19
number_of Refusal·.DayNotPermitted = 20
number_of Refusal·.UserUnchanged = 21
number_of Refusal·.OtherEditionFull = 22

-- The row that sends a call back, 0 if none does.
abbrev pub row_of : {X : Type 0} → Result X Refusal → ℕ
row_of (Ok x) = 0
row_of (Err r) = number_of r
