use mathlib.Core.Path.{◌≡◌}
use Prim.Native.Nat.{◌^◌, ◌<◌, ◌-◌}
use Rattle.calendar.specs.Calendar.{business_day_before}
use Rattle.calendar.proofs.business_day_before.Given as goal

abbrev pub invariant-loop : goal.invariant-loop
invariant-loop l = (l.day.0 < 2 ^ 63) × (business_day_before l.hs (l.end - l.counter) l.day.0 ≡ business_day_before l.hs l.fn.n.0 l.fn.d.0)
