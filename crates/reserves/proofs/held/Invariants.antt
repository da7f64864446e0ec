use mathlib.Core.Path.{◌≡◌}
use Prim.Native.Nat.{◌≤◌}
use Rattle.daybook.specs.Notices.{held}
use Rattle.point.proofs.Rows.{rows_at}
use Rattle.reserves.proofs.Holders.{operator_at}
use Rattle.reserves.proofs.held.Given as goal

abbrev pub invariant-loop-i : goal.invariant-loop-i
invariant-loop-i l = (l.count ≤ l.i) × (l.count ≡ held (rows_at (operator_at l.register) 0 l.i) l.o)
