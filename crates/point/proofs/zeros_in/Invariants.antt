use mathlib.Core.Path.{◌≡◌}
use Prim.Native.Nat.{◌≤◌, ◌-◌}
use lib.Dec.{eqb}
use Rattle.layout.specs.Sound.{zeros}
use Rattle.point.proofs.zeros_in.Given as goal

abbrev pub invariant-loop-i : goal.invariant-loop-i
invariant-loop-i l = (l.i - l.a ≤ l.b - l.a) × (eqb l.bits 0 ≡ zeros l.p l.a l.i)
