use mathlib.Core.Path.{◌≡◌}
use Prim.Native.Nat.{◌-◌}
use Rattle.point.specs.InnerTests.{passed, first_on}
use Rattle.point.proofs.first_on.Given as goal

abbrev pub invariant-loop-k : goal.invariant-loop-k
invariant-loop-k l = passed l.p l.x l.k (l.m - l.k) ≡ first_on l.p l.m l.d
