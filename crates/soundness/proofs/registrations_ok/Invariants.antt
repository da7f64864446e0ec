use mathlib.Core.Path.{◌≡◌}
use Prim.Native.Nat.{◌-◌}
use Rattle.point.specs.InnerTests.{rows, reg_at, reg_leaves, regs_ok}
use Rattle.soundness.proofs.registrations_ok.Given as goal

abbrev pub invariant-loop-k : goal.invariant-loop-k
invariant-loop-k l = rows (reg_at l.p) (reg_leaves l.p) (l.latest, l.lo) l.k (l.n - l.k) ≡ regs_ok l.p l.n
