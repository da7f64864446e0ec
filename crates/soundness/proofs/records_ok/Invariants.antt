use mathlib.Core.Path.{◌≡◌}
use Prim.Native.Nat.{◌-◌}
use Rattle.point.specs.InnerTests.{rows, rec_at, rec_leaves, recs_ok}
use Rattle.soundness.proofs.OnePass.{Awaits}
use Rattle.soundness.proofs.records_ok.Given as goal

abbrev pub invariant-loop-k : goal.invariant-loop-k
invariant-loop-k l =
    (rows (rec_at l.p l.m) (rec_leaves l.p) l.day l.k (l.n - l.k) ≡ recs_ok l.p l.m l.n) × Awaits l.p l.m l.day l.j l.off
