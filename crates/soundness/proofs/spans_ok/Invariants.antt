use mathlib.Core.Path.{◌≡◌}
use Prim.Native.Nat.{◌-◌}
use Rattle.point.specs.InnerTests.{rows, span_ok_at, span_leaves, spans_ok}
use Rattle.soundness.proofs.spans_ok.Given as goal

abbrev pub invariant-loop-k : goal.invariant-loop-k
invariant-loop-k l = rows (span_ok_at l.p) (span_leaves l.p) l.lo l.k (l.n - l.k) ≡ spans_ok l.p l.n
