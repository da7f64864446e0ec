use mathlib.Core.Path.{◌≡◌}
use mathlib.Core.Bool.{true}
use Rattle.numbers.specs.Rows.{all}
use Rattle.point.specs.InnerTests.{apart_at}
use Rattle.point.proofs.no_off.Given as goal

abbrev pub invariant-loop-k : goal.invariant-loop-k
invariant-loop-k l = all (apart_at l.p l.a l.b) l.k ≡ true
