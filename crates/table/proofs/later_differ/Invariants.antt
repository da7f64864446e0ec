use Prim.Native.Nat.{suc, ◌-◌}
use mathlib.Core.Path.{◌≡◌}
use mathlib.Core.Bool.{true}
use Rattle.numbers.specs.Rows.{all}
use Rattle.layout.specs.Layout.{place_of, num_at}
use Rattle.table.proofs.Laws.{differ_at}
use Rattle.table.proofs.later_differ.Given as goal

abbrev pub invariant-loop-j : goal.invariant-loop-j
invariant-loop-j l = (l.own ≡ num_at l.t (place_of l.ed l.i)) × (all (differ_at l.ed l.t l.i) (l.j - suc l.i) ≡ true)
