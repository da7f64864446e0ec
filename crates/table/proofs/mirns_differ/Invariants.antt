use mathlib.Core.Path.{◌≡◌}
use mathlib.Core.Bool.{true}
use Rattle.numbers.specs.Rows.{all}
use Rattle.layout.specs.InnerMirns.{later_differ}
use Rattle.table.proofs.mirns_differ.Given as goal

abbrev pub invariant-loop-i : goal.invariant-loop-i
invariant-loop-i l = all (later_differ l.ed l.t l.n) l.i ≡ true
