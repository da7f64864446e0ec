use mathlib.Core.Path.{◌≡◌}
use mathlib.Core.Bool.{true}
use Rattle.numbers.specs.Rows.{all}
use Rattle.layout.specs.Layout.{part_of}
use Rattle.layout.specs.Sound.{part_sound}
use Rattle.table.proofs.parts_sound.Given as goal

abbrev pub invariant-loop-i : goal.invariant-loop-i
invariant-loop-i l = all (λ k. part_sound (part_of l.ed l.t k)) l.i ≡ true
