use mathlib.Core.Path.{◌≡◌}
use Prim.Native.Nat.{◌*◌, ◌≤◌}
use lib.IntN.{sub_ℕ}
use Rattle.numbers.specs.Sums.{sum_from}
use Rattle.daybook.specs.Queries.{metered_of}
use Rattle.readings.proofs.Points.{part_point}
use Rattle.allocate.proofs.metered.Given as goal

abbrev pub invariant-loop-i : goal.invariant-loop-i
invariant-loop-i l =
    (l.sum ≤ 2000000 * l.i)
    × (sum_from (λ k. metered_of l.g (part_point l.register.edition l.register.table.now k)) 0 l.i ≡ sub_ℕ l.sum (1000000 * l.i))
