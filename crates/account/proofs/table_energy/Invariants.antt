use Prim.Native.Nat.{◌+◌, ◌-◌, ◌*◌, ◌≤◌}
use mathlib.Core.Path.{◌≡◌}
use lib.IntN.{sub_ℕ}
use Rattle.numbers.specs.Sums.{sum_from}
use Rattle.daybook.specs.Queries.{own_share}
use Rattle.table.specs.InnerRegisters.{part_of}
use Rattle.readings.specs.InnerReadings.{point_at}
use Rattle.account.proofs.table_energy.Given as goal

abbrev pub invariant-loop-i : goal.invariant-loop-i
invariant-loop-i l =
    (l.n ≤ 32) × (l.sum ≤ 32000000000 * l.i)
    × (sum_from (λ k. sum_from (own_share l.user (point_at (part_of l.register k))) l.a (l.b + 1 - l.a)) 0 l.i ≡ sub_ℕ l.sum (16000000000 * l.i))
