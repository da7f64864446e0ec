use mathlib.Core.Path.{◌≡◌}
use Prim.Native.Nat.{ℕ, ◌*◌, ◌≤◌}
use lib.ListN.{length}
use Rattle.daybook.specs.Book.{Point}
use Rattle.daybook.specs.Queries.{total}
use Rattle.layout.specs.Layout.{stride}
use Rattle.readings.specs.InnerReadings.{point_of_part}
use Rattle.readings.proofs.Points.{part_point}
use Rattle.allocate.proofs.Arrays.{filled_to}
use Rattle.allocate.proofs.of_points.Given as goal

abbrev pub invariant-loop-i : goal.invariant-loop-i
invariant-loop-i g l =
    (number : Point → ℕ) (most : ℕ)
    → ((part : _) (r : ℕ) → length part.now.numbers.now ≡ stride l.register.edition → goal.F-post g l.read part r → (r ≡ number (point_of_part part.now)) × (r ≤ most))
    → (l.numbers ≡ filled_to (λ k. number (part_point l.register.edition l.register.table.now k)) l.i) × (total l.numbers ≤ most * l.i)
