-- The points of a table, part by part, in any edition. Assumes nothing.
use mathlib.Core.Path.{◌≡◌, ap, ◌∙◌}
use mathlib.Core.List.{List, map}
use Prim.Native.Nat.{ℕ}
use lib.IntN.{ℤ}
use Rattle.numbers.specs.Sums.{sum_from}
use Rattle.daybook.specs.declared.Edition.{Edition}
use Rattle.daybook.specs.Book.{Point}
use Rattle.daybook.specs.Queries.{sum_of}
use Rattle.lists.specs.Lists.{point_of, book_of}
use Rattle.layout.specs.Layout.{part_of, num_at, point_from, table_book}
use Rattle.point.proofs.Rows.{rows_at, map_rows, points_read}
use Rattle.readings.specs.InnerReadings.{point_at}
use Rattle.readings.proofs.Records.{sum_rows}

module _ (ed : Edition) (t : List ℤ) where
  abbrev pub part_point : ℕ → Point
  part_point i = point_at (part_of ed t i)

  pub points_are : (table_book ed t).points ≡ rows_at part_point 0 (num_at t 0)
  unfolding table_book book_of point_at
  points_are = ap (map point_of) (points_read ed t) ∙ map_rows point_of (λ i. point_from (part_of ed t i)) 0 (num_at t 0)

  pub points_sum : (f : Point → ℤ) → sum_of f (table_book ed t).points ≡ sum_from (λ k. f (part_point k)) 0 (num_at t 0)
  points_sum f = ap (sum_of f) points_are ∙ sum_rows f part_point 0 (num_at t 0)
