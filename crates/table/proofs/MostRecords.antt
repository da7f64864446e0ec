-- The largest number of records of a sound table's points, point by point. Assumes nothing.
use mathlib.Core.Path.{◌≡◌, sym, ◌∙◌, ap}
use mathlib.Core.List.{List, [], ◌∷◌, ◌++◌, map}
use Prim.Native.Nat.{ℕ, zero, suc, ◌+◌, ◌≤◌, ◌<◌, max}
use native.Mathlib.Omega.{arith}
use lib.IntN.{ℤ}
use lib.ListN.{length}
use Rattle.daybook.specs.declared.Edition.{Edition}
use Rattle.daybook.specs.Book.{Point, records}
use Rattle.daybook.specs.Editions.{largest, most_records}
use Rattle.lists.specs.Lists.{point_of, book_of}
use Rattle.lists.proofs.Records.{records_is}
use Rattle.layout.specs.Layout.{part_of, num_at, point_from, table_book}
use Rattle.layout.specs.InnerParts.{SoundPart}
use Rattle.layout.proofs.Cells.{place_recs}
use Rattle.layout.proofs.SoundParts.{part_well, part_laid}
use Rattle.point.proofs.Rows.{rows_at, length_rows, rows_join, map_rows, points_read}

most_append : (l m : List Point) → most_records (l ++ m) ≡ max (most_records l) (most_records m)
unfolding most_records largest
most_append [] m = omega arith
most_append (p ∷ l) m = omega (arith, most_append l m)

-- one point more
pub most_next : (f : ℕ → Point) (n : ℕ) → max (most_records (rows_at f 0 n)) (length (records (f n))) ≡ most_records (rows_at f 0 (n + 1))
unfolding rows_at most_records largest
most_next f n =
    let last : length (records (f n)) ≡ most_records (f n ∷ []) = omega arith in
    ap (max (most_records (rows_at f 0 n))) last ∙ sym (most_append (rows_at f 0 n) (f n ∷ []))
    ∙ ap most_records (rows_join f n 1 0 n (omega arith))

-- a point has no more
pub most_at : (f : ℕ → Point) (n k i : ℕ) → i < n → length (records (f (k + i))) ≤ most_records (rows_at f k n)
unfolding rows_at most_records largest
most_at f zero k i h = absurd (omega arith)
most_at f (suc n) k zero h = let e : k + 0 ≡ k = omega arith in rw e (omega arith)
most_at f (suc n) k (suc i) h = let e : k + suc i ≡ suc k + i = omega arith in rw e (omega (arith, most_at f n (suc k) i (omega arith)))

-- the records that a part says it has
pub part_records : {p : List ℤ} → SoundPart p → num_at p 6 ≡ length (records (point_of (point_from p)))
part_records s = place_recs (part_well s) (part_laid s) ∙ ap length (sym (records_is (part_well s)))

module _ (ed : Edition) (t : List ℤ) where
  -- The book's point i.
  abbrev pub point_at : ℕ → Point
  point_at i = point_of (point_from (part_of ed t i))

  pub points_at : (table_book ed t).points ≡ rows_at point_at 0 (num_at t 0)
  unfolding table_book book_of
  points_at = ap (λ qs. map point_of qs) (points_read ed t) ∙ map_rows point_of (λ i. point_from (part_of ed t i)) 0 (num_at t 0)

  pub count_at : length (table_book ed t).points ≡ num_at t 0
  count_at = ap length points_at ∙ length_rows point_at 0 (num_at t 0)
