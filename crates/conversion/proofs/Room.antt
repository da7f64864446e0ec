-- What an edition has room for. Assumes nothing.
use mathlib.Core.Path.{◌≡◌, refl, sym, ◌∙◌, ap, ap₂}
use mathlib.Core.Bool.{Bool, true, false, not, ◌&&◌, ◌||◌}
use mathlib.Core.List.{List}
use Prim.Native.Nat.{ℕ, ◌+◌, ◌≤◌, ◌<◌}
use native.Mathlib.Omega.{arith}
use lib.Dec.{leb, ltb}
use lib.IntN.{ℤ}
use lib.ListN.{length}
use borrow.Author.Tests.{le-leb, lt-leb, le-ltb, ltb-true, ltb-false}
use Rattle.daybook.specs.declared.Edition.{Edition}
use Rattle.daybook.specs.Book.{records}
use Rattle.daybook.specs.Notices.{operators_in, unfilled, over_four}
use Rattle.daybook.specs.Editions.{most_records, no_room}
use Rattle.lists.proofs.OtherRoom.{has_room}
use Rattle.layout.specs.Layout.{Fits, part_of, num_at, table_book}
use Rattle.layout.specs.Sound.{sound}
use Rattle.layout.proofs.SoundParts.{sound_at}
use Rattle.table.proofs.MostRecords.{most_at, part_records, point_at, points_at, count_at}

-- more points than there is room for are also more with the reserves
room_is : (P Q n m u : ℕ) → (leb (n + u) P && leb m Q) ≡ not (ltb P n || ltb Q m || ltb P (n + u))
room_is P Q n m u =
    ap₂ ◌&&◌ (turned (n + u) P) (turned m Q) ∙ go (ltb P n) (ltb Q m) (ltb P (n + u)) (λ e. le-ltb P n (fewer (ltb-false P (n + u) e)))
  where
    turned : (a b : ℕ) → leb a b ≡ not (ltb b a)
    turned a b = by (ltb b a) refl
      where
        by : (x : Bool) → ltb b a ≡ x → leb a b ≡ not x
        by true e = lt-leb a b (ltb-true b a e)
        by false e = le-leb a b (ltb-false b a e)

    fewer : n + u ≤ P → n ≤ P
    fewer h = omega arith

    go : (a b c : Bool) → (c ≡ false → a ≡ false) → (not c && not b) ≡ not (a || b || c)
    go true true true f = refl
    go true true false f = refl
    go true false true f = refl
    go true false false f = f refl
    go false true true f = refl
    go false true false f = refl
    go false false true f = refl
    go false false false f = refl

pub has_room_is : (ed to : Edition) (t : List ℤ) (n u m : ℕ) → n ≡ num_at t 0 → u ≡ over_four (unfilled to (operators_in (table_book ed t).points))
    → m ≡ most_records (table_book ed t).points → (leb (n + u) to.points && leb m to.records) ≡ not (no_room to (table_book ed t))
unfolding no_room
has_room_is ed to t n u m en eu em =
    rw (en ∙ sym (count_at ed t), eu, em)
    (room_is to.points to.records (length (table_book ed t).points) (most_records (table_book ed t).points) (over_four (unfilled to (operators_in (table_book ed t).points))))

-- the points of a table, and the records of each that is sound, have room where their book has
pub points_fit : (ed to : Edition) (t : List ℤ) → no_room to (table_book ed t) ≡ false → num_at t 0 ≤ to.points
points_fit ed to t e = omega (arith, count_at ed t, (has_room to (table_book ed t) e).points)

pub records_fit : (ed to : Edition) → Fits ed → (t : List ℤ) → sound ed t ≡ true → no_room to (table_book ed t) ≡ false
    → (i : ℕ) → i < num_at t 0 → num_at (part_of ed t i) 6 ≤ to.records
records_fit ed to f t s e i h =
    let z : 0 + i ≡ i = omega arith in
    let a = part_records (sound_at ed f t i s h) in
    let b = most_at (point_at ed t) (num_at t 0) 0 i h in
    let m = ap most_records (points_at ed t) in
    omega (arith, a, ap (λ k. length (records (point_at ed t k))) z, b, m, (has_room to (table_book ed t) e).records)
