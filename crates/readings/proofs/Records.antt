-- Sums over days are sums over records, and no day is walked: what a record has between two days is the difference of
-- two prefixes, by the one telescope. Assumes nothing.
use mathlib.Core.Path.{◌≡◌, refl, sym, ap, ap₂, ◌∙◌}
use mathlib.Core.Bool.{Bool, true, false, ◌||◌}
use mathlib.Core.Option.{Option, none, some}
use mathlib.Core.List.{List}
use Prim.Native.Nat.{ℕ, zero, suc, ◌+◌, ◌-◌, ◌≤◌, ◌<◌, min}
use native.Mathlib.Omega.{arith}
use borrow.Author.Tests.{leb-true, ltb-true}
use lib.Dec.{leb, ltb}
use lib.IntN.{ℤ, pos, ◌+ℤ◌, ◌-ℤ◌, +ℤ_idl, +ℤ_idr}
use Rattle.numbers.specs.Sums.{sum_from}
use Rattle.numbers.proofs.Integers.{eq_z, minus_fact}
use Rattle.numbers.proofs.Sums.{sum_same, sum_zero, sum_plus, telescope}
use Rattle.daybook.specs.Book.{Entry, fill}
use Rattle.daybook.specs.Queries.{sum_of}
use Rattle.lists.specs.Lists.{entry_on}
use Rattle.lists.proofs.Apart.{Apart, noentry, apart, recs_apart, Place, inside, under, over, place, entry_none}
use Rattle.layout.specs.Layout.{num_at, point_from}
use Rattle.layout.specs.InnerParts.{SoundPart}
use Rattle.layout.proofs.SoundParts.{part_well}
use Rattle.point.specs.InnerTests.{rec_row}
use Rattle.point.proofs.Rows.{rows_at}
use Rattle.readings.specs.InnerReadings.{days_passed}
use Rattle.readings.specs.InnerRecords.{part_between}
use Rattle.readings.proofs.Part.{recs_of}

-- What a day has, where the first k days of its entry have g k together.
unfoldable pub day_of : (Entry → ℕ → ℤ) → Option Entry → ℕ → ℤ
day_of g none d = pos 0
day_of g (some x) d = g x (suc (d - x.start)) -ℤ g x (d - x.start)

-- ---- how many of an entry's days lie before a day

pub before_most : (s e d : ℕ) → s ≤ e → days_passed s e d ≤ suc e - s
unfolding days_passed
before_most s e d h = omega arith

pub before_up : (s e x y : ℕ) → x ≤ y → days_passed s e x ≤ days_passed s e y
unfolding days_passed
before_up s e x y h = omega arith

-- none of the days x to y - 1 is one of them
pub before_apart : (s e x y : ℕ) → x ≤ y → (leb y s || ltb e x) ≡ true → days_passed s e x ≡ days_passed s e y
unfolding days_passed
before_apart s e x y l h = go (leb y s) refl h
  where
    go : (t : Bool) → leb y s ≡ t → (t || ltb e x) ≡ true → min (x - s) (suc e - s) ≡ min (y - s) (suc e - s)
    go true q h = omega (arith, leb-true y s q)
    go false q h = omega (arith, ltb-true e x h)

module _ (x : Entry) (d : ℕ) where
  before_in : x.start ≤ d → d ≤ x.end
      → (days_passed x.start x.end (suc d) ≡ suc (d - x.start)) × (days_passed x.start x.end d ≡ d - x.start)
  unfolding days_passed
  before_in h k = (omega arith, omega arith)

  before_under : d < x.start → days_passed x.start x.end (suc d) ≡ days_passed x.start x.end d
  unfolding days_passed
  before_under h = omega arith

  before_over : x.end < d → days_passed x.start x.end (suc d) ≡ days_passed x.start x.end d
  unfolding days_passed
  before_over h = omega arith

module _ (g : Entry → ℕ → ℤ) where
  -- no days, nothing
  pub part_none : (x y : ℕ) (e : Entry) → days_passed e.start e.end x ≡ days_passed e.start e.end y
      → part_between g x y e ≡ pos 0
  unfolding part_between
  part_none x y e h =
      ap (λ k. g e (days_passed e.start e.end y) -ℤ g e k) h
      ∙ eq_z _ (pos 0) (omega (arith, minus_fact (g e (days_passed e.start e.end y)) (g e (days_passed e.start e.end y))))

  -- one day has what the first record has on it and what the others have
  day_step : {hi : ℕ} (x : Entry) {l : List Entry} → Apart hi (suc x.end) l → (d : ℕ)
      → day_of g (fill x (entry_on l) d) d ≡ part_between g d (suc d) x +ℤ day_of g (entry_on l d) d
  unfolding day_of fill part_between
  day_step x {l} r d = go (place x d)
    where
      others : days_passed x.start x.end (suc d) ≡ days_passed x.start x.end d
          → day_of g (entry_on l d) d ≡ part_between g d (suc d) x +ℤ day_of g (entry_on l d) d
      others e = sym (ap (λ z. z +ℤ day_of g (entry_on l d) d) (part_none d (suc d) x (sym e)) ∙ +ℤ_idl _)

      own : x.start ≤ d → d ≤ x.end → g x (suc (d - x.start)) -ℤ g x (d - x.start) ≡ part_between g d (suc d) x
      own h k = sym (ap₂ (λ m n. g x m -ℤ g x n) (before_in x d h k).0 (before_in x d h k).1)

      go : Place x d → day_of g (fill x (entry_on l) d) d ≡ part_between g d (suc d) x +ℤ day_of g (entry_on l d) d
      go (inside h k e) =
          rw e (own h k ∙ sym (ap (λ o. part_between g d (suc d) x +ℤ day_of g o d) (entry_none r d (omega arith)) ∙ +ℤ_idr _))
      go (under h e) = rw e (others (before_under x d h))
      go (over h e) = rw e (others (before_over x d h))

  -- THE LAW: n days from a on
  pub records_sum : {hi lo : ℕ} {l : List Entry} → Apart hi lo l → (a n : ℕ)
      → sum_from (λ d. day_of g (entry_on l d) d) a n ≡ sum_of (part_between g a (a + n)) l
  unfolding entry_on sum_of day_of part_between
  records_sum noentry a n = sum_zero _ a n (λ d h k. refl)
  records_sum (apart {x = x} {l = l} b s e r) a n =
      sum_same _ _ a n (λ d h k. day_step x r d)
      ∙ sum_plus (λ d. part_between g d (suc d) x) (λ d. day_of g (entry_on l d) d) a n
      ∙ ap₂ ◌+ℤ◌ (telescope (λ d. g x (days_passed x.start x.end d)) a n) (records_sum r a n)

-- the sum over a list of rows
pub sum_rows : {X : Type 0} (f : X → ℤ) (row : ℕ → X) (k n : ℕ) → sum_of f (rows_at row k n) ≡ sum_from (λ i. f (row i)) k n
unfolding sum_of rows_at sum_from
sum_rows f row k zero = refl
sum_rows f row k (suc n) = ap (λ z. f (row k) +ℤ z) (sum_rows f row (suc k) n)

-- the days x to y - 1 of a readable part, by its rows
pub days_by_rows : (g : Entry → ℕ → ℤ) {p : List ℤ} → SoundPart p → (x y : ℕ) → x ≤ y
    → sum_from (λ k. part_between g x y (rec_row p k)) 0 (num_at p 6) ≡ sum_from (λ d. day_of g (entry_on (point_from p).recs d) d) x (y - x)
days_by_rows g {p} r x y h =
    let e : x + (y - x) ≡ y = omega arith in
    sym
    (records_sum g (recs_apart (part_well r).recs_ok) x (y - x)
    ∙ ap (λ z. sum_of (part_between g x z) (point_from p).recs) e
    ∙ ap (sum_of (part_between g x y)) (recs_of p)
    ∙ sum_rows (part_between g x y) (rec_row p) 0 (num_at p 6))
