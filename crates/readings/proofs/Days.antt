-- How many days are filled, by records, and what the number says of them. Assumes nothing.
use mathlib.Core.Path.{◌≡◌, refl, sym, ap, ap₂, ◌∙◌}
use mathlib.Core.Bool.{Bool, true, false, not, ◌&&◌, cond}
use mathlib.Core.Option.{Option, none, some}
use mathlib.Core.List.{List}
use Prim.Native.Nat.{ℕ, zero, suc, ◌+◌, ◌-◌, ◌≤◌}
use native.Mathlib.Omega.{arith}
use borrow.Author.Tests.{eq-eqb, ne_eqb, eqb-true, eqb-false, le-leb}
use lib.Dec.{eqb, leb}
use lib.IntN.{ℤ, pos, ◌+ℤ◌, ◌-ℤ◌}
use Rattle.numbers.specs.Search.{is_some, first_from}
use Rattle.numbers.specs.Sums.{sum_from}
use Rattle.numbers.proofs.Integers.{eq_z, minus_fact}
use Rattle.numbers.proofs.Search.{first_here, first_later}
use Rattle.daybook.specs.Book.{Entry, Point, filled}
use Rattle.daybook.specs.Queries.{some_filled, all_filled}
use Rattle.lists.specs.Lists.{point_of}
use Rattle.layout.specs.Layout.{num_at}
use Rattle.layout.specs.InnerParts.{SoundPart}
use Rattle.point.specs.InnerTests.{rec_row}
use Rattle.readings.specs.InnerReadings.{point_at, days_passed, filled_days}
use Rattle.readings.specs.InnerRecords.{part_between, day_count}
use Rattle.readings.proofs.Records.{day_of, before_up, days_by_rows}

-- ---- by records

pub count_is_lem : (e : Entry) (x y : ℕ) → x ≤ y
    → pos (days_passed e.start e.end y - days_passed e.start e.end x) ≡ part_between day_count x y e
unfolding part_between day_count
count_is_lem e x y h = between (days_passed e.start e.end x) (days_passed e.start e.end y) (before_up e.start e.end x y h)
  where
    between : (i j : ℕ) → i ≤ j → pos (j - i) ≡ pos j -ℤ pos i
    between i j k = eq_z _ _ (omega (arith, minus_fact (pos j) (pos i)))

filled_day : (o : Option Entry) (d : ℕ) → pos (cond (is_some o) 1 0) ≡ day_of day_count o d
unfolding day_of day_count
filled_day none d = refl
filled_day (some x) d = eq_z _ _ (omega (arith, minus_fact (pos (suc (d - x.start))) (pos (d - x.start))))

filled_sum : (p : Point) (a n : ℕ) → pos (filled_days p a n) ≡ sum_from (λ d. day_of day_count (p.entry d) d) a n
unfolding filled_days sum_from
filled_sum p a zero = refl
filled_sum p a (suc n) = ap₂ ◌+ℤ◌ (filled_day (p.entry a) a) (filled_sum p (suc a) n)

pub filled_by_rows : {p : List ℤ} → SoundPart p → (x y : ℕ) → x ≤ y
    → sum_from (λ k. part_between day_count x y (rec_row p k)) 0 (num_at p 6) ≡ pos (filled_days (point_at p) x (y - x))
unfolding point_at point_of
filled_by_rows {p} r x y h = days_by_rows day_count r x y h ∙ sym (filled_sum (point_at p) x (y - x))

-- ---- none of them, all of them, one day

module _ (p : Point) where
  pub filled_most : (a n : ℕ) → filled_days p a n ≤ n
  unfolding filled_days
  filled_most a zero = omega arith
  filled_most a (suc n) = go (filled p a) (filled_most (suc a) n)
    where
      go : (t : Bool) → filled_days p (suc a) n ≤ n → cond t 1 0 + filled_days p (suc a) n ≤ suc n
      go true h = omega arith
      go false h = omega arith

  found_some : (a n : ℕ) → is_some (first_from (filled p) a n) ≡ not (eqb (filled_days p a n) 0)
  unfolding filled_days first_from
  found_some a zero = refl
  found_some a (suc n) = go (filled p a) refl (found_some (suc a) n)
    where
      go : (t : Bool) → filled p a ≡ t → is_some (first_from (filled p) (suc a) n) ≡ not (eqb (filled_days p (suc a) n) 0)
          → is_some (first_from (filled p) a (suc n)) ≡ not (eqb (cond (filled p a) 1 0 + filled_days p (suc a) n) 0)
      go true e ih =
          ap is_some (first_here (filled p) a n e)
          ∙ rw e (sym (ap not (ne_eqb (1 + filled_days p (suc a) n) 0 (omega arith))))
      go false e ih =
          let z : filled_days p (suc a) n ≡ 0 + filled_days p (suc a) n = omega arith in
          ap is_some (first_later (filled p) a n e) ∙ ih ∙ rw e (ap (λ k. not (eqb k 0)) z)

  found_all : (a n : ℕ) → not (is_some (first_from (λ d. not (filled p d)) a n)) ≡ eqb (filled_days p a n) n
  unfolding filled_days first_from
  found_all a zero = refl
  found_all a (suc n) = go (filled p a) refl (found_all (suc a) n)
    where
      one_more : (k : ℕ) → eqb k n ≡ eqb (1 + k) (suc n)
      one_more k = same (eqb k n) refl
        where
          same : (t : Bool) → eqb k n ≡ t → t ≡ eqb (1 + k) (suc n)
          same true e = let h : k ≡ n = eqb-true k n e in sym (eq-eqb (1 + k) (suc n) (omega arith))
          same false e = sym (ne_eqb (1 + k) (suc n) (λ (q : 1 + k ≡ suc n). eqb-false k n e (omega arith)))

      go : (t : Bool) → filled p a ≡ t → not (is_some (first_from (λ d. not (filled p d)) (suc a) n)) ≡ eqb (filled_days p (suc a) n) n
          → not (is_some (first_from (λ d. not (filled p d)) a (suc n))) ≡ eqb (cond (filled p a) 1 0 + filled_days p (suc a) n) (suc n)
      go true e ih =
          ap (λ o. not (is_some o)) (first_later (λ d. not (filled p d)) a n (ap not e))
          ∙ ih ∙ rw e (one_more (filled_days p (suc a) n))
      go false e ih =
          ap (λ o. not (is_some o)) (first_here (λ d. not (filled p d)) a n (ap not e))
          ∙ rw e (sym (ne_eqb (0 + filled_days p (suc a) n) (suc n) (λ (q : 0 + filled_days p (suc a) n ≡ suc n). omega (arith, filled_most (suc a) n))))

  pub some_filled_lem : (a b : ℕ) → some_filled p a b ≡ not (eqb (filled_days p a (b + 1 - a)) 0)
  unfolding some_filled
  some_filled_lem a b = let e : suc b - a ≡ b + 1 - a = omega arith in rw e (found_some a (b + 1 - a))

  pub all_filled_lem : (a n : ℕ) → all_filled p a n ≡ eqb (filled_days p a n) n
  unfolding all_filled
  all_filled_lem a n = found_all a n

  pub one_filled : (d : ℕ) → eqb (filled_days p d (d + 1 - d)) 1 ≡ filled p d
  unfolding filled_days
  one_filled d = let e : d + 1 - d ≡ 1 = omega arith in ap (λ n. eqb (filled_days p d n) 1) e ∙ go (filled p d) refl
    where
      go : (t : Bool) → filled p d ≡ t → eqb (filled_days p d 1) 1 ≡ filled p d
      go true e = rw e refl
      go false e = rw e refl

  -- the seven days before day g
  pub week_is : (g : ℕ) → 7 ≤ g → eqb (filled_days p (g - 7) (g - (g - 7))) 7 ≡ (leb 7 g && all_filled p (g - 7) 7)
  week_is g h =
      let e : g - (g - 7) ≡ 7 = omega arith in
      ap (λ n. eqb (filled_days p (g - 7) n) 7) e
      ∙ sym (ap (λ t. t && all_filled p (g - 7) 7) (le-leb 7 g h) ∙ all_filled_lem (g - 7) 7)
