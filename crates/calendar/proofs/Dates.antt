-- Dates: the days before a month by formula, 1 January by division, and dates read as naturals. Assumes nothing.
use mathlib.Core.Path.{◌≡◌, refl, sym, ap₂, ◌∙◌}
use mathlib.Core.Bool.{Bool, true, false, ◌&&◌, ◌||◌, and-false, cond, false≢true}
use mathlib.Core.List.{[], ◌∷◌}
use Prim.Native.Nat.{ℕ, zero, suc, ◌+◌, ◌-◌, ◌*◌, ◌/◌, ◌%◌, ◌^◌, ◌≤◌, ◌<◌}
use native.Mathlib.Nat.{le_trans}
use native.Mathlib.Omega.{arith}
use borrow.Author.Tests.{eqb-true, eqb-false, leb-true, le-leb, lt-leb}
use lib.Dec.{leb, ltb, eqb}
use lib.IntN.{ℤ, pos, negsuc}
use lib.Signed.{le_z, lt_z}
use Rattle.numbers.specs.Naturals.{nat_of}
use Rattle.numbers.specs.Rows.{all}
use Rattle.numbers.proofs.Bools.{both, cond_small}
use Rattle.numbers.proofs.Rows.{all_at}
use Rattle.calendar.specs.Calendar.{within, is_day, leap, month_length, days_before, new_year, day_of, is_date, date_call}

-- the code's formula for the days before a month, tested at the twelve months (and at 0, where it is 0 as well)
abbrev formula : ℕ → ℕ
formula m = let spread = (367 * m - 362) / 12 in cond (leb m 2) spread (spread - 2)

pub month_formula : (m : ℕ) → m ≤ 12 → {r : ℕ} → r ≡ formula m → (r ≡ days_before m) × (r ≤ 334)
unfolding days_before all
month_formula m h e =
    let t = both _ _ (all_at (λ k. eqb (formula k) (days_before k) && leb (formula k) 334) 13 refl m (omega arith)) in
    let small : formula m ≤ 334 = leb-true _ _ t.1 in
    (e ∙ eqb-true _ _ t.0, rw e small)

-- 1 January of the year 1970 + k, with no recursion
pub new_year_lem : (k : ℕ) → new_year k ≡ 365 * k + (k + 1) / 4
unfolding new_year
new_year_lem zero = refl
new_year_lem (suc k) = go (new_year_lem k) (leap (1970 + k)) refl
  where
    go : new_year k ≡ 365 * k + (k + 1) / 4 → (b : Bool) → leap (1970 + k) ≡ b → new_year k + cond b 366 365 ≡ 365 * suc k + (suc k + 1) / 4
    go h true e = let l : (1970 + k) % 4 ≡ 0 = eqb-true _ _ e in omega arith
    go h false e = let l : (1970 + k) % 4 ≡ 0 → ⊥ = eqb-false _ _ e in omega arith

-- bounds of a number are bounds of its natural
within_natural : (lo hi : ℕ) (z : ℤ) → hi < 2 ^ 63 → (leb lo (nat_of z) && leb (nat_of z) hi) ≡ within (pos lo) (pos hi) z
within_natural lo hi (pos n) h = refl
within_natural lo hi (negsuc n) h = rw (lt-leb (2 ^ 63) hi h) (and-false (leb lo (2 ^ 63)))

-- days are ordered as their naturals are
pub days_order : (x y : ℤ) → is_day x ≡ true → is_day y ≡ true → (leb (nat_of x) (nat_of y) ≡ le_z x y) × (ltb (nat_of x) (nat_of y) ≡ lt_z x y)
days_order (pos x) (pos y) e f = (refl, refl)
days_order (pos x) (negsuc y) e f = absurd (false≢true f)
days_order (negsuc x) y e f = absurd (false≢true e)

-- ---- the date call

pub month_length_bound : (y m : ℕ) → month_length y m ≤ 31
month_length_bound y m =
    cond_small (leap y && eqb m 2) _ _ 31 (omega arith)
    (cond_small (eqb m 2) _ _ 31 (omega arith)
    (cond_small (eqb m 4 || eqb m 6 || eqb m 9 || eqb m 11) 30 31 31 (omega arith) (omega arith)))

-- the code's tests, on the naturals that it reads
abbrev pub on_calendar : ℕ → ℕ → ℕ → Bool
on_calendar y m d = leb 1970 y && leb y 2079 && (leb 1 m && leb m 12) && (leb 1 d && leb d (month_length y m))

pub calendar_bound : (y m d : ℕ) {t : Bool} → t ≡ on_calendar y m d → t ≡ true → (1970 ≤ y) × (y ≤ 2079) × (1 ≤ m) × (m ≤ 12) × (1 ≤ d) × (d ≤ 31)
calendar_bound y m d h e =
    let s = both _ _ (sym h ∙ e) in
    let t = both _ _ s.0 in
    let year = both _ _ t.0 in
    let month = both _ _ t.1 in
    let day = both _ _ s.1 in
    let last : d ≤ month_length y m = leb-true _ _ day.1 in
    let small : d ≤ 31 = le_trans last (month_length_bound y m) in
    (leb-true _ _ year.0, leb-true _ _ year.1, leb-true _ _ month.0, leb-true _ _ month.1, leb-true _ _ day.0, small)

module _ (y m d : ℤ) {Y M D : ℕ} {t : Bool} (year : Y ≡ nat_of y) (month : M ≡ nat_of m) (day : D ≡ nat_of d) (tested : t ≡ on_calendar Y M D) where
  date_tests : (t && leb (day_of Y M D) 39999) ≡ is_date y m d
  unfolding is_date
  date_tests =
      rw (tested, year, month, day)
      (ap₂ ◌&&◌
      (ap₂ ◌&&◌
      (ap₂ ◌&&◌ (within_natural 1970 2079 y (omega arith)) (within_natural 1 12 m (omega arith)))
      (within_natural 1 (month_length (nat_of y) (nat_of m)) d (omega (arith, month_length_bound (nat_of y) (nat_of m)))))
      refl)

  pub date_off : t ≡ false → pos 2 ∷ pos 0 ∷ [] ≡ date_call y m d
  unfolding date_call
  date_off e = rw (← date_tests, e)

  pub date_late : {n : ℕ} → t ≡ true → n ≡ day_of Y M D → 39999 < n → pos 2 ∷ pos 0 ∷ [] ≡ date_call y m d
  unfolding date_call
  date_late {n} e k l = rw (← date_tests, ← k, e, lt-leb n 39999 l)

  pub date_day : {n : ℕ} → t ≡ true → n ≡ day_of Y M D → n ≤ 39999 → pos 0 ∷ pos n ∷ [] ≡ date_call y m d
  unfolding date_call
  date_day {n} e k l = rw (← date_tests, ← year, ← month, ← day, ← k, e, le-leb n 39999 l)
