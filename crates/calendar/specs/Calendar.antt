-- Days, dates and business days (document 01, "Days and units"). A day is counted from 1 January 1970 = 0; calls take 0
-- to 39,999, which is 7 July 2079.
use Rattle.std.specs.Prelude.{Bool, true, false, not, ◌&&◌, ◌||◌, cond, List, [], ◌∷◌, ℕ, zero, suc, ◌+◌, ◌-◌, ◌%◌, leb, ltb, eqb, ℤ, pos, length, get_or, Option as Maybe, Some, None, Result, Ok, Err}
use mathlib.Core.Option.{Option, none, some}
use Rattle.std.specs.Int.Signed.{le_z, lt_z}
use Rattle.numbers.specs.Naturals.{nat_of, same_z}
use Rattle.numbers.specs.Rows.{all}
use Rattle.numbers.specs.Search.{maybe, first_from, last_below}
use Rattle.refusals.specs.declared.Refusal.{Refusal}
use Rattle.refusals.specs.Refusals.{number_of}
use Rattle.calendar.specs.declared.Day.{Day}
use Rattle.calendar.specs.declared.Period.{Period}

-- lo ≤ z ≤ hi.
abbrev pub within : ℤ → ℤ → ℤ → Bool
within lo hi z = le_z lo z && le_z z hi

-- A day that calls take.
abbrev pub is_day : ℤ → Bool
is_day z = within (pos 0) (pos 39999) z

-- Leap years here are those divisible by 4.
abbrev pub leap : ℕ → Bool
leap y = eqb (y % 4) 0

-- The days of month m, 1 to 12, in a common year.
abbrev pub common_length : ℕ → ℕ
common_length m = cond (eqb m 2) 28 (cond (eqb m 4 || eqb m 6 || eqb m 9 || eqb m 11) 30 31)

-- The days before month m in a common year: those of the months before it.
unfoldable pub days_before : ℕ → ℕ
days_before zero = 0
days_before (suc zero) = 0
days_before (suc (suc m)) = days_before (suc m) + common_length (suc m)

abbrev pub month_length : ℕ → ℕ → ℕ
month_length y m = cond (leap y && eqb m 2) 29 (common_length m)

-- 1 January of the year 1970 + k.
unfoldable pub new_year : ℕ → ℕ
new_year zero = 0
new_year (suc k) = new_year k + cond (leap (1970 + k)) 366 365

-- The day of a date.
unfoldable pub day_of : ℕ → ℕ → ℕ → ℕ
day_of y m d = new_year (y - 1970) + days_before m + cond (leap y && ltb 2 m) 1 0 + (d - 1)

-- Dates run from 1 January 1970 to 7 July 2079.
unfoldable pub is_date : ℤ → ℤ → ℤ → Bool
is_date y m d =
    within (pos 1970) (pos 2079) y && within (pos 1) (pos 12) m
    && within (pos 1) (pos (month_length (nat_of y) (nat_of m))) d
    && leb (day_of (nat_of y) (nat_of m) (nat_of d)) 39999

-- Document 01's numbers of an answer: the refusal, then the day.
abbrev pub date_numbers : Result Day Refusal → List ℤ
date_numbers (Ok d) = pos 0 ∷ pos d.0 ∷ []
date_numbers (Err r) = pos (number_of r) ∷ pos 0 ∷ []

-- The date call: any other date gets 2.
unfoldable pub date_call : ℤ → ℤ → ℤ → List ℤ
date_call y m d = cond (is_date y m d) (pos 0 ∷ pos (day_of (nat_of y) (nat_of m) (nat_of d)) ∷ []) (pos 2 ∷ pos 0 ∷ [])

-- ---- business days and the allowable period (clause 1.2.1)

-- Day 0 is a Thursday, so that a day's remainder by 7 is 2 on a Saturday and 3 on a Sunday.
abbrev pub weekend : ℕ → Bool
weekend d = eqb (d % 7) 2 || eqb (d % 7) 3

-- Holidays are lent as a strictly ascending list of at most 512 days; an empty list means weekends only.
unfoldable pub holiday_list : List ℤ → Bool
holiday_list hs =
    leb (length hs) 512 && all (λ k. is_day (get_or hs k (pos 0))) (length hs)
    && all (λ k. lt_z (get_or hs k (pos 0)) (get_or hs (suc k) (pos 0))) (length hs - 1)

unfoldable pub listed : List ℤ → ℕ → Bool
listed [] d = false
listed (h ∷ hs) d = same_z h (pos d) || listed hs d

-- A business day is no Saturday, Sunday or listed holiday.
abbrev pub business_day : List ℤ → ℕ → Bool
business_day hs d = not (weekend d) && not (listed hs d)

-- The n-th business day before day d: n times the last one before. None: it would lie before day 0.
unfoldable pub business_day_before : List ℤ → ℕ → ℕ → Option ℕ
business_day_before hs zero d = some d
business_day_before hs (suc n) d = maybe none (business_day_before hs n) (last_below (business_day hs) d)

-- The n-th business day after day d. None: it would lie after day 39,999.
unfoldable pub business_day_after : List ℤ → ℕ → ℕ → Option ℕ
business_day_after hs zero d = some d
business_day_after hs (suc n) d = maybe none (business_day_after hs n) (first_from (business_day hs) (suc d) (39999 - d))

-- The allowable period of a proposed day, its first and last day: from the 10th business day before it, or the 4th
-- with a no-change statement, to the 10th after it. The proposed day itself is not counted.
unfoldable pub allowable_period : List ℤ → ℕ → ℕ → Option (ℕ × ℕ)
allowable_period hs proposed noChange =
    maybe none (λ first. maybe none (λ last. some (first, last)) (business_day_after hs 10 proposed))
    (business_day_before hs (cond (eqb noChange 1) 4 10) proposed)

-- The answers of the code, as these definitions have them.
abbrev pub reached_day : Maybe Day → Option ℕ
reached_day (Some d) = some d.0
reached_day None = none

abbrev pub period_days : Maybe Period → Option (ℕ × ℕ)
period_days (Some p) = some (p.first.0, p.last.0)
period_days None = none
