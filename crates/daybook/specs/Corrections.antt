-- The correction of a transfer error (document 02, j), a call that changes the book, with its rows of "Notices sent
-- back".
use Rattle.std.specs.Prelude.{Bool, true, not, ◌&&◌, cond, List, [], ◌∷◌, map, ℕ, ◌-◌, leb, ltb, eqb, length, pos}
use mathlib.Core.Option.{Option, none, some}
use Rattle.numbers.specs.Naturals.{nat_of}
use Rattle.numbers.specs.Search.{is_some, first_from}
use Rattle.calendar.specs.Calendar.{is_day}
use Rattle.daybook.specs.declared.Correction.{Correction}
use Rattle.daybook.specs.Book.{Pending, Point, Book, days, from_on, with_fro, with_pending, registrations}
use Rattle.daybook.specs.Notices.{Row, Numbers, is_mirn, is_user, users, on_point}

-- ---- the point after it

-- A pending request of the User named is cleared; another's stays.
abbrev pub others_request : ℕ → Option Pending → Option Pending
others_request user none = none
others_request user (some q) = cond (eqb q.user user) none (some q)

-- The User is FRO from the correction day on, and later registrations go. Entries don't change.
unfoldable pub corrected : ℕ → ℕ → Point → Point
corrected user day p = with_fro (from_on day user p.fro) (with_pending (others_request user p.pending) p)

-- ---- what its answer marks

-- Was a User of whom the test holds FRO on some day, up to 40,000, whose FRO changed?
unfoldable pub fro_changed : (ℕ → Bool) → (ℕ → ℕ) → (ℕ → ℕ) → Bool
fro_changed test before after = is_some (first_from (λ d. test (before d) && not (eqb (before d) (after d))) 0 days)

-- An affected User was FRO on some day whose FRO changed. Sixteen flags mark them.
unfoldable pub affected : (ℕ → ℕ) → (ℕ → ℕ) → ℕ → Bool
affected before after user = fro_changed (eqb user) before after

unfoldable pub flags : (ℕ → ℕ) → (ℕ → ℕ) → Numbers
flags before after = map (λ user. pos (cond (affected before after user) 1 0)) users

-- ---- its rows

unfoldable pub correct_early : Correction → List Row
correct_early n = (2, not (is_mirn n.mirn && is_user n.user && is_day n.day && is_day n.notice)) ∷ []

-- The permitted period is from 425 days before the notice day to that day (clause 1.1.2(f)(i), used for every section),
-- and not before install.
abbrev pub permitted : ℕ → ℕ → ℕ → Bool
permitted install notice day = leb install day && leb (notice - 425) day && leb day notice

-- More than 8 registrations, or more than 7 beside a request that stays pending.
unfoldable pub full : Point → Bool
full p = ltb (cond (is_some p.pending) 7 8) (length (registrations p))

-- 20 and 21 are tested before 16, though 16 is the lowest.
unfoldable pub correct_rows : Bool → Bool → Bool → List Row
correct_rows outside unchanged full =
    (20, outside) ∷ (21, unchanged) ∷ (16, not outside && not unchanged && full) ∷ []

unfoldable pub correct_rows_at : ℕ → ℕ → ℕ → Point → List Row
correct_rows_at user day notice p =
    let after : Point = corrected user day p in
    correct_rows (not (permitted p.facts.install notice day)) (not (fro_changed (λ u. true) p.fro after.fro))
    (full after)

-- ---- the call

unfoldable pub correct_at : ℕ → ℕ → Point → Numbers × Point
correct_at user day p = let after : Point = corrected user day p in (flags p.fro after.fro, after)

unfoldable pub correct : Correction → Book → Numbers × Book
correct n B =
    on_point 16 n.mirn (correct_early n) (correct_rows_at (nat_of n.user) (nat_of n.day) (nat_of n.notice))
    (correct_at (nat_of n.user) (nat_of n.day)) B
