-- The state of the day book, how its days change, and what is read off them.
use Rattle.std.specs.Prelude.{Bool, false, not, ◌&&◌, cond, List, [], ◌∷◌, ℕ, zero, suc, ◌-◌, leb, eqb, ℤ, pos}
use Rattle.std.specs.Bool.{beq}
use mathlib.Core.Option.{Option, none, some}
use Rattle.numbers.specs.Search.{maybe, is_some, first_from, last_below}
use Rattle.numbers.specs.Shares.{share}
use Rattle.daybook.specs.declared.Facts.{Facts}

-- What an energy notice enters on each of its days. The type is 0 actual, 1 estimated or 2 substituted.
pub record Entry : Type 0 where
  pub start : ℕ
  pub end : ℕ
  pub energy : ℤ
  pub type : ℕ

-- A pending request: its User and its allowable period.
pub record Pending : Type 0 where
  pub user : ℕ
  pub first : ℕ
  pub last : ℕ

-- A delivery point on each day 0 to 40,000: its entry, if the day is filled, whether it is off (de-energised), and its
-- FRO, the responsible User, 0 for none. What stands past day 40,000 is never read.
pub record Point : Type 0 where
  pub facts : Facts
  pub entry : ℕ → Option Entry
  pub off : ℕ → Bool
  pub fro : ℕ → ℕ
  pub pending : Option Pending

-- Two validation ranges, -1 for none, and the points in order of opening.
pub record Book : Type 0 where
  pub nondaily : ℤ
  pub daily : ℤ
  pub points : List Point

-- How many days the book has: 0 to 40,000.
abbrev pub days : ℕ
days = 40001

-- ---- days that change

-- v from day d on, as before until then.
unfoldable pub from_on : {A : Type 0} → ℕ → A → (ℕ → A) → ℕ → A
from_on {A} d v f x = let before : A = f x in cond (leb d x) v before

abbrev pub covers : Entry → ℕ → Bool
covers e x = leb e.start x && leb x e.end

-- The entry on its own days.
unfoldable pub fill : Entry → (ℕ → Option Entry) → ℕ → Option Entry
fill e f x = let other : Option Entry = f x in cond (covers e x) (some e) other

-- A point with one part changed.
unfoldable pub with_entries : (ℕ → Option Entry) → Point → Point
with_entries f p = record { facts = p.facts; entry = f; off = p.off; fro = p.fro; pending = p.pending }

unfoldable pub with_off : (ℕ → Bool) → Point → Point
with_off f p = record { facts = p.facts; entry = p.entry; off = f; fro = p.fro; pending = p.pending }

unfoldable pub with_fro : (ℕ → ℕ) → Point → Point
with_fro f p = record { facts = p.facts; entry = p.entry; off = p.off; fro = f; pending = p.pending }

unfoldable pub with_pending : Option Pending → Point → Point
with_pending q p = record { facts = p.facts; entry = p.entry; off = p.off; fro = p.fro; pending = q }

-- ---- what is read off the days

-- A day with an entry is filled.
abbrev pub filled : Point → ℕ → Bool
filled p d = is_some (p.entry d)

unfoldable pub last_of : {A : Type 0} → List A → Option A
last_of [] = none
last_of (x ∷ l) = some (maybe x (λ y. y) (last_of l))

-- What g gives on the n days from d on, in order.
unfoldable pub gather : {A : Type 0} → (ℕ → Option A) → ℕ → ℕ → List A
gather g d zero = []
gather g d (suc n) = maybe (gather g (suc d) n) (λ a. a ∷ gather g (suc d) n) (g d)

-- The standing entry that starts on day d.
unfoldable pub record_at : (ℕ → Option Entry) → ℕ → Option Entry
record_at f d = maybe none (λ e. cond (eqb e.start d) (some e) none) (f d)

-- A record is a standing entry.
unfoldable pub records : Point → List Entry
records p = gather (record_at p.entry) 0 days

-- The value of the day before; u before day 0.
abbrev pub day_before : {A : Type 0} → A → (ℕ → A) → ℕ → A
day_before u f zero = u
day_before u f (suc d) = f d

-- Does a longest stretch of days with one value other than u begin on day d?
unfoldable pub begins : {A : Type 0} → (A → A → Bool) → A → (ℕ → A) → ℕ → Bool
begins same u f d = not (same (f d) u) && not (same (day_before u f d) (f d))

unfoldable pub registration_at : (ℕ → ℕ) → ℕ → Option (ℕ × ℕ)
registration_at fro d = cond (begins eqb 0 fro d) (some (d, fro d)) none

-- A registration is a longest stretch of days with one FRO: its first day and its User.
unfoldable pub registrations : Point → List (ℕ × ℕ)
registrations p = gather (registration_at p.fro) 0 days

-- The latest registration, (0, 0) if there is none.
unfoldable pub latest : Point → ℕ × ℕ
latest p = maybe (0, 0) (λ x. x) (last_of (registrations p))

-- An off span is a longest stretch of off days: its first off day and the next day on, none if it reaches day 40,000.
unfoldable pub span_at : (ℕ → Bool) → ℕ → Option (ℕ × Option ℕ)
span_at off d =
    let span : ℕ × Option ℕ = (d, first_from (λ x. not (off x)) (suc d) (days - suc d)) in
    cond (begins beq false off d) (some span) none

unfoldable pub spans : Point → List (ℕ × Option ℕ)
spans p = gather (span_at p.off) 0 days

unfoldable pub last_filled : Point → Option ℕ
last_filled p = last_below (filled p) days

-- The append day: the first day that is not off, of those after the last filled day or, with none filled, from install
-- on (3.6.8(a)(i), (v); skipping off days is *ours*).
unfoldable pub append_day : Point → Option ℕ
append_day p =
    let from : ℕ = maybe p.facts.install suc (last_filled p) in
    first_from (λ d. not (p.off d)) from (days - from)

-- The share of a day; 0 if it is not filled.
unfoldable pub day_share : Point → ℕ → ℤ
day_share p d = maybe (pos 0) (λ e. share e.energy (suc e.end - e.start) (d - e.start)) (p.entry d)
