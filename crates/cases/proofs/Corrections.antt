-- Corrections at the boundaries (document 02, j), computed from the definitions.
use mathlib.Core.Path.{◌≡◌, refl}
use mathlib.Core.Bool.{true, false}
use Prim.Native.Nat.{ℕ}
use Rattle.daybook.specs.Book.{from_on}
use Rattle.daybook.specs.Notices.{least}
use Rattle.daybook.specs.Corrections.{affected, permitted, correct_rows}
use Rattle.cases.specs.Journal.{replies_from}

-- before install, on it and after the notice day; 425 and 426 days before the notice day
period :
    (permitted 100 100 99 ≡ false) × (permitted 100 100 100 ≡ true) × (permitted 100 100 101 ≡ false)
    × (permitted 100 525 100 ≡ true) × (permitted 100 526 100 ≡ false) × (permitted 0 425 0 ≡ true)
    × (permitted 0 426 0 ≡ false)
period = (refl, refl, refl, refl, refl, refl, refl)

-- 20 before 21 before 16
order :
    (least (correct_rows true true true) ≡ 20) × (least (correct_rows true false true) ≡ 20)
    × (least (correct_rows false true true) ≡ 21)
    × (least (correct_rows false false true) ≡ 16) × (least (correct_rows false false false) ≡ 0)
unfolding replies_from
order = (refl, refl, refl, refl, refl)

-- User 1 from day 39,980 on, User 2 on day 40,000
users : ℕ → ℕ
users = from_on 40000 2 (from_on 39980 1 (λ d. 0))

-- User 3 from day 39,990 on takes days of both and is not marked; User 1 from there on takes day 40,000 alone
marks :
    (affected users (from_on 39990 3 users) 1 ≡ true) × (affected users (from_on 39990 3 users) 2 ≡ true)
    × (affected users (from_on 39990 3 users) 3 ≡ false)
    × (affected users (from_on 39990 1 users) 1 ≡ false) × (affected users (from_on 39990 1 users) 2 ≡ true)
unfolding replies_from users
marks = (refl, refl, refl, refl, refl)
