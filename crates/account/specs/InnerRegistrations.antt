-- What the functions that work on one registration say of it. The call itself speaks of none of this.
use Rattle.std.specs.Prelude.{cond, List, ℕ, suc, ◌-◌, min, max, ltb, eqb, ℤ, pos}
use Rattle.numbers.specs.Sums.{sum_from}
use Rattle.layout.specs.Places.{reg_count}
use Rattle.layout.specs.Layout.{num_at}
use Rattle.point.specs.InnerTests.{reg_start, reg_user}

-- Day d, moved into a to b.
unfoldable pub moved_into : ℕ → ℕ → ℕ → ℕ
moved_into a b d = max a (min d b)

-- The day on which registration j of a part starts, moved into x to y; y if there is no such registration.
unfoldable pub start_in : List ℤ → ℕ → ℕ → ℕ → ℕ
start_in p x y j = cond (ltb j (num_at p reg_count)) (moved_into x y (reg_start p j)) y

-- What f adds up to over registration j's days of x to y - 1, if it is the User's.
unfoldable pub own_in : (ℕ → ℤ) → ℕ → List ℤ → ℕ → ℕ → ℕ → ℤ
own_in f user p x y j =
    cond (eqb (reg_user p j) user) (sum_from f (start_in p x y j) (start_in p x y (suc j) - start_in p x y j)) (pos 0)
