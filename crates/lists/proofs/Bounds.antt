-- Numbers that row 2 lets through: the bounds of their naturals. Assumes nothing.
use mathlib.Core.Path.{◌≡◌, refl}
use mathlib.Core.Bool.{Bool, true, false, not, ◌&&◌, false≢true}
use Prim.Native.Nat.{ℕ, ◌≤◌}
use lib.Dec.{leb}
use lib.IntN.{ℤ, pos, negsuc}
use borrow.Author.Tests.{leb-true, not-false}
use Rattle.numbers.specs.Naturals.{nat_of}
use Rattle.numbers.proofs.Bools.{both}
use Rattle.calendar.specs.Calendar.{within}

-- A number within two naturals is a natural within them.
pub within_bounds : (lo hi : ℕ) (z : ℤ) → within (pos lo) (pos hi) z ≡ true → (lo ≤ nat_of z) × (nat_of z ≤ hi)
within_bounds lo hi (pos n) e =
    let b : (leb lo n ≡ true) × (leb n hi ≡ true) = both (leb lo n) (leb n hi) e in
    (leb-true lo n b.0, leb-true n hi b.1)
within_bounds lo hi (negsuc n) e = absurd (false≢true e)

pub within_pos : (lo hi : ℕ) (z : ℤ) → within (pos lo) (pos hi) z ≡ true → z ≡ pos (nat_of z)
within_pos lo hi (pos n) e = refl
within_pos lo hi (negsuc n) e = absurd (false≢true e)

-- A row that refuses where two tests don't both hold: where it doesn't apply, both hold.
pub both_hold : (a b : Bool) → not (a && b) ≡ false → (a ≡ true) × (b ≡ true)
both_hold a b e = both a b (not-false (a && b) e)
