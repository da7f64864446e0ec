-- Named states (document 02, d): a number, the bytes of its image, and rows that are tested in an order of their own.
use Rattle.std.specs.Prelude.{Bool, not, ◌&&◌, cond, List, [], ◌∷◌, ℕ, leb, eqb, ℤ, pos}
use Rattle.calendar.specs.Calendar.{within}
use Rattle.daybook.specs.Notices.{Row}

-- A state number.
abbrev pub is_state : ℤ → Bool
is_state z = within (pos 1) (pos 4) z

-- The bytes of an image, 124 blocks of 512; of more that are lent, those past it are untouched.
abbrev pub image_length : ℕ
image_length = 63488

-- Row 2 of save and restore: the number n, and so many lent bytes of its image.
abbrev pub state_row : ℤ → ℕ → Row
state_row n lent = (2, not (is_state n && leb image_length lent))

-- The first row that applies, in the order given; 0 if none does.
unfoldable pub first_row : List Row → ℕ
first_row [] = 0
first_row (r ∷ rs) = cond r.1 r.0 (first_row rs)

-- x under the number n, and under every other number what was there.
abbrev pub under : {A : Type 0} → ℕ → A → (ℕ → A) → ℕ → A
under n x f k = cond (eqb k n) x (f k)
