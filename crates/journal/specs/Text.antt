-- The numbers and the words of a line, as lists of bytes.
use Rattle.std.specs.Prelude.{Bool, cond, ◌&&◌, List, [], ◌∷◌, ℕ, ◌+◌, ◌*◌, ◌-◌, ◌^◌, eqb, leb, ltb, ℤ, pos, take}
use mathlib.Core.Option.{Option, none, some}
use lib.IntN.{sub_ℕ}
use Rattle.numbers.specs.Search.{maybe}
use Rattle.std.specs.Prelude as Std·

-- ---- a number

abbrev pub is_digit : ℕ → Bool
is_digit b = leb 48 b && leb b 57

-- n with the digits of a list written behind it; none if a byte is no digit.
unfoldable pub digits_after : ℕ → List ℕ → Option ℕ
digits_after n [] = some n
digits_after n (b ∷ s) = let m : Option ℕ = digits_after (10 * n + (b - 48)) s in cond (is_digit b) m none

-- One or more digits.
unfoldable pub value_of_digits : List ℕ → Option ℕ
value_of_digits [] = none
value_of_digits (b ∷ s) = digits_after 0 (b ∷ s)

abbrev pub non_negative : ℕ → Option ℤ
non_negative m = cond (ltb m (2 ^ 63)) (some (pos m)) none

abbrev pub negative : ℕ → Option ℤ
negative m = cond (leb m (2 ^ 63)) (some (sub_ℕ 0 m)) none

-- The number that a word stands for, from -2^63 to 2^63 - 1: digits, after a minus sign (45) if it is negative.
unfoldable pub number_of : List ℕ → Option ℤ
number_of [] = none
number_of (b ∷ s) =
    cond (eqb b 45) (maybe none negative (value_of_digits s)) (maybe none non_negative (value_of_digits (b ∷ s)))

-- ---- words

-- The words of b ∷ s, where ws are those of s and b is no space (32): b begins a word if a space or the end follows it.
abbrev pub begun : ℕ → List ℕ → List (List ℕ) → List (List ℕ)
begun b [] ws = (b ∷ []) ∷ ws
begun b (a ∷ s) [] = (b ∷ []) ∷ []
begun b (a ∷ s) (w ∷ ws) = cond (eqb a 32) ((b ∷ []) ∷ w ∷ ws) ((b ∷ w) ∷ ws)

-- The words of a line, the longest runs of bytes that are no spaces.
unfoldable pub words_of : List ℕ → List (List ℕ)
words_of [] = []
words_of (b ∷ s) = cond (eqb b 32) (words_of s) (begun b s (words_of s))

-- The numbers that words stand for; none if one of them is no number.
unfoldable pub numbers_of : List (List ℕ) → Option (List ℤ)
numbers_of [] = some []
numbers_of (w ∷ ws) = maybe none (λ x. maybe none (λ xs. some (x ∷ xs)) (numbers_of ws)) (number_of w)

-- ---- what the code answers

abbrev pub value_of : Std·.Option ℤ → Option ℤ
value_of (Std·.Some x) = some x
value_of Std·.None = none

-- The numbers read into a table.
abbrev pub read_into : Std·.Option ℕ → List ℤ → Option (List ℤ)
read_into (Std·.Some n) t = some (take n t)
read_into Std·.None t = none

abbrev pub taken_count : Std·.Option ℕ → ℕ
taken_count (Std·.Some n) = n
taken_count Std·.None = 0
