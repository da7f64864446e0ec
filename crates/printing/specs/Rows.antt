-- Numbers, rows of numbers and buffers as text, lists of bytes.
use Rattle.std.specs.Prelude.{cond, List, [], ◌∷◌, ◌++◌, ℕ, zero, suc, ◌/◌, ◌%◌, ltb, ℤ, pos, negsuc}
use Rattle.io.specs.Digits.{hex_digit_ascii}

-- The room that is kept for a row.
abbrev pub row_bytes : ℕ
row_bytes = 12288

-- n in base ten, if f digits hold it.
unfoldable pub decimal_within : ℕ → ℕ → List ℕ
decimal_within zero n = []
decimal_within (suc f) n =
    let front : List ℕ = decimal_within f (n / 10) in
    cond (ltb n 10) (hex_digit_ascii n ∷ []) (front ++ (hex_digit_ascii (n % 10) ∷ []))

-- A number of 64 bits has at most twenty digits.
unfoldable pub decimal_of : ℕ → List ℕ
decimal_of n = decimal_within 20 n

unfoldable pub text_of : ℤ → List ℕ
text_of (pos n) = decimal_of n
text_of (negsuc n) = 45 ∷ decimal_of (suc n)

-- The byte after a number of a row, where xs follow it: a space, or the end of the line.
abbrev pub ending : List ℤ → ℕ
ending [] = 10
ending (x ∷ xs) = 32

unfoldable pub row_of : List ℤ → List ℕ
row_of [] = []
row_of (x ∷ xs) = text_of x ++ (ending xs ∷ row_of xs)

-- What is printed for a line that is no call: `? ` and its number.
unfoldable pub unknown_of : ℕ → List ℕ
unknown_of line = 63 ∷ 32 ∷ (decimal_of line ++ (10 ∷ []))

-- A byte is two digits in base sixteen.
unfoldable pub hex_digits : List ℕ → List ℕ
hex_digits [] = []
hex_digits (b ∷ bs) = hex_digit_ascii (b / 16) ∷ hex_digit_ascii (b % 16) ∷ hex_digits bs

-- A buffer's bytes; `-` (45) for an empty one.
abbrev pub hex_of : List ℕ → List ℕ
hex_of [] = 45 ∷ []
hex_of (b ∷ bs) = hex_digits (b ∷ bs)
