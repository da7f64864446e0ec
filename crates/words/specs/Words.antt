-- Numbers as bytes, little-endian. Assumes nothing.
use Rattle.std.specs.Prelude.{ℕ, zero, suc, ◌+◌, ◌*◌, ◌/◌, ◌%◌, List, map, ℤ, slice_index, slice_set}
use Rattle.std.specs.Int.{w64}
use mir.Val.{to_z, of_z}

-- the number that w bytes of b from `at` on spell, lowest first
unfoldable pub number_at : List ℕ → ℕ → ℕ → ℕ
number_at b at zero = 0
number_at b at (suc w) = slice_index b at + 256 * number_at b (at + 1) w

-- b with the w lowest bytes of n from `at` on, lowest first
unfoldable pub with_number : List ℕ → ℕ → ℕ → ℕ → List ℕ
with_number b at zero n = b
with_number b at (suc w) n = with_number (slice_set b at (n % 256)) (at + 1) w (n / 256)

-- eight bytes as a signed number, in two's complement
unfoldable pub word_at : List ℕ → ℕ → ℤ
word_at b at = to_z w64 (number_at b at 8)

-- b with the eight bytes of x from `at` on
unfoldable pub with_word : List ℕ → ℕ → ℤ → List ℕ
with_word b at x = with_number b at 8 (of_z w64 x)

-- the 64 bits of each number, in two's complement
abbrev pub bits_of : List ℤ → List ℕ
bits_of xs = map (of_z w64) xs
