-- Tables of signed numbers as bytes, a word a number. Assumes nothing.
use Rattle.std.specs.Prelude.{ℕ, zero, suc, ◌+◌, ◌*◌, List, ℤ, pos, slice_index_or, slice_set}
use Rattle.words.specs.Words.{word_at, with_word}

-- t with its n numbers from place `to` on replaced by the n words of b from byte `at` on
unfoldable pub decoded_into : List ℤ → ℕ → List ℕ → ℕ → ℕ → List ℤ
decoded_into t to b at zero = t
decoded_into t to b at (suc n) = slice_set (decoded_into t to b at n) (to + n) (word_at b (at + 8 * n))

-- b with its n words from byte `at` on replaced by the n numbers of t from place `from` on
unfoldable pub encoded_into : List ℕ → ℕ → List ℤ → ℕ → ℕ → List ℕ
encoded_into b at t from zero = b
encoded_into b at t from (suc n) = with_word (encoded_into b at t from n) (at + 8 * n) (slice_index_or t (from + n) (pos 0))
