-- An image of a register (document 02, d): 124 blocks of 512 bytes, all numbers little endian.
use Rattle.std.specs.Prelude.{ℕ, zero, suc, ◌+◌, ◌*◌, Bool, ◌&&◌, List, [], ◌∷◌, replicate, ℤ, pos, ◌==◌, nat_eq}
use Rattle.numbers.specs.Rows.{all}
use Rattle.words.specs.Words.{number_at, with_number}
use Rattle.words.specs.Tables.{decoded_into, encoded_into}
use Rattle.words.specs.Sums.{sums_of}
use Rattle.layout.specs.Layout.{table_length}

abbrev pub block_count : ℕ
block_count = 124

-- A block holds so many of the register's numbers.
abbrev pub block_numbers : ℕ
block_numbers = 62

-- Where block k starts: its numbers, 8 bytes each; then the state number and the block number, 4 bytes each; then its
-- check, 8 bytes.
abbrev pub block_at : ℕ → ℕ
block_at k = 512 * k

abbrev pub state_place : ℕ → ℕ
state_place k = block_at k + 496

abbrev pub number_place : ℕ → ℕ
number_place k = block_at k + 500

abbrev pub check_place : ℕ → ℕ
check_place k = block_at k + 504

-- The n words of b from byte `at` on.
unfoldable pub words_from : List ℕ → ℕ → ℕ → List ℕ
words_from b at zero = []
words_from b at (suc n) = number_at b at 8 ∷ words_from b (at + 8) n

-- The check of block k: of its first 63 words a sum, and a sum of those sums, both modulo 2^64 and from 0; the check is
-- the second sum.
unfoldable pub check_of : List ℕ → ℕ → ℕ
check_of b k = (sums_of (words_from b (block_at k) 63)).1

-- ---- written

-- The image b with its block k written: numbers of t, the state number, the block number, the check of these.
unfoldable pub with_block : ℕ → List ℤ → List ℕ → ℕ → List ℕ
with_block state t b k =
    let numbered : List ℕ = encoded_into b (block_at k) t (block_numbers * k) block_numbers in
    let named : List ℕ = with_number (with_number numbered (state_place k) 4 state) (number_place k) 4 k in
    with_number named (check_place k) 8 (check_of named k)

-- With its first k blocks.
unfoldable pub with_blocks : ℕ → List ℤ → List ℕ → ℕ → List ℕ
with_blocks state t b zero = b
with_blocks state t b (suc k) = with_block state t (with_blocks state t b k) k

-- The bytes b with the image of t under a state number; those past it are kept.
unfoldable pub with_image : ℕ → List ℤ → List ℕ → List ℕ
with_image state t b = with_blocks state t b block_count

-- ---- read

-- Are the check and the block number of block k right?
unfoldable pub intact_at : List ℕ → ℕ → Bool
intact_at b k = number_at b (check_place k) 8 == check_of b k && number_at b (number_place k) 4 == k

unfoldable pub intact : List ℕ → Bool
intact b = all (intact_at b) block_count

-- Is every block of this state number?
unfoldable pub of_state : ℕ → List ℕ → Bool
of_state state b = all (λ k. nat_eq (number_at b (state_place k) 4) state) block_count

-- t with the numbers that the first k blocks hold.
unfoldable pub blocks_into : List ℤ → List ℕ → ℕ → List ℤ
blocks_into t b zero = t
blocks_into t b (suc k) = decoded_into (blocks_into t b k) (block_numbers * k) b (block_at k) block_numbers

-- The 7,688 numbers that the blocks hold.
unfoldable pub image_numbers : List ℕ → List ℤ
image_numbers b = blocks_into (replicate table_length (pos 0)) b block_count
