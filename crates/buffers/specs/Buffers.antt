-- The calls on bytes, 8 a number, little endian. A buffer may be longer than its numbers; the bytes past them stay.
use Rattle.std.specs.Prelude.{cond, List, [], ℕ, ◌*◌, ◌/◌, leb, ℤ, pos, length, get_or, replicate}
use Rattle.numbers.specs.Naturals.{same_z}
use Rattle.words.specs.Tables.{decoded_into, encoded_into}
use Rattle.daybook.specs.Notices.{Numbers}
use Rattle.layout.specs.Layout.{table_length}

-- The first n numbers of b.
unfoldable pub numbers_in : List ℕ → ℕ → List ℤ
numbers_in b n = decoded_into (replicate n (pos 0)) 0 b 0 n

-- b with these numbers from its first byte on.
unfoldable pub with_numbers : List ℤ → List ℕ → List ℕ
with_numbers xs b = encoded_into b 0 xs 0 (length xs)

-- A register's table: none of its numbers, so that it gets 1, where its bytes are too few.
unfoldable pub table_in : List ℕ → List ℤ
table_in register = numbers_in register (cond (leb (8 * table_length) (length register)) table_length 0)

-- The whole numbers that bytes hold; bytes at the end that are none are not read.
abbrev pub numbers_held : List ℕ → List ℤ
numbers_held b = numbers_in b (length b / 8)

-- The result, and the answer's bytes. The result is the answer's refusal, its first number. Where the answer's buffer is
-- too short nothing is written, and the result is 1 where that is the refusal, else 2.
unfoldable pub replied : Numbers → List ℕ → ℤ × List ℕ
replied ns answer =
    let refusal : ℤ = get_or ns 0 (pos 0) in
    cond (leb (8 * length ns) (length answer)) (refusal, with_numbers ns answer)
    (cond (same_z refusal (pos 1)) (pos 1) (pos 2), answer)

-- The same of a call that also has bytes for a lent buffer. The buffer has them where the result is 0. The result, the
-- buffer's bytes, the answer's bytes.
abbrev pub written_bytes : Numbers × List ℕ → List ℕ → List ℕ → ℤ × (List ℕ × List ℕ)
written_bytes w buffer answer =
    let r : ℤ × List ℕ = replied w.0 answer in (r.0, (cond (same_z r.0 (pos 0)) w.1 buffer, r.1))

-- And of one that has numbers for a lent buffer, a register or an answer table.
unfoldable pub written : Numbers × List ℤ → List ℕ → List ℕ → ℤ × (List ℕ × List ℕ)
written w buffer answer = written_bytes (w.0, with_numbers w.1 buffer) buffer answer

-- The bytes of an image that a save or a restore is lent: none where its answer's buffer is too short. Then it gets 2,
-- or 1 by the register, whatever the image holds.
unfoldable pub image_in : List ℕ → List ℕ → List ℕ
image_in image answer = cond (leb 8 (length answer)) image []
