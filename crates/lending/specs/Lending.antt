-- The buffers that a line of a journal lends to a call.
use Rattle.std.specs.Prelude.{List, ℕ, ◌*◌, ℤ, length, replicate}
use Rattle.buffers.specs.Buffers.{with_numbers}

-- The bytes of numbers.
abbrev pub bytes_of : List ℤ → List ℕ
bytes_of xs = with_numbers xs (replicate (8 * length xs) 0)

-- A row has the numbers of an answer, 18 at most, and those of a table, 512 at most.
abbrev pub answer_bytes : ℕ
answer_bytes = 8 * 18

abbrev pub table_bytes : ℕ
table_bytes = 8 * 512
