-- What the line `trial` of a journal does on the register's buffer, as bytes: the text that it prints. The buffer stays
-- as it is. A line with too few numbers or too many, or with too long answers, is no call, and does nothing.
use Rattle.std.specs.Prelude.{Bool, cond, ◌&&◌, List, ◌++◌, ℕ, ◌*◌, ◌/◌, leb, ℤ, negsuc, length, take, drop, replicate}
use mathlib.Core.Option.{none, some}
use Rattle.daybook.specs.Notices.{Numbers}
use Rattle.daybook.specs.FromNumbers.{num}
use Rattle.daybook.specs.Editions.{editions}
use Rattle.trial.specs.Trial.{trial_call}
use Rattle.buffers.specs.Buffers.{table_in, numbers_held, written}
use Rattle.printing.specs.Rows.{row_of}
use Rattle.lending.specs.Lending.{bytes_of}
use Rattle.lines.specs.Lines.{LineResult, size}

-- Of xs the count of notices, how many numbers the answers have, and the notices' numbers. A line has at most so many
-- numbers in all, and the answers so many.
abbrev pub most_numbers : ℕ
most_numbers = 608

abbrev pub most_room : ℕ
most_room = 512

abbrev pub tryable : List ℤ → Bool
tryable xs = leb 2 (length xs) && (leb (length xs) most_numbers && leb (size xs 1) most_room)

-- The call's own answer before the call.
abbrev pub blank : List ℕ
blank = replicate 24 0

-- A row of the answer and then the answers, whose numbers are -7 before the call. Of the buffer b the first `lent`
-- numbers are lent, and only read.
unfoldable pub trial_line : List ℕ → ℕ → List ℤ → LineResult
trial_line b lent xs =
    let notices : List ℕ = bytes_of (drop 2 xs) in
    let answers : List ℕ = bytes_of (replicate (size xs 1) (negsuc 6)) in
    let call : Numbers × List ℤ =
    trial_call editions (table_in (take (8 * lent) b)) (num xs 0) (numbers_held notices) (length answers / 8) in
    let w : ℤ × (List ℕ × List ℕ) = written call answers blank in
    cond (tryable xs) (some (row_of (numbers_held w.1.1 ++ numbers_held w.1.0), b)) none
