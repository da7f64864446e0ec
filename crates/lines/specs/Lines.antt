-- What each line of a journal does on the register's buffer, as bytes: the text that it prints and the buffer after it.
-- A line with another count of numbers, or with a number out of bounds, is no call, and does nothing.
use Rattle.std.specs.Prelude.{Bool, true, false, cond, ◌&&◌, List, [], ◌∷◌, ◌++◌, ◌≡◌, ℕ, ◌+◌, ◌*◌, ◌≤◌, eqb, leb, ltb, ℤ, pos, negsuc, length, take, drop, replicate}
use mathlib.Core.Option.{Option, none, some}
use Rattle.numbers.specs.Naturals.{nat_of, same_z}
use Rattle.numbers.specs.Search.{maybe}
use Rattle.words.specs.Words.{with_word, bits_of}
use Rattle.words.specs.Sums.{sums_of}
use Rattle.daybook.specs.Notices.{Numbers}
use Rattle.daybook.specs.FromNumbers.{num}
use Rattle.daybook.specs.Editions.{editions}
use Rattle.layout.specs.Layout.{table_length}
use Rattle.table.specs.Lookup.{look_up}
use Rattle.conversion.specs.Conversion.{convert_call}
use Rattle.buffers.specs.Buffers.{numbers_held, with_numbers, table_in, written}
use Rattle.journal.specs.declared.CallWord.{CallWord}
use Rattle.journal.specs.declared.Command.{Command}
use Rattle.journal.specs.declared.Command.TheVariants as Command·
use Rattle.printing.specs.Rows.{row_bytes, row_of, text_of, hex_of}
use Rattle.lending.specs.Lending.{bytes_of}
use Rattle.forms.specs.declared.Form.{Form}
use Rattle.forms.specs.Forms.{form_of, own_numbers, size_of}
use Rattle.calls.specs.Calls.{Left, called}

-- The register's buffer has the register's numbers and sixteen past them, 7,704 in all.
abbrev pub buffer_numbers : ℕ
buffer_numbers = 7704

abbrev pub buffer_bytes : ℕ
buffer_bytes = 8 * buffer_numbers

-- A line has at most so many numbers.
abbrev pub line_numbers : ℕ
line_numbers = 4096

-- And the answer table of an allocation so many.
abbrev pub most_room : ℕ
most_room = 64

-- The text that is printed, and the bytes after it.
abbrev pub LineResult : Type 0
LineResult = Option (List ℕ × List ℕ)

-- ---- a call on the bytes that are lent

-- A call's answer table has `room` numbers, if it is lent one.
abbrev pub table_room : Form → ℕ → ℕ
table_room f room = cond f.table room 0

-- A row of the answer and then the answer table.
abbrev pub acted : Left → List ℕ × List ℕ
acted l = (row_of (numbers_held l.answer ++ numbers_held l.table), l.register)

-- The numbers of the answer table are -7 before the call.
unfoldable pub call_line : CallWord → List ℕ → ℕ → List ℤ → LineResult
call_line call lent room xs =
    let f : Form = form_of call in
    let list : List ℕ = bytes_of (drop (own_numbers f) xs) in
    let answer : List ℕ = replicate (8 * f.gives) 0 in
    let table : List ℕ = bytes_of (replicate (table_room f room) (negsuc 6)) in
    let l : Left = called call xs list lent answer table in
    cond (eqb (length xs) (size_of f xs)) (some (acted l)) none

-- ---- lines of the journal's own

-- A line of n numbers.
abbrev pub taking : ℕ → List ℤ → List ℤ × List ℕ → LineResult
taking n xs o = cond (eqb (length xs) n) (some (row_of o.0, o.1)) none

-- The length of the part that the look-up hands back, and its sums.
unfoldable pub look_line : List ℕ → List ℤ → LineResult
look_line lent xs =
    let part : List ℤ = look_up editions (numbers_held lent) (num xs 0) in
    taking 1 xs (pos (length part) ∷ pos (sums_of (bits_of part)).0 ∷ pos (sums_of (bits_of part)).1 ∷ [], lent)

-- Sets one number of the register.
unfoldable pub poke_line : List ℕ → List ℤ → LineResult
poke_line b xs =
    let place : ℕ = nat_of (num xs 0) in
    cond (ltb place table_length) (taking 2 xs (pos 0 ∷ [], with_word b (8 * place) (num xs 1))) none

-- The sums of the register, and the second one of the numbers past it.
unfoldable pub table_line : List ℕ → List ℤ → LineResult
table_line b xs =
    let s : ℕ × ℕ = sums_of (bits_of (take table_length (numbers_held b))) in
    let past : ℕ × ℕ = sums_of (bits_of (drop table_length (numbers_held b))) in
    taking 0 xs (pos 0 ∷ pos s.0 ∷ pos s.1 ∷ pos past.1 ∷ [], b)

-- Whether a line says how many numbers a second table has.
abbrev pub convertible : List ℤ → Bool
convertible xs = eqb (length xs) 1 && leb (nat_of (num xs 0)) buffer_numbers

-- Where the result is 0 the journal goes on in the second table: its numbers are written over the register's, and those
-- past the register stay.
abbrev pub taken_over : ℤ → List ℕ → List ℕ → List ℕ
taken_over result second b = cond (same_z result (pos 0)) (with_numbers (table_in second) b) b

-- The register's lent bytes are converted into a second table, whose numbers are -5 before.
unfoldable pub convert_line : List ℕ → ℕ → List ℤ → LineResult
convert_line b lent xs =
    let second : List ℕ = bytes_of (replicate (nat_of (num xs 0)) (negsuc 4)) in
    let call : Numbers × List ℤ = convert_call editions (table_in (take (8 * lent) b)) (table_in second) in
    let w : ℤ × (List ℕ × List ℕ) = written call second (replicate 8 0) in
    cond (convertible xs) (some (row_of (w.0 ∷ []), taken_over w.0 w.1.0 b)) none

-- ---- any line but tlen, alen, trial, those on bytes and those on images

-- The outcome on the first bytes of a buffer is one on the buffer: the others stay.
abbrev pub on_lent : List ℕ → ℕ → LineResult → LineResult
on_lent b n o = maybe none (λ p. some (p.0, p.1 ++ drop n b)) o

-- Of the buffer b the first `lent` numbers are lent; an allocation's answer table has `room` numbers.
abbrev pub line_of : Command → List ℕ → ℕ → ℕ → List ℤ → LineResult
line_of (Command·.Call call) b lent room xs = on_lent b (8 * lent) (call_line call (take (8 * lent) b) room xs)
line_of Command·.Look b lent room xs = on_lent b (8 * lent) (look_line (take (8 * lent) b) xs)
line_of Command·.Table b lent room xs = table_line b xs
line_of Command·.Poke b lent room xs = poke_line b xs
line_of Command·.Lend b lent room xs = none
line_of Command·.Room b lent room xs = none
line_of Command·.Hub b lent room xs = none
line_of Command·.Unknown b lent room xs = none
line_of (Command·.Image w) b lent room xs = none
line_of Command·.Convert b lent room xs = convert_line b lent xs
line_of Command·.Trial b lent room xs = none

-- ---- a call on buffers whose lengths the line says

-- The first numbers of such a line are the lengths of the register's bytes, of the answer and of the answer table, if
-- there is one.
abbrev pub lengths : Form → ℕ
lengths f = cond f.table 3 2

abbrev pub size : List ℤ → ℕ → ℕ
size xs i = nat_of (num xs i)

-- A buffer other than the register's has at most so many bytes, each of them 0xAA (170) before the call.
abbrev pub most_bytes : ℕ
most_bytes = 300

abbrev pub buffer : ℕ → List ℕ
buffer n = replicate n 170

abbrev pub lendable : Form → List ℤ → Bool
lendable f xs =
    eqb (length xs) (lengths f + f.takes)
    && (leb (size xs 0) buffer_bytes && (leb (size xs 1) most_bytes && leb (table_room f (size xs 2)) most_bytes))

-- The result and the answer's bytes, and those of the answer table if there is one.
unfoldable pub shown : Form → ℤ → List ℕ → List ℕ → List ℕ
shown f result answer table =
    text_of result ++ (32 ∷ (hex_of answer ++ cond f.table (32 ∷ (hex_of table ++ (10 ∷ []))) (10 ∷ [])))

abbrev pub showed : Form → Left → List ℕ × List ℕ
showed f l = (shown f l.result l.answer l.table, l.register)

unfoldable pub hub_line : CallWord → List ℕ → List ℤ → LineResult
hub_line call b xs =
    let f : Form = form_of call in
    let n : ℕ = size xs 0 in
    let table : List ℕ = buffer (table_room f (size xs 2)) in
    let l : Left = called call (drop (lengths f) xs) [] (take n b) (buffer (size xs 1)) table in
    cond (lendable f xs) (on_lent b n (some (showed f l))) none

-- ---- what the code does

-- The outcome is in the buffer and behind what is printed, in the room of a row; and whether the line is a call.
pub record Played (o : LineResult) (b out b' out' : List ℕ) (is_call : Bool) : Type 0 where
  pub room : length out' ≤ length out + row_bytes
  pub left : b' ≡ maybe b (λ p. p.1) o
  pub text : out' ≡ out ++ maybe [] (λ p. p.0) o
  pub call : is_call ≡ maybe false (λ p. true) o
