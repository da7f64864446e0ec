-- What each line of a journal on images does on the register's buffer and on the images', as bytes: the text that it
-- prints and the buffers after it. A line with another count of numbers, or with a number out of bounds, is no call,
-- and does nothing.
use Rattle.std.specs.Prelude.{Bool, true, false, cond, ◌&&◌, List, [], ◌∷◌, ◌++◌, ◌≡◌, ℕ, ◌+◌, ◌*◌, ◌≤◌, eqb, leb, ltb, ℤ, pos, length, take, drop, replicate, set}
use mathlib.Core.Option.{Option, none, some}
use Rattle.numbers.specs.Search.{maybe}
use Rattle.words.specs.Words.{word_at}
use Rattle.words.specs.Sums.{sums_of}
use Rattle.daybook.specs.Notices.{Numbers}
use Rattle.daybook.specs.FromNumbers.{num}
use Rattle.daybook.specs.Editions.{editions}
use Rattle.images.specs.Images.{save_call, restore_call}
use Rattle.buffers.specs.Buffers.{table_in, written_bytes, written, image_in}
use Rattle.journal.specs.declared.ImageWord.{ImageWord}
use Rattle.journal.specs.declared.ImageWord.TheVariants.{Save, Restore, Poke, Sums}
use Rattle.printing.specs.Rows.{row_bytes, row_of}
use Rattle.lines.specs.Lines.{LineResult, on_lent, size}

-- An image's buffer has sixteen bytes more than an image. There are five, one after the other.
abbrev pub image_bytes : ℕ
image_bytes = 63504

abbrev pub image_count : ℕ
image_count = 5

abbrev pub images_bytes : ℕ
images_bytes = image_count * image_bytes

-- Where buffer i begins.
abbrev pub image_at : ℕ → ℕ
image_at i = image_bytes * i

-- n bytes from place a on, and bytes u put there instead of n.
abbrev pub bytes_at : List ℕ → ℕ → ℕ → List ℕ
bytes_at images a n = take n (drop a images)

abbrev pub with_bytes_at : List ℕ → ℕ → ℕ → List ℕ → List ℕ
with_bytes_at images a n u = take a images ++ (u ++ drop (a + n) images)

-- ---- save and restore: of xs the state number, the buffer's number, and how many of its bytes are lent

abbrev pub lends_image : List ℤ → Bool
lends_image xs = eqb (length xs) 3 && (ltb (size xs 1) image_count && leb (size xs 2) image_bytes)

-- The bytes that are lent.
abbrev pub lent_image : List ℕ → List ℤ → List ℕ
lent_image images xs = bytes_at images (image_at (size xs 1)) (size xs 2)

-- The answer before the call, and what is printed of it after: a row of its number.
abbrev pub blank : List ℕ
blank = replicate 8 0

abbrev pub answered : List ℕ → List ℕ
answered answer = row_of (word_at answer 0 ∷ [])

-- The images' bytes after a save of the register's lent bytes.
unfoldable pub save_line : List ℕ → List ℕ → List ℤ → LineResult
save_line lent images xs =
    let image : List ℕ = lent_image images xs in
    let call : Numbers × List ℕ = save_call editions (table_in lent) (num xs 0) (image_in image blank) in
    let w : ℤ × (List ℕ × List ℕ) = written_bytes call image blank in
    cond (lends_image xs)
    (some (answered w.1.1, with_bytes_at images (image_at (size xs 1)) (size xs 2) w.1.0))
    none

-- The register's lent bytes after a restore.
unfoldable pub restore_line : List ℕ → List ℕ → List ℤ → LineResult
restore_line lent images xs =
    let image : List ℕ = lent_image images xs in
    let w : ℤ × (List ℕ × List ℕ) = written (restore_call editions (table_in lent) (num xs 0) (image_in image blank)) lent blank in
    cond (lends_image xs) (some (answered w.1.1, w.1.0)) none

-- ---- lines of the journal's own

-- Sets one byte of a buffer: of xs its number, the byte's place and the byte.
abbrev pub pokeable : List ℤ → Bool
pokeable xs =
    eqb (length xs) 3 && (ltb (size xs 0) image_count && (ltb (size xs 1) image_bytes && ltb (size xs 2) 256))

unfoldable pub imgpoke_line : List ℕ → List ℤ → LineResult
imgpoke_line images xs =
    cond (pokeable xs) (some (row_of (pos 0 ∷ []), set images (image_at (size xs 0) + size xs 1) (size xs 2))) none

-- The sums of all bytes of a buffer, each a word.
abbrev pub summable : List ℤ → Bool
summable xs = eqb (length xs) 1 && ltb (size xs 0) image_count

unfoldable pub sums_line : List ℕ → List ℤ → LineResult
sums_line images xs =
    let s : ℕ × ℕ = sums_of (bytes_at images (image_at (size xs 0)) image_bytes) in
    cond (summable xs) (some (row_of (pos 0 ∷ pos s.0 ∷ pos s.1 ∷ []), images)) none

-- ---- any of them

-- The text that is printed, and the bytes of the register's buffer and of the images' after it.
abbrev pub ImageResult : Type 0
ImageResult = Option (List ℕ × (List ℕ × List ℕ))

-- A line that leaves the register b as it was, and one that leaves the images.
abbrev pub on_images : List ℕ → LineResult → ImageResult
on_images b o = maybe none (λ p. some (p.0, (b, p.1))) o

abbrev pub on_register : List ℕ → LineResult → ImageResult
on_register images o = maybe none (λ p. some (p.0, (p.1, images))) o

-- Of the register's buffer b the first `lent` numbers are lent.
abbrev pub image_line : ImageWord → List ℕ → ℕ → List ℕ → List ℤ → ImageResult
image_line Save b lent images xs = on_images b (save_line (take (8 * lent) b) images xs)
image_line Restore b lent images xs =
    on_register images (on_lent b (8 * lent) (restore_line (take (8 * lent) b) images xs))
image_line Poke b lent images xs = on_images b (imgpoke_line images xs)
image_line Sums b lent images xs = on_images b (sums_line images xs)

-- ---- what the code does

-- The outcome is in both buffers, b and i, and behind what is printed, in the room of a row; and whether the line is a
-- call.
pub record ImagePlayed (o : ImageResult) (b i out b' i' out' : List ℕ) (is_call : Bool) : Type 0 where
  pub room : length out' ≤ length out + row_bytes
  pub register : b' ≡ maybe b (λ p. p.1.0) o
  pub images : i' ≡ maybe i (λ p. p.1.1) o
  pub text : out' ≡ out ++ maybe [] (λ p. p.0) o
  pub call : is_call ≡ maybe false (λ p. true) o
