-- save and restore on a lent table and the lent bytes of an image.
use Rattle.std.specs.Prelude.{ℕ, not, List, [], ◌∷◌, ◌++◌, length, drop, ℤ, nat_lt}
use Rattle.numbers.specs.Naturals.{nat_of}
use Rattle.daybook.specs.Notices.{least, Numbers, decide}
use Rattle.daybook.specs.States.{state_row, first_row}
use Rattle.daybook.specs.Editions.{Editions}
use Rattle.layout.specs.Layout.{table_length, edition_in}
use Rattle.layout.specs.Sound.{sound}
use Rattle.images.specs.Blocks.{with_image, intact, of_state, image_numbers}

-- The answer, and the image's bytes after a save of the table t under the number n.
unfoldable pub save_call : Editions → List ℤ → ℤ → List ℕ → Numbers × List ℕ
save_call E t n image =
    let row : ℕ = least ((1, not (sound (edition_in E t) t)) ∷ state_row n (length image) ∷ []) in
    decide row 0 image ([], with_image (nat_of n) t image)

-- The rows of a restore, tested in this order: 1 comes again after 18, of the register that the image holds.
unfoldable pub restore_row : Editions → List ℤ → ℤ → List ℕ → ℕ
restore_row E t n image =
    let held : List ℤ = image_numbers image in
    first_row
    ((1, nat_lt (length t) table_length)
    ∷ state_row n (length image)
    ∷ (17, not (intact image))
    ∷ (18, not (of_state (nat_of n) image))
    ∷ (1, not (sound (edition_in E held) held))
    ∷ [])

-- The answer, and the table after a restore, which like fresh takes an unsound one: the register whose numbers the
-- image's blocks hold; the numbers past it are kept.
unfoldable pub restore_call : Editions → List ℤ → ℤ → List ℕ → Numbers × List ℤ
restore_call E t n image = decide (restore_row E t n image) 0 t ([], image_numbers image ++ drop table_length t)
