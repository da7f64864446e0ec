-- What save and restore promise, for any table, numbers and bytes (document 02, d).
use Rattle.std.specs.Prelude.{◌≡◌, ℕ, ◌+◌, ◌*◌, ◌/◌, ◌%◌, ◌<◌, ◌≤◌, true, List, [], ◌∷◌, ◌++◌, length, take, drop, replicate, ℤ, pos, slice_index_or}
use Rattle.words.specs.Words.{word_at}
use Rattle.daybook.specs.States.{is_state, image_length}
use Rattle.daybook.specs.Editions.{Editions}
use Rattle.layout.specs.Layout.{table_length, edition_in, table_book}
use Rattle.layout.specs.Sound.{sound}
use Rattle.images.specs.Blocks.{block_at, image_numbers}
use Rattle.images.specs.Images.{save_call, restore_call}

-- The table t holds the register of an image: its number j is number j % 62 of block j / 62. It is sound, and its day
-- book is theirs.
pub record Restored (E : Editions) (t : List ℤ) (image : List ℕ) : Type 0 where
  pub number : (j : ℕ) → j < table_length → slice_index_or t j (pos 0) ≡ word_at image (block_at (j / 62) + 8 * (j % 62))
  pub is_sound : sound (edition_in E t) t ≡ true
  pub book : table_book (edition_in E t) t ≡ table_book (edition_in E (image_numbers image)) (image_numbers image)

-- Where the two editions are E.
pub record NamedStates (E : Editions) : Type 0 where
  -- What a save writes, a restore of the same number gives back, number for number, in any table that is long enough.
  pub gives_back :
      (t t' : List ℤ) (n : ℤ) (image : List ℕ) → (save_call E t n image).0 ≡ pos 0 ∷ [] → table_length ≤ length t'
      → restore_call E t' n (save_call E t n image).1 ≡ (pos 0 ∷ [], take table_length t ++ drop table_length t')
  -- A restore of another number gets 18.
  pub another_number :
      (t t' : List ℤ) (n m : ℤ) (image : List ℕ) → (save_call E t n image).0 ≡ pos 0 ∷ [] → table_length ≤ length t'
      → is_state m ≡ true → ¬ (m ≡ n) → restore_call E t' m (save_call E t n image).1 ≡ (pos 18 ∷ [], t')
  -- Zero bytes get 17.
  pub zero_bytes :
      (t : List ℤ) (n : ℤ) (lent : ℕ) → table_length ≤ length t → is_state n ≡ true → image_length ≤ lent
      → restore_call E t n (replicate lent 0) ≡ (pos 17 ∷ [], t)
  -- An accepted restore gives the register whose numbers the image's blocks hold, and its day book.
  pub accepted :
      (t : List ℤ) (n : ℤ) (image : List ℕ) → (restore_call E t n image).0 ≡ pos 0 ∷ []
      → Restored E (restore_call E t n image).1 image
