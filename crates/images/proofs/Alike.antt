-- What is read of a block depends on its 512 bytes alone, and what is read of an image on its own bytes. Assumes nothing.
use Rattle.std.proofs.Common.{◌≡◌, ℕ, zero, suc, ◌+◌, ◌*◌, ◌<◌, ◌≤◌, ◌&&◌, eqb, List, ◌∷◌, get_or, take, set, replicate, ℤ, pos, sym, refl, ap, ◌∙◌, ap₂, add_assoc, arith, get_or-take}
use Rattle.numbers.proofs.Rows.{all_same}
use Rattle.words.specs.Words.{number_at}
use Rattle.words.specs.Tables.{decoded_into}
use Rattle.words.specs.Sums.{sums_of}
use Rattle.words.proofs.Numbers.{number_alike}
use Rattle.words.proofs.Words.{word_alike}
use Rattle.daybook.specs.States.{image_length}
use Rattle.layout.specs.Layout.{table_length}
use Rattle.images.specs.Blocks.{block_at, block_numbers, block_count, state_place, words_from, check_of, intact_at, intact, blocks_into, image_numbers}

-- The same bytes, n from `at` on.
abbrev pub Same : List ℕ → List ℕ → ℕ → ℕ → Type 0
Same b₁ b₂ at n = (i : ℕ) → i < n → get_or b₁ (at + i) 0 ≡ get_or b₂ (at + i) 0

-- in a part of them
part_same : (b₁ b₂ : List ℕ) (at n j v : ℕ) → j + v ≤ n → Same b₁ b₂ at n → Same b₁ b₂ (at + j) v
part_same b₁ b₂ at n j v h s i l = rw (add_assoc at j i) (s (j + i) (omega arith))

pub number_in : (b₁ b₂ : List ℕ) (at n j v : ℕ) → j + v ≤ n → Same b₁ b₂ at n → number_at b₁ (at + j) v ≡ number_at b₂ (at + j) v
number_in b₁ b₂ at n j v h s = number_alike b₁ b₂ (at + j) (at + j) v (part_same b₁ b₂ at n j v h s)

-- ---- the check

words_alike : (b₁ b₂ : List ℕ) (at n : ℕ) → Same b₁ b₂ at (8 * n) → words_from b₁ at n ≡ words_from b₂ at n
unfolding words_from
words_alike b₁ b₂ at zero s = refl
words_alike b₁ b₂ at (suc n) s =
    ap₂ ◌∷◌ (number_alike b₁ b₂ at at 8 (λ i l. s i (omega arith)))
    (words_alike b₁ b₂ (at + 8) n (part_same b₁ b₂ at (8 * suc n) 8 (8 * n) (omega arith) s))

pub check_alike : (b₁ b₂ : List ℕ) (k : ℕ) → Same b₁ b₂ (block_at k) 504 → check_of b₁ k ≡ check_of b₂ k
unfolding check_of
check_alike b₁ b₂ k s = ap (λ ws. (sums_of ws).1) (words_alike b₁ b₂ (block_at k) 63 s)

-- ---- a block

module _ (b₁ b₂ : List ℕ) (k : ℕ) (s : Same b₁ b₂ (block_at k) 512) where
  pub intact_alike : intact_at b₁ k ≡ intact_at b₂ k
  unfolding intact_at
  intact_alike =
      ap₂ ◌&&◌
      (ap₂ eqb (number_in b₁ b₂ (block_at k) 512 504 8 (omega arith) s) (check_alike b₁ b₂ k (λ i l. s i (omega arith))))
      (ap (λ x. eqb x k) (number_in b₁ b₂ (block_at k) 512 500 4 (omega arith) s))

  pub state_alike : number_at b₁ (state_place k) 4 ≡ number_at b₂ (state_place k) 4
  state_alike = number_in b₁ b₂ (block_at k) 512 496 4 (omega arith) s

decoded_same : (t : List ℤ) (to : ℕ) (b₁ b₂ : List ℕ) (at n : ℕ) → Same b₁ b₂ at (8 * n) → decoded_into t to b₁ at n ≡ decoded_into t to b₂ at n
unfolding decoded_into
decoded_same t to b₁ b₂ at zero s = refl
decoded_same t to b₁ b₂ at (suc n) s =
    ap₂ (λ (u : List ℤ) (x : ℤ). set u (to + n) x)
    (decoded_same t to b₁ b₂ at n (λ i l. s i (omega arith)))
    (word_alike b₁ b₂ (at + 8 * n) (at + 8 * n) (part_same b₁ b₂ at (8 * suc n) (8 * n) 8 (omega arith) s))

pub blocks_alike : (t : List ℤ) (b₁ b₂ : List ℕ) (n : ℕ) → ((k : ℕ) → k < n → Same b₁ b₂ (block_at k) 512) → blocks_into t b₁ n ≡ blocks_into t b₂ n
unfolding blocks_into
blocks_alike t b₁ b₂ zero s = refl
blocks_alike t b₁ b₂ (suc n) s =
    ap (λ u. decoded_into u (block_numbers * n) b₁ (block_at n) block_numbers) (blocks_alike t b₁ b₂ n (λ k l. s k (omega arith)))
    ∙ decoded_same (blocks_into t b₂ n) (block_numbers * n) b₁ b₂ (block_at n) block_numbers (λ i l. s n (omega arith) i (omega arith))

-- ---- an image

module _ (b₁ b₂ : List ℕ) (e : take image_length b₁ ≡ take image_length b₂) where
  pub block_same : (k : ℕ) → k < block_count → Same b₁ b₂ (block_at k) 512
  block_same k h i l =
      sym (get_or-take image_length b₁ (block_at k + i) 0 (omega arith)) ∙ ap (λ c. get_or c (block_at k + i) 0) e
      ∙ get_or-take image_length b₂ (block_at k + i) 0 (omega arith)

  pub image_intact : intact b₁ ≡ intact b₂
  unfolding intact
  image_intact = all_same (intact_at b₁) (intact_at b₂) block_count (λ k l. intact_alike b₁ b₂ k (block_same k l))

  pub image_numbers_lem : image_numbers b₁ ≡ image_numbers b₂
  unfolding image_numbers
  image_numbers_lem = blocks_alike (replicate table_length (pos 0)) b₁ b₂ block_count block_same
