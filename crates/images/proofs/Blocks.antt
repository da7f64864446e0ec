-- What writing a block leaves as it was. Assumes nothing.
use Rattle.std.proofs.Common.{◌≡◌, ℕ, zero, suc, ◌+◌, ◌*◌, ◌<◌, ◌≤◌, ◌⊎◌, List, length, get_or, drop, ℤ, refl, ◌∙◌, inl, inr, ⊎_elim, add-one, arith}
use Rattle.words.specs.Words.{with_number}
use Rattle.words.specs.Tables.{encoded_into}
use Rattle.words.proofs.Numbers.{length_number, byte_number, drop_number}
use Rattle.words.proofs.Tables.{length_encoded, byte_encoded, drop_encoded}
use Rattle.images.specs.Blocks.{block_at, state_place, number_place, check_place, block_numbers, check_of, with_block, with_blocks, with_image, block_count}

module _ (state : ℕ) (t : List ℤ) where
  pub length_block : (b : List ℕ) (k : ℕ) → length (with_block state t b k) ≡ length b
  unfolding with_block
  length_block b k =
      length_number _ (check_place k) 8 _ ∙ length_number _ (number_place k) 4 k ∙ length_number _ (state_place k) 4 state
      ∙ length_encoded b (block_at k) t (block_numbers * k) block_numbers

  pub length_blocks : (b : List ℕ) (k : ℕ) → length (with_blocks state t b k) ≡ length b
  unfolding with_blocks
  length_blocks b zero = refl
  length_blocks b (suc k) = length_block (with_blocks state t b k) k ∙ length_blocks b k

  -- bytes before and after the block
  pub byte_block : (b : List ℕ) (k i : ℕ) → (i < block_at k) ⊎ (block_at k + 512 ≤ i) → get_or (with_block state t b k) i 0 ≡ get_or b i 0
  unfolding with_block
  byte_block b k i h =
      byte_number _ (check_place k) 8 _ i (apart 504 8 (omega arith))
      ∙ byte_number _ (number_place k) 4 k i (apart 500 4 (omega arith))
      ∙ byte_number _ (state_place k) 4 state i (apart 496 4 (omega arith))
      ∙ byte_encoded b (block_at k) t (block_numbers * k) block_numbers i (⊎_elim (λ (l : i < block_at k). inl l) (λ (g : block_at k + 512 ≤ i). inr (omega arith)) h)
    where
      apart : (p w : ℕ) → p + w ≤ 512 → (i < block_at k + p) ⊎ (block_at k + p + w ≤ i)
      apart p w f = ⊎_elim (λ (l : i < block_at k). inl (omega arith)) (λ (g : block_at k + 512 ≤ i). inr (omega arith)) h

  pub drop_block : (b : List ℕ) (k m : ℕ) → block_at k + 512 ≤ m → drop m (with_block state t b k) ≡ drop m b
  unfolding with_block
  drop_block b k m h =
      drop_number _ (check_place k) 8 _ m (omega arith) ∙ drop_number _ (number_place k) 4 k m (omega arith)
      ∙ drop_number _ (state_place k) 4 state m (omega arith) ∙ drop_encoded b (block_at k) t (block_numbers * k) block_numbers m (omega arith)

  pub drop_blocks : (b : List ℕ) (k m : ℕ) → block_at k ≤ m → drop m (with_blocks state t b k) ≡ drop m b
  unfolding with_blocks
  drop_blocks b zero m h = refl
  drop_blocks b (suc k) m h = drop_block (with_blocks state t b k) k m (omega arith) ∙ drop_blocks b k m (omega arith)

  -- as it is written, step by step
  pub block_put : (b : List ℕ) (k : ℕ) (c₁ c₂ c₃ d : List ℕ) (sum : ℕ) → c₁ ≡ encoded_into b (block_at k) t (block_numbers * k) block_numbers
      → c₂ ≡ with_number c₁ (state_place k) 4 state → c₃ ≡ with_number c₂ (number_place k) 4 k → sum ≡ check_of c₃ k
      → d ≡ with_number c₃ (check_place k) 8 sum → d ≡ with_block state t b k
  unfolding with_block
  block_put b k c₁ c₂ c₃ d sum p q r s u = rw (u, s, r, q, p)

  -- one turn of the loop
  pub blocks_more : (b c d : List ℕ) (k : ℕ) → c ≡ with_blocks state t b k → d ≡ with_block state t c k → d ≡ with_blocks state t b (k + 1)
  unfolding with_blocks
  blocks_more b c d k p q = rw (q, p, add-one)

  pub length_image : (b : List ℕ) → length (with_image state t b) ≡ length b
  unfolding with_image
  length_image b = length_blocks b block_count
