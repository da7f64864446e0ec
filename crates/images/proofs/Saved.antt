-- What a save writes is read back, block by block. Assumes nothing.
use Rattle.std.proofs.Common.{◌≡◌, ℕ, zero, suc, ◌+◌, ◌-◌, ◌*◌, ◌/◌, ◌%◌, ◌<◌, ◌≤◌, Bool, true, false, leb, ◌⊎◌, List, ◌++◌, length, get_or, take, drop, replicate, ℤ, pos, sym, refl, ap, ◌∙◌, subst, inl, inr, ⊎_elim, add_assoc, eq-or-lt_of_le, add-one, arith, length-append, length-drop, length-take-le, get_or-drop, get_or-take, get_or-append-add, ext_get_or, w64, SFits, eq-eqb, leb-false, leb-true}
use lib.ListN.{length-replicate, get_or-append}
use Rattle.numbers.proofs.Rows.{all_of}
use Rattle.numbers.proofs.Bools.{join}
use Rattle.words.specs.Words.{number_at, with_number, word_at}
use Rattle.words.specs.Tables.{encoded_into, decoded_into}
use Rattle.words.proofs.Numbers.{length_number, byte_number, number_apart, number_back}
use Rattle.words.proofs.Words.{word_alike}
use Rattle.words.proofs.Tables.{length_encoded, length_decoded, decoded_at, decoded_apart, encoded_at}
use Rattle.daybook.specs.States.{image_length}
use Rattle.layout.specs.Layout.{table_length}
use Rattle.images.specs.Blocks.{block_at, block_numbers, block_count, state_place, number_place, check_place, check_of, with_block, with_blocks, with_image, intact_at, intact, blocks_into, image_numbers}
use Rattle.images.proofs.Sums.{check_small}
use Rattle.images.proofs.Blocks.{length_blocks, byte_block}
use Rattle.images.proofs.Alike.{Same, check_alike, intact_alike, state_alike}

-- ---- a block just written

module _ (state : ℕ) (t : List ℤ) (b : List ℕ) (k : ℕ) (h : block_at k + 512 ≤ length b) where
  abbrev numbered : List ℕ
  numbered = encoded_into b (block_at k) t (block_numbers * k) block_numbers

  abbrev stated : List ℕ
  stated = with_number numbered (state_place k) 4 state

  abbrev named : List ℕ
  named = with_number stated (number_place k) 4 k

  length_numbered : length numbered ≡ length b
  length_numbered = length_encoded b (block_at k) t (block_numbers * k) block_numbers

  length_stated : length stated ≡ length b
  length_stated = length_number numbered (state_place k) 4 state ∙ length_numbered

  length_named : length named ≡ length b
  length_named = length_number stated (number_place k) 4 k ∙ length_stated

  check_back : number_at (with_block state t b k) (check_place k) 8 ≡ check_of (with_block state t b k) k
  unfolding with_block
  check_back =
      number_back named (check_place k) 8 (check_of named k) (omega (arith, length_named)) (check_small named k)
      ∙ sym (check_alike _ named k (λ i l. byte_number named (check_place k) 8 (check_of named k) (block_at k + i) (inl (omega arith))))

  block_back : k < block_count → number_at (with_block state t b k) (number_place k) 4 ≡ k
  unfolding with_block
  block_back l =
      number_apart named (check_place k) 8 (check_of named k) (number_place k) 4 (inl (omega arith))
      ∙ number_back stated (number_place k) 4 k (omega (arith, length_stated)) (omega arith)

  state_back : state ≤ 4 → number_at (with_block state t b k) (state_place k) 4 ≡ state
  unfolding with_block
  state_back l =
      number_apart named (check_place k) 8 (check_of named k) (state_place k) 4 (inl (omega arith))
      ∙ number_apart stated (number_place k) 4 k (state_place k) 4 (inl (omega arith))
      ∙ number_back numbered (state_place k) 4 state (omega (arith, length_numbered)) (omega arith)

  word_back : (i : ℕ) → i < block_numbers → SFits w64 (get_or t (block_numbers * k + i) (pos 0))
      → word_at (with_block state t b k) (block_at k + 8 * i) ≡ get_or t (block_numbers * k + i) (pos 0)
  unfolding with_block
  word_back i l f =
      word_alike _ numbered (block_at k + 8 * i) (block_at k + 8 * i) (λ j m.
      byte_number named (check_place k) 8 (check_of named k) (block_at k + 8 * i + j) (inl (omega arith))
      ∙ byte_number stated (number_place k) 4 k (block_at k + 8 * i + j) (inl (omega arith))
      ∙ byte_number numbered (state_place k) 4 state (block_at k + 8 * i + j) (inl (omega arith)))
      ∙ encoded_at b (block_at k) t (block_numbers * k) block_numbers i (omega arith) l f

  pub written_intact : k < block_count → intact_at (with_block state t b k) k ≡ true
  unfolding intact_at
  written_intact l = join (eq-eqb _ _ check_back) (eq-eqb _ _ (block_back l))

-- ---- an image just written

module _ (state : ℕ) (t : List ℤ) (b : List ℕ) (h : image_length ≤ length b) where
  -- as written
  block_is : (k : ℕ) → with_blocks state t b (suc k) ≡ with_block state t (with_blocks state t b k) k
  unfolding with_blocks
  block_is k = refl

  -- a block stays as it was written
  block_stays : (n k : ℕ) → k < n → Same (with_blocks state t b n) (with_blocks state t b (suc k)) (block_at k) 512
  block_stays zero k l i m = absurd (omega arith)
  block_stays (suc n) k l i m =
      let last : (k ≡ n) ⊎ (k < n) = eq-or-lt_of_le (omega arith) in
      ⊎_elim
      (λ (e : k ≡ n). ap (λ j. get_or (with_blocks state t b (suc j)) (block_at k + i) 0) (sym e))
      (λ (y : k < n). later n i (omega arith) ∙ block_stays n k y i m)
      last
    where
      later : (n i : ℕ) → block_at k + i < block_at n → get_or (with_blocks state t b (suc n)) (block_at k + i) 0 ≡ get_or (with_blocks state t b n) (block_at k + i) 0
      later n i g = ap (λ c. get_or c (block_at k + i) 0) (block_is n) ∙ byte_block state t (with_blocks state t b n) n (block_at k + i) (inl g)

  stays : (k : ℕ) → k < block_count → Same (with_image state t b) (with_block state t (with_blocks state t b k) k) (block_at k) 512
  unfolding with_image
  stays k l = subst (λ c. Same (with_blocks state t b block_count) c (block_at k) 512) (block_is k) (block_stays block_count k l)

  long : (k : ℕ) → k < block_count → block_at k + 512 ≤ length (with_blocks state t b k)
  long k l = omega (arith, length_blocks state t b k)

  pub saved_intact : intact (with_image state t b) ≡ true
  unfolding intact
  saved_intact =
      all_of (intact_at (with_image state t b)) block_count (λ k l.
      intact_alike (with_image state t b) _ k (stays k l) ∙ written_intact state t (with_blocks state t b k) k (long k l) l)

  pub saved_state_at : state ≤ 4 → (k : ℕ) → k < block_count → number_at (with_image state t b) (state_place k) 4 ≡ state
  saved_state_at s k l =
      state_alike (with_image state t b) _ k (stays k l)
      ∙ state_back state t (with_blocks state t b k) k (long k l) s

  pub saved_word : (k i : ℕ) → k < block_count → i < block_numbers → SFits w64 (get_or t (block_numbers * k + i) (pos 0))
      → word_at (with_image state t b) (block_at k + 8 * i) ≡ get_or t (block_numbers * k + i) (pos 0)
  saved_word k i l m f =
      word_alike (with_image state t b) _ (block_at k + 8 * i) (block_at k + 8 * i)
      (λ j y. rw (add_assoc (block_at k) (8 * i) j) (stays k l (8 * i + j) (omega arith)))
      ∙ word_back state t (with_blocks state t b k) k (long k l) i m f

-- ---- the numbers that the blocks hold

length_into : (t : List ℤ) (b : List ℕ) (n : ℕ) → length (blocks_into t b n) ≡ length t
unfolding blocks_into
length_into t b zero = refl
length_into t b (suc n) = length_decoded (blocks_into t b n) (block_numbers * n) b (block_at n) block_numbers ∙ length_into t b n

-- one turn of the loop that takes them
pub blocks_taken : (t : List ℤ) (b : List ℕ) (u v : List ℤ) (k : ℕ) → u ≡ blocks_into t b k
    → v ≡ decoded_into u (block_numbers * k) b (block_at k) block_numbers → v ≡ blocks_into t b (k + 1)
unfolding blocks_into
blocks_taken t b u v k p q = rw (q, p, add-one)

into_at : (t : List ℤ) (b : List ℕ) (n k i : ℕ) → block_numbers * n ≤ length t → k < n → i < block_numbers
    → get_or (blocks_into t b n) (block_numbers * k + i) (pos 0) ≡ word_at b (block_at k + 8 * i)
unfolding blocks_into
into_at t b zero k i h l m = absurd (omega arith)
into_at t b (suc n) k i h l m =
    let last : (k ≡ n) ⊎ (k < n) = eq-or-lt_of_le (omega arith) in
    ⊎_elim
    (λ (e : k ≡ n). rw e (decoded_at (blocks_into t b n) (block_numbers * n) b (block_at n) block_numbers i (pos 0) (omega (arith, length_into t b n)) m))
    (λ (y : k < n).
    decoded_apart (blocks_into t b n) (block_numbers * n) b (block_at n) block_numbers (block_numbers * k + i) (pos 0) (inl (omega arith))
    ∙ into_at t b n k i (omega arith) y m)
    last

pub length_numbers : (b : List ℕ) → length (image_numbers b) ≡ table_length
unfolding image_numbers
length_numbers b = length_into (replicate table_length (pos 0)) b block_count ∙ length-replicate table_length (pos 0)

-- number j of the register stands in block j / 62
pub number_held : (b : List ℕ) (j : ℕ) → j < table_length → get_or (image_numbers b) j (pos 0) ≡ word_at b (block_at (j / 62) + 8 * (j % 62))
unfolding image_numbers
number_held b j l =
    let e : 62 * (j / 62) + j % 62 ≡ j = omega arith in
    rw e at (into_at (replicate table_length (pos 0)) b block_count (j / 62) (j % 62) (omega (arith, length-replicate table_length (pos 0))) (omega arith) (omega arith))

-- whatever the table held before, and the numbers past them stay
into_apart : (t : List ℤ) (b : List ℕ) (n j : ℕ) → block_numbers * n ≤ j → get_or (blocks_into t b n) j (pos 0) ≡ get_or t j (pos 0)
unfolding blocks_into
into_apart t b zero j h = refl
into_apart t b (suc n) j h =
    decoded_apart (blocks_into t b n) (block_numbers * n) b (block_at n) block_numbers j (pos 0) (inr (omega arith))
    ∙ into_apart t b n j (omega arith)

pub blocks_whole : (t : List ℤ) (b : List ℕ) → table_length ≤ length t → blocks_into t b block_count ≡ image_numbers b ++ drop table_length t
blocks_whole t b h = ext_get_or (pos 0) u v (long_u ∙ sym long_v) (λ j l. go j (omega (arith, long_u)) (leb table_length j) refl)
  where
    u : List ℤ
    u = blocks_into t b block_count

    v : List ℤ
    v = image_numbers b ++ drop table_length t

    long_u : length u ≡ length t
    long_u = length_into t b block_count

    long_v : length v ≡ length t
    long_v = omega (arith, length-append (image_numbers b) (drop table_length t), length_numbers b, length-drop table_length t)

    go : (j : ℕ) → j < length t → (x : Bool) → leb table_length j ≡ x → get_or u j (pos 0) ≡ get_or v j (pos 0)
    go j l true e =
        let p : length (image_numbers b) + (j - table_length) ≡ j = omega (arith, length_numbers b, leb-true table_length j e) in
        let q : table_length + (j - table_length) ≡ j = omega (arith, leb-true table_length j e) in
        into_apart t b block_count j (leb-true table_length j e)
        ∙ ap (λ k. get_or t k (pos 0)) (sym q) ∙ sym (get_or-drop table_length t (j - table_length) (pos 0))
        ∙ sym (get_or-append-add (image_numbers b) (drop table_length t) (j - table_length) (pos 0)) ∙ ap (λ k. get_or v k (pos 0)) p
    go j l false e =
        let small : j < table_length = leb-false table_length j e in
        let p : 62 * (j / 62) + j % 62 ≡ j = omega arith in
        ap (λ k. get_or u k (pos 0)) (sym p) ∙ into_at t b block_count (j / 62) (j % 62) h (omega arith) (omega arith)
        ∙ sym (number_held b j small) ∙ sym (get_or-append (image_numbers b) (drop table_length t) (pos 0) j (omega (arith, length_numbers b)))

pub saved_numbers : (state : ℕ) (t : List ℤ) (b : List ℕ) → image_length ≤ length b → table_length ≤ length t
    → ((j : ℕ) → j < table_length → SFits w64 (get_or t j (pos 0))) → image_numbers (with_image state t b) ≡ take table_length t
saved_numbers state t b h long fits =
    ext_get_or (pos 0) (image_numbers (with_image state t b)) (take table_length t)
    (length_numbers _ ∙ sym (length-take-le table_length t long))
    (λ j l. at j (omega (arith, length_numbers (with_image state t b))))
  where
    at : (j : ℕ) → j < table_length → get_or (image_numbers (with_image state t b)) j (pos 0) ≡ get_or (take table_length t) j (pos 0)
    at j l =
        let e : 62 * (j / 62) + j % 62 ≡ j = omega arith in
        number_held (with_image state t b) j l
        ∙ saved_word state t b h (j / 62) (j % 62) (omega arith) (omega arith) (rw e (fits j l))
        ∙ ap (λ k. get_or t k (pos 0)) e ∙ sym (get_or-take table_length t j (pos 0) l)
