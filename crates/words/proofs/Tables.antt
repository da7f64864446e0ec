-- Tables as bytes, number by number: what stays, and what stands at each place. Assumes nothing.
use Rattle.std.proofs.Common.{◌≡◌, ℕ, zero, suc, ◌+◌, ◌*◌, ◌<◌, ◌≤◌, ◌⊎◌, List, length, get_or, take, drop, set, ℤ, pos, refl, ap, ◌∙◌, inl, inr, ⊎_elim, eq-or-lt_of_le, add-one, arith, length-set, get_or-set_other, get_or-set_same, drop-set-lt, w64, SFits, to_z}
use lib.Seq.{take-set-le}
use Rattle.words.specs.Words.{number_at, word_at, with_word}
use Rattle.words.specs.Tables.{decoded_into, encoded_into}
use Rattle.words.proofs.Numbers.{number_alike}
use Rattle.words.proofs.Words.{length_word, take_word, drop_word, byte_word, word_apart, word_same}

-- the last of the first suc n, or one before it
last_or_before : (i n : ℕ) → i < suc n → (i ≡ n) ⊎ (i < n)
last_or_before i n h = eq-or-lt_of_le (omega arith)

-- ---- decoded

module _ (t : List ℤ) (to : ℕ) (b : List ℕ) (at : ℕ) where
  pub length_decoded : (n : ℕ) → length (decoded_into t to b at n) ≡ length t
  unfolding decoded_into
  length_decoded zero = refl
  length_decoded (suc n) = length-set (decoded_into t to b at n) (to + n) (word_at b (at + 8 * n)) ∙ length_decoded n

  -- numbers before and after the n places stay
  pub take_decoded : (n m : ℕ) → m ≤ to → take m (decoded_into t to b at n) ≡ take m t
  unfolding decoded_into
  take_decoded zero m h = refl
  take_decoded (suc n) m h =
      take-set-le m (decoded_into t to b at n) (to + n) (word_at b (at + 8 * n)) (omega arith) ∙ take_decoded n m h

  pub drop_decoded : (n m : ℕ) → to + n ≤ m → drop m (decoded_into t to b at n) ≡ drop m t
  unfolding decoded_into
  drop_decoded zero m h = refl
  drop_decoded (suc n) m h =
      drop-set-lt m (decoded_into t to b at n) (to + n) (word_at b (at + 8 * n)) (omega arith) ∙ drop_decoded n m (omega arith)

  pub decoded_apart : (n k : ℕ) (d : ℤ) → (k < to) ⊎ (to + n ≤ k) → get_or (decoded_into t to b at n) k d ≡ get_or t k d
  unfolding decoded_into
  decoded_apart zero k d h = refl
  decoded_apart (suc n) k d h =
      get_or-set_other (decoded_into t to b at n) (to + n) k (word_at b (at + 8 * n)) d (λ (e : k ≡ to + n). ⊎_elim (λ (l : k < to). omega arith) (λ (g : to + suc n ≤ k). omega arith) h)
      ∙ decoded_apart n k d (⊎_elim (λ (l : k < to). inl l) (λ (g : to + suc n ≤ k). inr (omega arith)) h)

  -- number i of the n is word i of the bytes
  pub decoded_at : (n i : ℕ) (d : ℤ) → to + n ≤ length t → i < n → get_or (decoded_into t to b at n) (to + i) d ≡ word_at b (at + 8 * i)
  unfolding decoded_into
  decoded_at zero i d h l = absurd (omega arith)
  decoded_at (suc n) i d h l =
      let u = decoded_into t to b at n in
      let x = word_at b (at + 8 * n) in
      let long : length u ≡ length t = length_decoded n in
      ⊎_elim
      (λ (e : i ≡ n). rw e (get_or-set_same u (to + n) x d (omega arith)))
      (λ (y : i < n). get_or-set_other u (to + n) (to + i) x d (λ (e : to + i ≡ to + n). omega arith) ∙ decoded_at n i d (omega arith) y)
      (last_or_before i n l)

  -- one turn of the loop
  pub decoded_more : (u : List ℤ) (n : ℕ) (x : ℤ) → u ≡ decoded_into t to b at n → x ≡ word_at b (at + 8 * n) → set u (to + n) x ≡ decoded_into t to b at (n + 1)
  unfolding decoded_into
  decoded_more u n x p q = rw (p, q, add-one)

-- ---- encoded

module _ (b : List ℕ) (at : ℕ) (t : List ℤ) (from : ℕ) where
  pub length_encoded : (n : ℕ) → length (encoded_into b at t from n) ≡ length b
  unfolding encoded_into
  length_encoded zero = refl
  length_encoded (suc n) = length_word (encoded_into b at t from n) (at + 8 * n) (get_or t (from + n) (pos 0)) ∙ length_encoded n

  -- bytes before and after the n words stay
  pub take_encoded : (n m : ℕ) → m ≤ at → take m (encoded_into b at t from n) ≡ take m b
  unfolding encoded_into
  take_encoded zero m h = refl
  take_encoded (suc n) m h =
      take_word (encoded_into b at t from n) (at + 8 * n) (get_or t (from + n) (pos 0)) m (omega arith) ∙ take_encoded n m h

  pub drop_encoded : (n m : ℕ) → at + 8 * n ≤ m → drop m (encoded_into b at t from n) ≡ drop m b
  unfolding encoded_into
  drop_encoded zero m h = refl
  drop_encoded (suc n) m h =
      drop_word (encoded_into b at t from n) (at + 8 * n) (get_or t (from + n) (pos 0)) m (omega arith) ∙ drop_encoded n m (omega arith)

  pub byte_encoded : (n k : ℕ) → (k < at) ⊎ (at + 8 * n ≤ k) → get_or (encoded_into b at t from n) k 0 ≡ get_or b k 0
  unfolding encoded_into
  byte_encoded zero k h = refl
  byte_encoded (suc n) k h =
      byte_word (encoded_into b at t from n) (at + 8 * n) (get_or t (from + n) (pos 0)) k (⊎_elim (λ (l : k < at). inl (omega arith)) (λ (g : at + 8 * suc n ≤ k). inr (omega arith)) h)
      ∙ byte_encoded n k (⊎_elim (λ (l : k < at). inl l) (λ (g : at + 8 * suc n ≤ k). inr (omega arith)) h)

  -- so does every number, and every word, that lies apart from them
  pub number_apart_encoded : (n j v : ℕ) → (j + v ≤ at) ⊎ (at + 8 * n ≤ j) → number_at (encoded_into b at t from n) j v ≡ number_at b j v
  number_apart_encoded n j v h =
      number_alike (encoded_into b at t from n) b j j v
      (λ k y. byte_encoded n (j + k) (⊎_elim (λ (l : j + v ≤ at). inl (omega arith)) (λ (g : at + 8 * n ≤ j). inr (omega arith)) h))

  pub word_apart_encoded : (n j : ℕ) → (j + 8 ≤ at) ⊎ (at + 8 * n ≤ j) → word_at (encoded_into b at t from n) j ≡ word_at b j
  unfolding word_at
  word_apart_encoded n j h = ap (to_z w64) (number_apart_encoded n j 8 h)

  -- word i of the n is number i
  pub encoded_at : (n i : ℕ) → at + 8 * n ≤ length b → i < n → SFits w64 (get_or t (from + i) (pos 0)) → word_at (encoded_into b at t from n) (at + 8 * i) ≡ get_or t (from + i) (pos 0)
  unfolding encoded_into
  encoded_at zero i h l f = absurd (omega arith)
  encoded_at (suc n) i h l f =
      let c = encoded_into b at t from n in
      let x = get_or t (from + n) (pos 0) in
      let long : length c ≡ length b = length_encoded n in
      ⊎_elim
      (λ (e : i ≡ n). rw e (word_same c (at + 8 * n) x (omega arith) (rw e at f)))
      (λ (y : i < n). word_apart c (at + 8 * n) x (at + 8 * i) (inl (omega arith)) ∙ encoded_at n i (omega arith) y f)
      (last_or_before i n l)

  -- one turn of the loop
  pub encoded_more : (c d : List ℕ) (n : ℕ) (x : ℤ) → c ≡ encoded_into b at t from n → x ≡ get_or t (from + n) (pos 0) → d ≡ with_word c (at + 8 * n) x → d ≡ encoded_into b at t from (n + 1)
  unfolding encoded_into
  encoded_more c d n x p q r = rw (r, p, q, add-one)
