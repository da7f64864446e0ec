-- What walks over a range give: a test of each index, and the words of a block; and the size of a check. Assumes nothing.
use Rattle.std.proofs.Common.{◌≡◌, ℕ, zero, suc, ◌+◌, ◌*◌, ◌%◌, ◌^◌, ◌<◌, Bool, true, false, List, [], ◌∷◌, map, length, get_or, refl, sym, subst, zero-add, ap, ◌∙◌, arith, ext_get_or}
use Rattle.std.specs.Bool.{MatchBool}
use Rattle.std.specs.List.{range_with_len, AllWithin, HoldsAt}
use Rattle.std.specs.Iterator.Runs.{Run}
use Rattle.std.proofs.iter.Yields.{nat_range_steps}
use Rattle.std.proofs.iter.runs.Sources.{range_runs}
use Rattle.std.proofs.lemmas.List.FromFn.{length-range_with_len, get_or-range_with_len}
use Rattle.numbers.specs.Rows.{all}
use Rattle.numbers.proofs.Rows.{all_of, all_fails}
use Rattle.words.specs.Words.{number_at}
use Rattle.words.specs.Sums.{sums_from, sums_of}
use Rattle.images.specs.Blocks.{words_from, check_of}

-- all the items of a range
pub range_items : (q : Run nat_range_steps) (n : ℕ) → q.from.start ≡ 0 → q.from.end ≡ n → q.whole ≡ true → q.items ≡ range_with_len 0 n
range_items q n s e w =
    let r = range_runs q q.seen in
    let long : q.len ≡ n = omega (arith, r.1 w) in
    ext_get_or 0 q.items (range_with_len 0 n) (omega (arith, q.long, length-range_with_len 0 n))
    (λ i l.
    let k : i < q.len = omega (arith, q.long) in
    let m : i < n = omega arith in
    let x : get_or q.items i 0 ≡ q.from.start + i = cc (q.reads i 0 k, r.3 i k) in
    x ∙ ap (λ a. a + i) s ∙ sym (get_or-range_with_len 0 n i 0 m))

-- a test of each index below n, stopped where one fails
module _ (p : ℕ → Bool) (n : ℕ) where
  abbrev indices : List ℕ
  indices = range_with_len 0 n

  index : (i : ℕ) → i < n → get_or indices i 0 ≡ i
  index i l = get_or-range_with_len 0 n i 0 l ∙ zero-add i

  pub all_decided : (r : Bool) → MatchBool r (AllWithin (λ k. p k ≡ true) indices 0 (length indices)) ((k : ℕ) × (k < length indices) × HoldsAt (λ k. p k ≡ false) indices k) → r ≡ all p n
  all_decided true h =
      sym (all_of p n (λ i l. subst (λ k. p k ≡ true) (index i l) (h i 0 (omega arith) (omega (arith, length-range_with_len 0 n)))))
  all_decided false h =
      let l : h.0 < n = omega (arith, h.1, length-range_with_len 0 n) in
      sym (all_fails p h.0 n l (subst (λ k. p k ≡ false) (index h.0 l) (h.2 0)))

-- one for each of n indices, from i on
pub words_listed : (b : List ℕ) (at i n : ℕ) → map (λ j. number_at b (at + 8 * j) 8) (range_with_len i n) ≡ words_from b (at + 8 * i) n
unfolding words_from
words_listed b at i zero = refl
words_listed b at i (suc n) =
    let e : at + 8 * (i + 1) ≡ at + 8 * i + 8 = omega arith in
    ap (λ (xs : List ℕ). number_at b (at + 8 * i) 8 ∷ xs) (rw e at (words_listed b at (i + 1) n))

-- a check fits its eight bytes
sums_small : (s1 s2 : ℕ) (xs : List ℕ) → s2 < 2 ^ 64 → (sums_from s1 s2 xs).1 < 2 ^ 64
unfolding sums_from
sums_small s1 s2 [] h = h
sums_small s1 s2 (x ∷ xs) h = sums_small ((s1 + x) % 2 ^ 64) ((s2 + (s1 + x) % 2 ^ 64) % 2 ^ 64) xs (omega arith)

pub check_small : (b : List ℕ) (k : ℕ) → check_of b k < 2 ^ 64
unfolding check_of sums_of
check_small b k = sums_small 0 0 _ (omega arith)
