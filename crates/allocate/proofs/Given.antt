-- What the split of the load is in the book: shares in opening order with 0 past the last point, and the Users' totals.
-- Assumes nothing.
use mathlib.Core.Path.{◌≡◌, refl, sym, ◌∙◌, ap, ap₂}
use mathlib.Core.Bool.{Bool, true, false, cond}
use mathlib.Core.List.{List, [], ◌∷◌, ◌++◌, map, append_assoc}
use Prim.Native.Nat.{ℕ, zero, suc, ◌+◌, ◌-◌, ◌*◌, ◌/◌, ◌≤◌, ◌<◌}
use native.Mathlib.Omega.{arith}
use native.Mathlib.Nat.{add-zero, zero-add, add_assoc}
use lib.Dec.{eqb}
use lib.ListN.{length, get_or, replicate, length-map, length-append, length-replicate, get_or-replicate, get_or-append}
use lib.Seq.{get_or-append-add}
use lib.IntN.{ℤ, pos, ◌+ℤ◌, ◌-ℤ◌, +ℤ_invr}
use Rattle.numbers.specs.Naturals.{nat_of}
use Rattle.numbers.specs.Shares.{floor_part}
use Rattle.numbers.proofs.Bools.{cond_same}
use Rattle.daybook.specs.Book.{Point}
use Rattle.daybook.specs.Queries.{total, split, total_of}
use Rattle.lists.proofs.Splits.{total_append, split_append, split_length}
use Rattle.layout.specs.Layout.{num_at}
use Rattle.allocate.specs.InnerParts.{padded, total_to}
use Rattle.allocate.proofs.Splits.{part_small, share_is}

-- ---- weights of 0

pub total_zeros : (n : ℕ) → total (replicate n 0) ≡ 0
unfolding total
total_zeros zero = refl
total_zeros (suc n) = zero-add _ ∙ total_zeros n

pub total_padded : (l : List ℕ) → total (padded l) ≡ total l
unfolding padded
total_padded l = total_append l (replicate (32 - length l) 0) ∙ ap (λ z. total l + z) (total_zeros (32 - length l)) ∙ add-zero (total l)

module _ (load s : ℕ) where
  split_zeros : (acc n : ℕ) → split load s acc (replicate n 0) ≡ replicate n (pos 0)
  unfolding split
  split_zeros acc zero = refl
  split_zeros acc (suc n) =
      ap₂ (λ x l. x ∷ l) (rw (add-zero acc) (+ℤ_invr (floor_part (pos load) s acc))) (rw (add-zero acc) (split_zeros acc n))

  -- 0 past the last point
  pub split_padded : (l : List ℕ) → split load s 0 (padded l) ≡ split load s 0 l ++ replicate (32 - length l) (pos 0)
  unfolding padded
  split_padded l =
      split_append load s 0 l (replicate (32 - length l) 0) ∙ ap (λ m. split load s 0 l ++ m) (split_zeros (0 + total l) (32 - length l))

-- ---- no share is above the load

module _ (load s : ℕ) (p : 0 < s) where
  abbrev share : ℕ → ℕ → ℤ
  share acc x = floor_part (pos load) s (acc + x) -ℤ floor_part (pos load) s acc

  share_natural : (acc x : ℕ) → pos (nat_of (share acc x)) ≡ share acc x
  share_natural acc x = ap (λ z. pos (nat_of z)) (sym (share_is load s acc x p)) ∙ share_is load s acc x p

  share_small : (acc x : ℕ) → acc + x ≤ s → nat_of (share acc x) ≤ load
  share_small acc x h =
      let is : nat_of (share acc x) ≡ (load * (acc + x)) / s - (load * acc) / s = ap nat_of (sym (share_is load s acc x p)) in
      omega (arith, part_small load (acc + x) s p h)

  pub split_small : (acc : ℕ) (l : List ℕ) → acc + total l ≤ s → (k : ℕ) → num_at (split load s acc l) k ≤ load
  unfolding split total
  split_small acc [] h k = omega arith
  split_small acc (x ∷ l) h zero = share_small acc x (omega arith)
  split_small acc (x ∷ l) h (suc k) = split_small (acc + x) l (omega arith) k

  -- ---- totals

  own_lifts : (b : Bool) (acc x k : ℕ) → pos (cond b (nat_of (share acc x)) 0 + k) ≡ cond b (share acc x) (pos 0) +ℤ pos k
  own_lifts true acc x k = ap (λ z. z +ℤ pos k) (share_natural acc x)
  own_lifts false acc x k = refl

  total_front : (v : ℕ) (z : ℤ) (us : List ℕ) (xs : List ℤ) (u k : ℕ) → total_to (v ∷ us) (z ∷ xs) u (suc k) ≡ cond (eqb v u) (nat_of z) 0 + total_to us xs u k
  unfolding total_to
  total_front v z us xs u zero = omega arith
  total_front v z us xs u (suc k) =
      ap (λ n. n + cond (eqb (get_or us k 0) u) (num_at xs k) 0) (total_front v z us xs u k)
      ∙ add_assoc (cond (eqb v u) (nat_of z) 0) (total_to us xs u k) (cond (eqb (get_or us k 0) u) (num_at xs k) 0)

  -- by index is the book's own
  total_book : (g u acc : ℕ) (w : Point → ℕ) (ps : List Point)
      → pos (total_to (map (λ p. p.fro g) ps) (split load s acc (map w ps)) u (length ps)) ≡ total_of g u ps (split load s acc (map w ps))
  unfolding total_to total_of split
  total_book g u acc w [] = refl
  total_book g u acc w (p ∷ ps) =
      ap pos (total_front (p.fro g) (share acc (w p)) (map (λ p. p.fro g) ps) (split load s (acc + w p) (map w ps)) u (length ps))
      ∙ own_lifts (eqb (p.fro g) u) acc (w p) (total_to (map (λ p. p.fro g) ps) (split load s (acc + w p) (map w ps)) u (length ps))
      ∙ ap (λ z. cond (eqb (p.fro g) u) (share acc (w p)) (pos 0) +ℤ z) (total_book g u (acc + w p) w ps)

-- ---- arrays of 32, and what follows the 32 numbers of the answer table

module _ (u : ℕ) where
  total_within : (us vs : List ℕ) (xs ys : List ℤ) (k : ℕ) → k ≤ length us → k ≤ length xs → total_to (us ++ vs) (xs ++ ys) u k ≡ total_to us xs u k
  unfolding total_to
  total_within us vs xs ys zero a b = refl
  total_within us vs xs ys (suc k) a b =
      ap₂ ◌+◌ (total_within us vs xs ys k (omega arith) (omega arith))
      (ap₂ (λ v x. cond (eqb v u) (nat_of x) 0) (get_or-append us vs 0 k (omega arith)) (get_or-append xs ys (pos 0) k (omega arith)))

  total_past : (us : List ℕ) (xs : List ℤ) (n m : ℕ) → ((j : ℕ) → j < m → num_at xs (n + j) ≡ 0) → total_to us xs u (n + m) ≡ total_to us xs u n
  unfolding total_to
  total_past us xs n zero f = ap (total_to us xs u) (add-zero n)
  total_past us xs n (suc m) f =
      let e : n + suc m ≡ suc (n + m) = omega arith in
      ap (total_to us xs u) e
      ∙ ap₂ ◌+◌ (total_past us xs n m (λ j h. f j (omega arith))) (ap (λ x. cond (eqb (get_or us (n + m) 0) u) x 0) (f m (omega arith)) ∙ cond_same (eqb (get_or us (n + m) 0) u) 0)
      ∙ add-zero (total_to us xs u n)

module _ (load s : ℕ) (some : 0 < s) (g : ℕ) (w : Point → ℕ) (ps : List Point) (few : length ps ≤ 32) (rest : List ℤ) where
  abbrev shares : List ℤ
  shares = split load s 0 (map w ps)

  abbrev zeros : List ℤ
  zeros = replicate (32 - length ps) (pos 0)

  as_many : length shares ≡ length ps
  as_many = split_length load s 0 (map w ps) ∙ length-map ps w

  past : (j : ℕ) → j < 32 - length ps → num_at ((shares ++ zeros) ++ rest) (length ps + j) ≡ 0
  past j h =
      let long : length (shares ++ zeros) ≡ length ps + (32 - length ps) = simp (length-append, length-replicate) (ap (λ n. n + (32 - length ps)) as_many) in
      ap nat_of
      (get_or-append (shares ++ zeros) rest (pos 0) (length ps + j) (omega (arith, long))
      ∙ ap (λ n. get_or (shares ++ zeros) (n + j) (pos 0)) (sym as_many)
      ∙ get_or-append-add shares zeros j (pos 0)
      ∙ get_or-replicate (32 - length ps) j (pos 0) (pos 0) h)

  pub user_total : (u : ℕ) → pos (total_to (padded (map (λ p. p.fro g) ps)) ((shares ++ zeros) ++ rest) u 32) ≡ total_of g u ps shares
  unfolding padded
  user_total u =
      let n : length ps + (32 - length ps) ≡ 32 = omega arith in
      ap pos
      (ap (total_to us out u) (sym n)
      ∙ total_past u us out (length ps) (32 - length ps) past
      ∙ ap (λ l. total_to us l u (length ps)) (append_assoc shares zeros rest)
      ∙ total_within u (map (λ p. p.fro g) ps) _ shares (zeros ++ rest) (length ps) (omega (arith, length-map ps (λ p. p.fro g))) (omega (arith, as_many)))
      ∙ total_book load s some g u 0 w ps
    where
      us : List ℕ
      us = map (λ p. p.fro g) ps ++ replicate (32 - length (map (λ p. p.fro g) ps)) 0

      out : List ℤ
      out = (shares ++ zeros) ++ rest
