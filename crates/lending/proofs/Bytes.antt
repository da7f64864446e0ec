-- Numbers read from two buffers into one row, and buffers that are made for a call. Assumes nothing.
use mathlib.Core.Path.{◌≡◌, refl, sym, ap, ◌∙◌}
use mathlib.Core.List.{List, ◌∷◌, ◌++◌}
use Prim.Native.Nat.{ℕ, zero, suc, ◌+◌, ◌*◌, ◌≤◌, ◌<◌}
use native.Mathlib.Nat.{zero-add}
use native.Mathlib.Omega.{arith}
use lib.IntN.{ℤ, pos}
use lib.ListN.{length, take, drop, replicate, length-replicate, get_or-replicate}
use lib.Seq.{take_all, take-add}
use Rattle.words.specs.Words.{with_word}
use Rattle.words.specs.Tables.{decoded_into, encoded_into}
use Rattle.words.proofs.Tables.{length_decoded, take_decoded, encoded_more}
use Rattle.words.proofs.Back.{decoded_alike}
use Rattle.buffers.specs.Buffers.{numbers_in, with_numbers}
use Rattle.lending.specs.Lending.{bytes_of}

-- ---- read

one_read : (t : List ℤ) (to : ℕ) (b : List ℕ) (n : ℕ) → to + n ≤ length t → take n (drop to (decoded_into t to b 0 n)) ≡ numbers_in b n
unfolding numbers_in
one_read t to b n h =
    let z : List ℤ = replicate n (pos 0) in
    let long : length z ≡ n = length-replicate n (pos 0) in
    decoded_alike t to z 0 b 0 b 0 n h (omega arith) (λ k l. refl)
    ∙ take_all n (decoded_into z 0 b 0 n) (omega (arith, length_decoded z 0 b 0 n))

pub both_read : (a b : List ℕ) (z u v : List ℤ) (n m : ℕ) → n + m ≤ length z → u ≡ decoded_into z 0 a 0 n → v ≡ decoded_into u n b 0 m → take (n + m) v ≡ numbers_in a n ++ numbers_in b m
both_read a b z u v n m h p q =
    let long : length u ≡ length z = ap length p ∙ length_decoded z 0 a 0 n in
    let front : take n v ≡ numbers_in a n = ap (take n) q ∙ take_decoded u n b 0 m n (omega arith) ∙ ap (take n) p ∙ one_read z 0 a n (omega arith) in
    let back : take m (drop n v) ≡ numbers_in b m = ap (λ (l : List ℤ). take m (drop n l)) q ∙ one_read u n b m (omega arith) in
    rw (take-add, front, back)

-- ---- made

-- one more of n numbers x
pub one_more : (n k : ℕ) (x : ℤ) (b u v : List ℕ) → k < n → u ≡ encoded_into b 0 (replicate n x) 0 k → v ≡ with_word u (8 * k) x
    → v ≡ encoded_into b 0 (replicate n x) 0 (k + 1)
one_more n k x b u v h p q =
    encoded_more b 0 (replicate n x) 0 u v k x p (rw zero-add (sym (get_or-replicate n k x (pos 0) h))) (rw zero-add q)

pub take_replicate : {A : Type 0} (n m : ℕ) (x : A) → n ≤ m → take n (replicate m x) ≡ replicate n x
take_replicate zero m x h = refl
take_replicate (suc n) zero x h = absurd (omega arith)
take_replicate (suc n) (suc m) x h = ap (λ (l : List _). x ∷ l) (take_replicate n m x (omega arith))

-- a buffer for a call is made in m zeros
pub in_zeros : (xs : List ℤ) (m : ℕ) → 8 * length xs ≤ m → with_numbers xs (take (8 * length xs) (replicate m 0)) ≡ bytes_of xs
in_zeros xs m h = rw (take_replicate {A = ℕ} (8 * length xs) m 0 h)

pub filled_in_zeros : (n m : ℕ) (x : ℤ) → 8 * n ≤ m → with_numbers (replicate n x) (take (8 * n) (replicate m 0)) ≡ bytes_of (replicate n x)
filled_in_zeros n m x h = rw (take_replicate {A = ℕ} (8 * n) m 0 h, length-replicate n x)
