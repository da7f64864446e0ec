-- A block of numbers in the middle of others: what a run of stores and a run of zeros leave. Assumes nothing.
use mathlib.Core.Path.{◌≡◌, refl, sym, ◌∙◌, ap, ap₂}
use mathlib.Core.List.{List, [], ◌∷◌, ◌++◌, append_assoc}
use Prim.Native.Nat.{ℕ, zero, suc, ◌+◌, ◌-◌, ◌≤◌}
use native.Mathlib.Omega.{arith}
use native.Mathlib.Numerals.{add-one}
use lib.ListN.{length, replicate, set, drop, get_or, length-append, length-replicate, length-set, replicate-append-replicate}
use lib.Seq.{sets, set_at, drop-cons, drop-append_seam, append_snoc}
use lib.IntN.{ℤ, pos}
use Rattle.layout.specs.Layout.{pad}
use Rattle.layout.specs.InnerWrites.{cleared}

abbrev pub zeros_of : ℕ → List ℤ
zeros_of n = replicate n (pos 0)

-- ---- stores and zeros, anywhere

-- as many numbers stored where others stood
pub sets_mid : (a u v b : List ℤ) (n : ℕ) → length a ≡ n → length u ≡ length v → sets (a ++ (u ++ b)) n v ≡ a ++ (v ++ b)
sets_mid a [] [] b n e h = refl
sets_mid a [] (y ∷ v) b n e h = absurd (omega arith)
sets_mid a (x ∷ u) [] b n e h = absurd (omega arith)
sets_mid a (x ∷ u) (y ∷ v) b n e h =
    ap (λ t. sets t (suc n) v) (set_at a x (u ++ b) y n e ∙ sym (append_snoc a y (u ++ b)))
    ∙ sets_mid (a ++ (y ∷ [])) u v b (suc n) (simp length-append (omega arith)) (omega arith)
    ∙ append_snoc a y (v ++ b)

cleared_front : (a w : List ℤ) (n k : ℕ) → length a ≡ n → k ≤ length w → cleared (a ++ w) n k ≡ a ++ (zeros_of k ++ drop k w)
unfolding cleared
cleared_front a w n zero e h = refl
cleared_front a w n (suc k) e h =
    ap (λ t. set t (n + k) (pos 0)) (cleared_front a w n k e (omega arith) ∙ ap (λ t. a ++ (zeros_of k ++ t)) (drop-cons w k (pos 0) (omega arith)) ∙ sym (append_assoc a (zeros_of k) _))
    ∙ set_at (a ++ zeros_of k) (get_or w k (pos 0)) (drop (suc k) w) (pos 0) (n + k) (simp (length-append, length-replicate) (omega arith))
    ∙ append_assoc a (zeros_of k) _
    ∙ ap (λ t. a ++ t) (one_more k (drop (suc k) w))
  where
    one_more : (k : ℕ) (r : List ℤ) → zeros_of k ++ (pos 0 ∷ r) ≡ zeros_of (suc k) ++ r
    one_more zero r = refl
    one_more (suc k) r = ap (λ t. pos 0 ∷ t) (one_more k r)

pub cleared_mid : (a u b : List ℤ) (n k : ℕ) → length a ≡ n → length u ≡ k → cleared (a ++ (u ++ b)) n k ≡ a ++ (zeros_of k ++ b)
cleared_mid a u b n k e h =
    ap (cleared (a ++ (u ++ b)) n) (sym h)
    ∙ cleared_front a (u ++ b) n (length u) e (simp length-append (omega arith))
    ∙ ap₂ (λ j t. a ++ (zeros_of j ++ t)) h (drop-append_seam u b)

pub length_cleared : (t : List ℤ) (a n : ℕ) → length (cleared t a n) ≡ length t
unfolding cleared
length_cleared t a zero = refl
length_cleared t a (suc n) = length-set (cleared t a n) (a + n) (pos 0) ∙ length_cleared t a n

-- ---- a block of room for n numbers, between P and S

module _ (P S : List ℤ) (room n : ℕ) where
  pub block_append :
      (l v : List ℤ) → length l + length v ≤ room → n ≡ length P + length l
      → sets (P ++ (pad room l ++ S)) n v ≡ P ++ (pad room (l ++ v) ++ S)
  unfolding pad
  block_append l v h e =
      ap (λ t. sets t n v) before
      ∙ sets_mid (P ++ l) (zeros_of (length v)) v (zeros_of left ++ S) n (simp length-append (omega arith)) (length-replicate (length v) (pos 0))
      ∙ after
    where
      left : ℕ
      left = room - (length l + length v)

      split : room - length l ≡ length v + (room - (length l + length v))
      split = omega arith

      before : P ++ ((l ++ zeros_of (room - length l)) ++ S) ≡ (P ++ l) ++ (zeros_of (length v) ++ (zeros_of left ++ S))
      before =
          ap (λ j. P ++ ((l ++ zeros_of j) ++ S)) split
          ∙ ap (λ t. P ++ ((l ++ t) ++ S)) (sym (replicate-append-replicate (length v) left (pos 0)))
          ∙ simp append_assoc

      after : (P ++ l) ++ (v ++ (zeros_of left ++ S)) ≡ P ++ (((l ++ v) ++ zeros_of (room - length (l ++ v))) ++ S)
      after = sym (ap (λ j. P ++ (((l ++ v) ++ zeros_of (room - j)) ++ S)) (length-append l v) ∙ simp append_assoc)

  pub block_replace :
      (a u v b : List ℤ) → length u ≡ length v → n ≡ length P + length a
      → sets (P ++ (pad room (a ++ (u ++ b)) ++ S)) n v ≡ P ++ (pad room (a ++ (v ++ b)) ++ S)
  unfolding pad
  block_replace a u v b h e =
      ap (λ t. sets t n v) (simp append_assoc)
      ∙ sets_mid (P ++ a) u v (b ++ (zeros_of (room - length (a ++ (u ++ b))) ++ S)) n (simp length-append (omega arith)) h
      ∙ ap (λ j. (P ++ a) ++ (v ++ (b ++ (zeros_of (room - j) ++ S)))) (same a u v b h)
      ∙ simp append_assoc
    where
      same : (a u v b : List ℤ) → length u ≡ length v → length (a ++ (u ++ b)) ≡ length (a ++ (v ++ b))
      same a u v b h = simp length-append (omega arith)

  pub block_cut :
      (a b : List ℤ) (k : ℕ) → length a + length b ≤ room → n ≡ length P + length a → k ≡ length b
      → cleared (P ++ (pad room (a ++ b) ++ S)) n k ≡ P ++ (pad room a ++ S)
  unfolding pad
  block_cut a b k h e d =
      ap (λ t. cleared t n k) (simp append_assoc)
      ∙ cleared_mid (P ++ a) b (zeros_of (room - length (a ++ b)) ++ S) n k (simp length-append (omega arith)) (sym d)
      ∙ append_assoc P a _
      ∙ ap (λ t. P ++ (a ++ t)) (sym (append_assoc (zeros_of k) (zeros_of (room - length (a ++ b))) S) ∙ ap (λ t. t ++ S) (replicate-append-replicate k (room - length (a ++ b)) (pos 0)))
      ∙ ap (λ j. P ++ (a ++ (zeros_of j ++ S))) (left a b k h d)
      ∙ ap (λ t. P ++ t) (sym (append_assoc a _ S))
    where
      left : (a b : List ℤ) (k : ℕ) → length a + length b ≤ room → k ≡ length b → k + (room - length (a ++ b)) ≡ room - length a
      left a b k h d = simp length-append (omega arith)
