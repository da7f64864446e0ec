-- The bits of an answer's numbers, filled in one a turn: those in front, then the rest. Assumes nothing.
use mathlib.Core.Path.{◌≡◌, refl, sym, ap, ◌∙◌}
use mathlib.Core.Bool.{Bool, true, false, cond}
use mathlib.Core.Logic.{⊎_elim}
use mathlib.Core.List.{List, [], ◌∷◌, ◌++◌, map}
use Prim.Native.Nat.{ℕ, suc, ◌+◌, ◌<◌}
use native.Mathlib.Nat.{eq-or-lt_of_le}
use native.Mathlib.Omega.{arith}
use lib.ListN.{length, get_or, set, get_or-append}
use lib.IntN.{pos}
use mir.Val.{bool_byte}
use Rattle.words.specs.Words.{bits_of}
use lib.Seq.{ext_get_or, get_or-set_same, get_or-set_other}

behind : (front rest : List ℕ) (k : ℕ) → get_or (front ++ rest) (length front + k) 0 ≡ get_or rest k 0
behind [] rest k = let z : 0 + k ≡ k = omega arith in ap (λ j. get_or rest j 0) z
behind (x ∷ front) rest k =
    let s : suc (length front) + k ≡ suc (length front + k) = omega arith in
    ap (λ j. get_or (x ∷ (front ++ rest)) j 0) s ∙ behind front rest k

module _ (front rest : List ℕ) where
  -- l holds them, as far as n
  abbrev pub Filled : ℕ → List ℕ → Type 0
  Filled n l = (i : ℕ) → i < n → get_or l i 0 ≡ get_or (front ++ rest) i 0

  -- one more of the rest, at its index behind those in front
  pub filled_more : (l : List ℕ) (k n n' b : ℕ) → n ≡ length front + k → n' ≡ n + 1 → n < length l → Filled n l
      → b ≡ get_or rest k 0 → Filled n' (set l n b)
  filled_more l k n n' b at s h f e i m =
      ⊎_elim (λ (q : i ≡ n). rw q (get_or-set_same l n b 0 h ∙ e
      ∙ sym (ap (λ j. get_or (front ++ rest) j 0) at ∙ behind front rest k)))
      (λ (q : i < n). get_or-set_other l n i b 0 (λ (p : i ≡ n). omega arith) ∙ f i q)
      (eq-or-lt_of_le (omega arith))

  pub filled_all : (l : List ℕ) → length l ≡ length (front ++ rest) → Filled (length l) l → l ≡ front ++ rest
  filled_all l e f = ext_get_or 0 l (front ++ rest) e f

-- Flags have their own bits.
pub flags_back : (l : List Bool) → map bool_byte l ≡ bits_of (map (λ (a : Bool). cond a (pos 1) (pos 0)) l)
flags_back [] = refl
flags_back (true ∷ l) = ap (λ m. 1 ∷ m) (flags_back l)
flags_back (false ∷ l) = ap (λ m. 0 ∷ m) (flags_back l)
