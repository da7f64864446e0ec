-- The last row of a list, by its index. Assumes nothing.
use mathlib.Core.Path.{◌≡◌, refl, ◌∙◌, ap}
use mathlib.Core.Option.{none, some}
use mathlib.Core.List.{List, [], ◌∷◌, ◌++◌}
use Prim.Native.Nat.{ℕ, zero, suc}
use native.Mathlib.Omega.{arith}
use lib.ListN.{length, get_or, take, drop_of_length-le}
use lib.Seq.{split_at}
use Rattle.numbers.specs.Search.{maybe}
use Rattle.daybook.specs.Book.{last_of}

module _ {A : Type 0} where
  pub last_none : (l : List A) → length l ≡ 0 → last_of l ≡ none
  unfolding last_of
  last_none [] e = refl
  last_none (x ∷ l) e = absurd (omega arith)

  pub last_at : (gap : A) (l : List A) (k : ℕ) → length l ≡ suc k → last_of l ≡ some (get_or l k gap)
  unfolding last_of
  last_at gap [] k e = absurd (omega arith)
  last_at gap (x ∷ []) zero e = refl
  last_at gap (x ∷ []) (suc k) e = absurd (omega arith)
  last_at gap (x ∷ y ∷ l) zero e = absurd (omega arith)
  last_at gap (x ∷ y ∷ l) (suc k) e = ap (λ o. some (maybe x (λ z. z) o)) (last_at gap (y ∷ l) k (omega arith))

  pub split_last : (gap : A) (l : List A) (k : ℕ) → length l ≡ suc k → l ≡ take k l ++ (get_or l k gap ∷ [])
  split_last gap l k e =
      split_at l k gap (omega arith) ∙ ap (λ r. take k l ++ (get_or l k gap ∷ r)) (drop_of_length-le l {i = suc k} (omega arith))
