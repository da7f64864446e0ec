-- The Users' totals, as sums over the shares. Assumes nothing.
use mathlib.Core.Path.{◌≡◌, refl, sym, ap, ◌∙◌}
use mathlib.Core.Bool.{cond}
use mathlib.Core.List.{List}
use Prim.Native.Nat.{ℕ, zero, suc}
use native.Mathlib.Numerals.{add-one}
use lib.Dec.{eqb}
use lib.ListN.{get_or}
use lib.IntN.{ℤ, pos}
use Rattle.numbers.specs.Sums.{sum_from}
use Rattle.numbers.proofs.Sums.{sum_none, count_turn}
use Rattle.layout.specs.Layout.{num_at}
use Rattle.allocate.specs.InnerParts.{total_to}

-- what User u has of share k
abbrev pub share_to : List ℕ → List ℤ → ℕ → ℕ → ℕ
share_to us xs u k = cond (eqb (get_or us k 0) u) (num_at xs k) 0

pub shares_sum : (us : List ℕ) (xs : List ℤ) (u n : ℕ) → sum_from (λ k. pos (share_to us xs u k)) 0 n ≡ pos (total_to us xs u n)
unfolding total_to
shares_sum us xs u zero = sum_none _ 0
shares_sum us xs u (suc n) =
    ap (sum_from (λ k. pos (share_to us xs u k)) 0) (sym (add-one n))
    ∙ count_turn _ n (total_to us xs u n) (share_to us xs u n) (shares_sum us xs u n) refl
