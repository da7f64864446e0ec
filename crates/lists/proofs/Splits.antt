-- The sum of weights and the split of a load by them: lists put together, and how many shares there are. Assumes nothing.
use mathlib.Core.Path.{◌≡◌, refl, sym, ◌∙◌, ap}
use mathlib.Core.List.{List, [], ◌∷◌, ◌++◌}
use Prim.Native.Nat.{ℕ, suc, ◌+◌}
use native.Mathlib.Nat.{add-zero, zero-add, add_assoc}
use lib.ListN.{length}
use lib.IntN.{pos, ◌-ℤ◌}
use Rattle.numbers.specs.Shares.{floor_part}
use Rattle.daybook.specs.Queries.{total, split}

pub total_append : (l m : List ℕ) → total (l ++ m) ≡ total l + total m
unfolding total
total_append [] m = sym (zero-add (total m))
total_append (x ∷ l) m = ap (λ z. x + z) (total_append l m) ∙ sym (add_assoc x (total l) (total m))

pub split_append : (load s acc : ℕ) (l m : List ℕ) → split load s acc (l ++ m) ≡ split load s acc l ++ split load s (acc + total l) m
unfolding split total
split_append load s acc [] m = rw (add-zero acc) refl
split_append load s acc (x ∷ l) m =
    ap (λ r. (floor_part (pos load) s (acc + x) -ℤ floor_part (pos load) s acc) ∷ r)
    (split_append load s (acc + x) l m ∙ ap (λ n. split load s (acc + x) l ++ split load s n m) (add_assoc acc x (total l)))

pub split_length : (load s acc : ℕ) (l : List ℕ) → length (split load s acc l) ≡ length l
unfolding split
split_length load s acc [] = refl
split_length load s acc (x ∷ l) = ap suc (split_length load s (acc + x) l)
