-- The split of a load by an array of weights, turn by turn. Assumes nothing.
use mathlib.Core.Path.{◌≡◌, refl, ◌∙◌, ap}
use mathlib.Core.List.{List, [], ◌∷◌, ◌++◌, append_assoc}
use Prim.Native.Nat.{ℕ, zero, suc, ◌+◌, ◌-◌, ◌*◌, ◌/◌, ◌≤◌, ◌<◌}
use native.Mathlib.Omega.{arith}
use native.Mathlib.Nat.{mul-le-mul, mul-le-mul_left, mul_comm, mul-zero, zero-div, div-le_of_le-mul, div-mul-le_self, le-div_iff_mul-le, add-zero}
use native.Mathlib.Numerals.{add-one}
use lib.ListN.{length, get_or, take, drop, set}
use lib.Seq.{take-suc, drop-cons, set_at, take_all, length-take-le}
use lib.IntN.{ℤ, pos, ◌-ℤ◌}
use Rattle.std.specs.List.{sum}
use Rattle.std.proofs.lemmas.List.Recursion.{is_sum_by}
use Rattle.numbers.specs.Shares.{floor_part}
use Rattle.numbers.proofs.Integers.{eq_z, minus_fact}
use Rattle.daybook.specs.Queries.{total, split}
use Rattle.lists.proofs.Splits.{total_append, split_append, split_length}
use Rattle.allocate.specs.InnerParts.{most_total}

-- ---- the sum of the first k weights

-- it is std's sum
pub total_sum : (l : List ℕ) → total l ≡ sum l
unfolding total
total_sum l = is_sum_by total (λ x. x) refl (λ x xs. refl) l

sum_snoc : (l : List ℕ) (x : ℕ) → total (l ++ (x ∷ [])) ≡ total l + x
unfolding total
sum_snoc l x = total_append l (x ∷ []) ∙ ap (λ z. total l + z) (add-zero x)

pub sum_step : (ws : List ℕ) (k : ℕ) → k < length ws → total (take (k + 1) ws) ≡ total (take k ws) + get_or ws k 0
sum_step ws k h = rw (add-one k, take-suc ws k 0 h) (sum_snoc (take k ws) (get_or ws k 0))

pub sum_none : (ws : List ℕ) → total (take 0 ws) ≡ 0
unfolding total
sum_none ws = refl

sum_up : (ws : List ℕ) (k n : ℕ) → k ≤ n → total (take k ws) ≤ total (take n ws)
unfolding total
sum_up [] zero n h = omega arith
sum_up [] (suc k) zero h = absurd (omega arith)
sum_up [] (suc k) (suc n) h = omega arith
sum_up (w ∷ ws) zero n h = omega arith
sum_up (w ∷ ws) (suc k) zero h = absurd (omega arith)
sum_up (w ∷ ws) (suc k) (suc n) h = omega (arith, sum_up ws k n (omega arith))

pub next_small : (ws : List ℕ) (k n s acc : ℕ) → k < n → length ws ≡ n → s ≡ total ws → acc ≡ total (take k ws) → acc + get_or ws k 0 ≤ s
next_small ws k n s acc h l e f =
    let whole : total (take n ws) ≡ total ws = ap total (take_all n ws (omega arith)) in
    omega (arith, sum_step ws k (omega arith), sum_up ws (k + 1) n (omega arith))

-- ---- floors

pub part_small : (load acc s : ℕ) → 0 < s → acc ≤ s → (load * acc) / s ≤ load
part_small load acc s p h = div-le_of_le-mul s (omega (arith, mul-le-mul_left load h, mul_comm s load))

pub part_up : (load acc x s : ℕ) → 0 < s → (load * acc) / s ≤ (load * (acc + x)) / s
part_up load acc x s p =
    (le-div_iff_mul-le p).1 (omega (arith, div-mul-le_self (load * acc) s, mul-le-mul_left load (grows acc x)))
  where
    grows : (a b : ℕ) → a ≤ a + b
    grows a b = omega arith

-- products are below 2^63
pub product_small : (load acc : ℕ) → load ≤ 3032000000 → acc ≤ most_total → load * acc ≤ 6209536000000000000
product_small load acc a b = omega (arith, mul-le-mul a b)

pub nothing_yet : (load s : ℕ) → (load * 0) / s ≡ 0
nothing_yet load s = rw (mul-zero load) (zero-div s)

pub share_is : (load s acc x : ℕ) → 0 < s → pos ((load * (acc + x)) / s - (load * acc) / s) ≡ floor_part (pos load) s (acc + x) -ℤ floor_part (pos load) s acc
unfolding floor_part
share_is load s acc x p =
    eq_z _ _ (omega (arith, part_up load acc x s p, minus_fact (pos ((load * (acc + x)) / s)) (pos ((load * acc) / s))))

-- ---- the split, one more at the end

split_snoc : (load s acc : ℕ) (l : List ℕ) (x : ℕ) → split load s acc (l ++ (x ∷ [])) ≡ split load s acc l ++ ((floor_part (pos load) s (acc + total l + x) -ℤ floor_part (pos load) s (acc + total l)) ∷ [])
unfolding split
split_snoc load s acc l x = split_append load s acc l (x ∷ [])

-- the first k shares stand, and a turn puts one more
pub split_step : (load s : ℕ) (ws : List ℕ) (out l : List ℤ) (k : ℕ) → 0 < s → k < length ws → k < length out
    → l ≡ split load s 0 (take k ws) ++ drop k out
    → set l k (pos ((load * (total (take k ws) + get_or ws k 0)) / s - (load * total (take k ws)) / s)) ≡ split load s 0 (take (k + 1) ws) ++ drop (k + 1) out
split_step load s ws out l k p h g e =
    let z : 0 + total (take k ws) ≡ total (take k ws) = omega arith in
    rw (e, drop-cons out k (pos 0) g, add-one k, take-suc ws k 0 h, split_snoc load s 0 (take k ws) (get_or ws k 0), z, append_assoc, share_is load s (total (take k ws)) (get_or ws k 0) p)
    (set_at (split load s 0 (take k ws)) _ (drop (suc k) out) _ k (split_length load s 0 (take k ws) ∙ length-take-le k ws (omega arith)))
