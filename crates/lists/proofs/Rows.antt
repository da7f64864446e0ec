-- Refusal rows and the answer that they decide: what a ladder of early returns, and a step that may be sent back, need.
use mathlib.Core.Path.{◌≡◌, refl, sym, ◌∙◌, ap}
use mathlib.Core.Bool.{Bool, true, false, ◌&&◌, cond}
use mathlib.Core.List.{List, [], ◌∷◌, ◌++◌}
use Prim.Native.Nat.{ℕ, zero, suc, ◌≤◌, ◌<◌}
use native.Mathlib.Nat.{suc-min-suc}
use native.Mathlib.Omega.{arith}
use lib.Dec.{leb, ltb}
use lib.ListN.{replicate}
use lib.IntN.{pos}
use borrow.Author.Tests.{leb-true, ltb-true, lt-ltb}
use Rattle.numbers.proofs.Bools.{both, join}
use Rattle.daybook.specs.Notices.{Row, smaller, least, Numbers, decide}

-- ---- the lowest row that applies

-- Every number of the rows is above n. On rows with written numbers this computes.
unfoldable pub above : ℕ → List Row → Bool
above n [] = true
above n (r ∷ rs) = ltb n r.0 && above n rs

pub above_append : (n : ℕ) (rs ss : List Row) → above n rs ≡ true → above n ss ≡ true → above n (rs ++ ss) ≡ true
unfolding above
above_append n [] ss h k = k
above_append n (r ∷ rs) ss h k =
    let b : (ltb n r.0 ≡ true) × (above n rs ≡ true) = both (ltb n r.0) (above n rs) h in
    rw b.0 (above_append n rs ss b.1 k)

-- Rows above n are above less.
pub above_less : (m n : ℕ) (rs : List Row) → m ≤ n → above n rs ≡ true → above m rs ≡ true
unfolding above
above_less m n [] l h = refl
above_less m n (r ∷ rs) l h =
    let b : (ltb n r.0 ≡ true) × (above n rs ≡ true) = both (ltb n r.0) (above n rs) h in
    join (lt-ltb m r.0 (omega (arith, ltb-true n r.0 b.0))) (above_less m n rs l b.1)

-- Every number of the rows is at most n. This computes too.
unfoldable pub up_to : ℕ → List Row → Bool
up_to n [] = true
up_to n (r ∷ rs) = leb r.0 n && up_to n rs

pub up_to_append : (n : ℕ) (rs ss : List Row) → up_to n rs ≡ true → up_to n ss ≡ true → up_to n (rs ++ ss) ≡ true
unfolding up_to
up_to_append n [] ss h k = k
up_to_append n (r ∷ rs) ss h k =
    let b = both (leb r.0 n) (up_to n rs) h in join b.0 (up_to_append n rs ss b.1 k)

pub up_to_least : (n : ℕ) (rs : List Row) → up_to n rs ≡ true → least rs ≤ n
unfolding up_to least
up_to_least n [] h = omega arith
up_to_least n (r ∷ rs) h =
    let b = both (leb r.0 n) (up_to n rs) h in
    go r.1 (least rs) (leb-true r.0 n b.0) (up_to_least n rs b.1)
  where
    go : (t : Bool) (l : ℕ) → r.0 ≤ n → l ≤ n → cond t (smaller r.0 l) l ≤ n
    go true zero k i = k
    go true (suc l) k i = omega arith
    go false l k i = i

-- The lowest of rows above n is 0, for none, or above n.
above_least : (n : ℕ) (rs : List Row) → above n rs ≡ true → (m : ℕ) → least rs ≡ suc m → n < suc m
unfolding above least
above_least n [] h m e = absurd (omega arith)
above_least n (r ∷ rs) h m e =
    let b : (ltb n r.0 ≡ true) × (above n rs ≡ true) = both (ltb n r.0) (above n rs) h in
    go r.1 (least rs) refl (ltb-true n r.0 b.0) (above_least n rs b.1) e
  where
    go : (t : Bool) (l : ℕ) → least rs ≡ l → n < r.0 → ((m : ℕ) → least rs ≡ suc m → n < suc m) → cond t (smaller r.0 l) l ≡ suc m → n < suc m
    go true zero q k ih e = omega arith
    go true (suc l) q k ih e = let g : n < suc l = ih l q in omega arith
    go false l q k ih e = ih m (q ∙ e)

smaller_first : (n : ℕ) (rs : List Row) → above n rs ≡ true → smaller n (least rs) ≡ n
smaller_first n rs h = go (least rs) refl
  where
    go : (l : ℕ) → least rs ≡ l → smaller n l ≡ n
    go zero q = refl
    go (suc l) q = let g : n < suc l = above_least n rs h l q in omega arith

-- A row that applies, with only larger numbers behind it, is the answer.
pub least_first : (n : ℕ) (b : Bool) (rs : List Row) → above n rs ≡ true → b ≡ true → least ((n, b) ∷ rs) ≡ n
unfolding least
least_first n b rs h e = rw e (smaller_first n rs h)

-- A row that doesn't apply is passed over.
pub least_skip : (n : ℕ) (b : Bool) (rs : List Row) → b ≡ false → least ((n, b) ∷ rs) ≡ least rs
unfolding least
least_skip n b rs e = rw e

-- Where the rows leave 0, the first doesn't apply, and the others leave 0.
pub least_none : (k : ℕ) (b : Bool) (rs : List Row) → least ((suc k, b) ∷ rs) ≡ 0 → (b ≡ false) × (least rs ≡ 0)
unfolding least
least_none k b rs e = go b (least rs) e
  where
    go : (t : Bool) (l : ℕ) → cond t (smaller (suc k) l) l ≡ 0 → (t ≡ false) × (l ≡ 0)
    go true zero e = absurd (omega arith)
    go true (suc l) e = absurd (omega arith)
    go false l e = (refl, e)

-- The lower of two answers, of which 0 is none.
abbrev pub lower : ℕ → ℕ → ℕ
lower zero m = m
lower (suc n) m = smaller (suc n) m

lower_assoc : (k n m : ℕ) → smaller (suc k) (lower n m) ≡ lower (smaller (suc k) n) m
lower_assoc k zero m = refl
lower_assoc k (suc n) zero = rw (suc-min-suc k n)
lower_assoc k (suc n) (suc m) = rw (suc-min-suc k n, suc-min-suc n m) (omega arith)

-- Rows joined from two ladders answer the lower of both.
pub least_append : (rs ss : List Row) → above 0 rs ≡ true → least (rs ++ ss) ≡ lower (least rs) (least ss)
unfolding least above
least_append [] ss h = refl
least_append ((zero, b) ∷ rs) ss h = let z : ◌≡◌ {A = ℕ} 0 1 = cc in absurd (omega arith)
least_append ((suc k, b) ∷ rs) ss h = go b (least_append rs ss (both (ltb 0 (suc k)) (above 0 rs) h).1)
  where
    go : (t : Bool) → least (rs ++ ss) ≡ lower (least rs) (least ss) → least ((suc k, t) ∷ (rs ++ ss)) ≡ lower (least ((suc k, t) ∷ rs)) (least ss)
    go true ih = ap (smaller (suc k)) ih ∙ lower_assoc k (least rs) (least ss)
    go false ih = ih

-- Where none of the first rows applies, the others answer.
pub least_append_none : (rs ss : List Row) → above 0 rs ≡ true → least rs ≡ 0 → least (rs ++ ss) ≡ least ss
least_append_none rs ss h e = least_append rs ss h ∙ ap (λ n. lower n (least ss)) e

-- Where one of the first rows applies and all later numbers are larger, it is the answer.
pub least_append_some : (rs ss : List Row) (n : ℕ) → above 0 rs ≡ true → least rs ≡ suc n → above (suc n) ss ≡ true → least (rs ++ ss) ≡ suc n
least_append_some rs ss n h e k = least_append rs ss h ∙ ap (λ n. lower n (least ss)) e ∙ smaller_first (suc n) ss k

-- Where joined rows leave 0, both parts do.
pub least_append_both : (rs ss : List Row) → above 0 rs ≡ true → least (rs ++ ss) ≡ 0 → (least rs ≡ 0) × (least ss ≡ 0)
least_append_both rs ss h e = go (least rs) (least ss) (sym (least_append rs ss h) ∙ e)
  where
    go : (n m : ℕ) → lower n m ≡ 0 → (n ≡ 0) × (m ≡ 0)
    go zero m e = (refl, e)
    go (suc n) zero e = absurd (omega arith)
    go (suc n) (suc m) e = absurd (omega arith)

-- ---- the answer

module _ {X : Type 0} (k : ℕ) (x : X) (w : Numbers × X) where
  -- no row applies: the fields, and what comes with them
  pub decide_taken : decide 0 k x w ≡ (pos 0 ∷ w.0, w.1)
  unfolding decide
  decide_taken = refl

  -- row r + 1 sends the call back: its number, zeros for the fields, all as it was
  pub decide_refused : (r : ℕ) → decide (suc r) k x w ≡ (pos (suc r) ∷ replicate k (pos 0), x)
  unfolding decide
  decide_refused r = refl

  -- what is sent back changes nothing
  pub refused : (n : ℕ) → 1 ≤ n → (decide n k x w).1 ≡ x
  unfolding decide
  refused zero h = absurd (omega arith)
  refused (suc r) h = refl

  -- what holds before, and after where no row applies, holds of the result
  pub decide_keeps : (P : X → Type 0) (n : ℕ) → P x → (n ≡ 0 → P w.1) → P (decide n k x w).1
  unfolding decide
  decide_keeps P zero p h = h refl
  decide_keeps P (suc r) p h = p

-- A call on f of the state is f of the call on the state; what comes with the fields is asked only where no row applies.
module _ {X Y : Type 0} (f : X → Y) (n k : ℕ) (x : X) (w : Numbers × X) where
  pub decide_map_where : (v : Numbers × Y) → (n ≡ 0 → v ≡ (w.0, f w.1)) → decide n k (f x) v ≡ ((decide n k x w).0, f (decide n k x w).1)
  unfolding decide
  decide_map_where v e = go n e
    where
      go : (n : ℕ) → (n ≡ 0 → v ≡ (w.0, f w.1)) → decide n k (f x) v ≡ ((decide n k x w).0, f (decide n k x w).1)
      go zero e = ap {B = Numbers × Y} (λ v. (pos 0 ∷ v.0, v.1)) (e refl)
      go (suc r) e = refl

  pub decide_map : decide n k (f x) (w.0, f w.1) ≡ ((decide n k x w).0, f (decide n k x w).1)
  decide_map = decide_map_where _ (λ e. refl)
