-- A part's rows by index: what is read from a part are lists of rows. Assumes nothing.
use mathlib.Core.Path.{◌≡◌, refl, ap, ap₂, ◌∙◌}
use mathlib.Core.List.{List, [], ◌∷◌, ◌++◌, map}
use Prim.Native.Nat.{ℕ, zero, suc, ◌+◌, ◌*◌, ◌<◌}
use native.Mathlib.Omega.{arith}
use lib.ListN.{length, get_or, drop}
use lib.Seq.{get_or-drop, drop-drop}
use lib.IntN.{ℤ, pos}
use Rattle.numbers.specs.Naturals.{nat_of}
use Rattle.daybook.specs.declared.Edition.{Edition}
use Rattle.daybook.specs.Book.{Entry}
use Rattle.layout.specs.Layout.{place_of, part_of, num_at, on_of, regs_from, offs_from, recs_from, point_from, points_from, register_of}
use Rattle.layout.proofs.Mirns.{next}
use Rattle.point.specs.InnerTests.{reg_row, span_row, rec_row}

-- f k, f (k + 1), .., n of them
unfoldable pub rows_at : {A : Type 0} → (ℕ → A) → ℕ → ℕ → List A
rows_at f k zero = []
rows_at f k (suc n) = f k ∷ rows_at f (suc k) n

pub length_rows : {A : Type 0} (f : ℕ → A) (k n : ℕ) → length (rows_at f k n) ≡ n
unfolding rows_at
length_rows f k zero = refl
length_rows f k (suc n) = ap suc (length_rows f (suc k) n)

pub rows_join : {A : Type 0} (f : ℕ → A) (m n k j : ℕ) → k + m ≡ j → rows_at f k m ++ rows_at f j n ≡ rows_at f k (m + n)
unfolding rows_at
rows_join f zero n k j e =
    let x : j ≡ k = omega arith in
    let y : n ≡ 0 + n = omega arith in
    ap₂ (rows_at f) x y
rows_join f (suc m) n k j e =
    let q : suc (m + n) ≡ suc m + n = omega arith in
    ap (λ l. f k ∷ l) (rows_join f m n (suc k) j (omega arith)) ∙ ap (rows_at f k) q

pub get_d_rows : {A : Type 0} (f : ℕ → A) (n k i : ℕ) (d : A) → i < n → get_or (rows_at f k n) i d ≡ f (k + i)
unfolding rows_at
get_d_rows f zero k i d h = absurd (omega arith)
get_d_rows f (suc n) k zero d h = let e : k ≡ k + 0 = omega arith in ap f e
get_d_rows f (suc n) k (suc i) d h =
    let e : suc k + i ≡ k + suc i = omega arith in get_d_rows f n (suc k) i d (omega arith) ∙ ap f e

pub map_rows : {A B : Type 0} (g : A → B) (f : ℕ → A) (k n : ℕ) → map g (rows_at f k n) ≡ rows_at (λ i. g (f i)) k n
unfolding rows_at
map_rows g f k zero = refl
map_rows g f k (suc n) = ap (λ l. g (f k) ∷ l) (map_rows g f (suc k) n)

-- the points of a table, by their parts
module _ (ed : Edition) (t : List ℤ) where
  points_from_lem : (n i : ℕ) → points_from ed n (drop (place_of ed i) t) ≡ rows_at (λ i. point_from (part_of ed t i)) i n
  unfolding points_from rows_at part_of
  points_from_lem zero i = refl
  points_from_lem (suc n) i =
      ap (λ l. point_from (part_of ed t i) ∷ l) (ap (points_from ed n) (next ed t i) ∙ points_from_lem n (suc i))

  pub points_read : (register_of ed t).points ≡ rows_at (λ i. point_from (part_of ed t i)) 0 (num_at t 0)
  unfolding register_of
  points_read =
      let z : 8 ≡ place_of ed 0 = omega arith in
      ap (λ a. points_from ed (num_at t 0) (drop a t)) z ∙ points_from_lem (num_at t 0) 0

-- ---- what is read

cell : (a j b : ℕ) (p : List ℤ) → a + j ≡ b → get_or (drop a p) j (pos 0) ≡ get_or p b (pos 0)
cell a j b p e = get_or-drop a p j (pos 0) ∙ ap (λ i. get_or p i (pos 0)) e

after : (a j b : ℕ) (p : List ℤ) → a + j ≡ b → drop j (drop a p) ≡ drop b p
after a j b p e = drop-drop j a p ∙ ap (λ i. drop i p) e

pub regs_read : (p : List ℤ) (n k : ℕ) → regs_from n (drop (16 + 2 * k) p) ≡ rows_at (reg_row p) k n
unfolding regs_from rows_at
regs_read p zero k = refl
regs_read p (suc n) k =
    let a : ℕ = 16 + 2 * k in
    ap₂ ◌∷◌ (ap₂ (λ x y. (nat_of x, nat_of y)) (cell a 0 a p (omega arith)) (cell a 1 (a + 1) p refl))
    (ap (regs_from n) (after a 2 (16 + 2 * suc k) p (omega arith)) ∙ regs_read p n (suc k))

pub offs_read : (p : List ℤ) (n k : ℕ) → offs_from n (drop (32 + 2 * k) p) ≡ rows_at (span_row p) k n
unfolding offs_from rows_at
offs_read p zero k = refl
offs_read p (suc n) k =
    let a : ℕ = 32 + 2 * k in
    ap₂ ◌∷◌ (ap₂ (λ x y. (nat_of x, on_of y)) (cell a 0 a p (omega arith)) (cell a 1 (a + 1) p refl))
    (ap (offs_from n) (after a 2 (32 + 2 * suc k) p (omega arith)) ∙ offs_read p n (suc k))

entry : ℤ → ℤ → ℤ → ℤ → Entry
entry s e x y = record { start = nat_of s; end = nat_of e; energy = x; type = nat_of y }

pub recs_read : (p : List ℤ) (n k : ℕ) → recs_from n (drop (48 + 4 * k) p) ≡ rows_at (rec_row p) k n
unfolding recs_from rows_at entry
recs_read p zero k = refl
recs_read p (suc n) k =
    let a : ℕ = 48 + 4 * k in
    ap₂ ◌∷◌
    (ap₂ (λ x y. entry x y (get_or (drop a p) 2 (pos 0)) (get_or (drop a p) 3 (pos 0))) (cell a 0 a p (omega arith)) (cell a 1 (a + 1) p refl)
    ∙ ap₂ (entry (get_or p a (pos 0)) (get_or p (a + 1) (pos 0))) (cell a 2 (a + 2) p refl) (cell a 3 (a + 3) p refl))
    (ap (recs_from n) (after a 4 (48 + 4 * suc k) p (omega arith)) ∙ recs_read p n (suc k))
