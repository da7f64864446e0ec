-- Arrays of 32 with a place for each point of a table. Assumes nothing.
use mathlib.Core.Path.{◌≡◌, refl, sym, ◌∙◌, ap, ap₂, subst}
use mathlib.Core.Bool.{Bool, true, false}
use denote.Param.Members.{Mut, Called}
use borrow.Author.Tests.{eqb-true, eqb-false}
use lib.Dec.{eqb}
use Rattle.std.specs.Array.{IsFromFnResultFrom, IsFromFnResult}
use Rattle.std.specs.List.{range_with_len}
use Rattle.std.proofs.lemmas.List.FromFn.{fill_by_all}
use mathlib.Core.List.{List, [], ◌∷◌, ◌++◌, map, append_assoc}
use Prim.Native.Nat.{ℕ, zero, suc, ◌+◌, ◌-◌, ◌*◌, ◌≤◌, ◌<◌}
use native.Mathlib.Omega.{arith}
use lib.ListN.{length, get_or, set, replicate}
use lib.Seq.{set_at}
use lib.IntN.{ℤ}
use Rattle.daybook.specs.declared.Edition.{Edition}
use Rattle.daybook.specs.Book.{Point}
use Rattle.daybook.specs.Queries.{total}
use Rattle.layout.specs.Layout.{Fits, num_at, table_book}
use Rattle.layout.specs.Sound.{sound}
use Rattle.point.proofs.Rows.{rows_at, length_rows, rows_join}
use Rattle.table.specs.declared.register.Register.{Register}
use Rattle.table.specs.InnerRegisters.{book, number_of_points}
use Rattle.table.proofs.Laws.{sound_long}
use Rattle.readings.proofs.Points.{part_point, points_are}
use Rattle.allocate.specs.InnerParts.{padded}

map_rows : {A B : Type 0} (f : A → B) (p : ℕ → A) (i n : ℕ) → map f (rows_at p i n) ≡ rows_at (λ k. f (p k)) i n
unfolding rows_at
map_rows f p i zero = refl
map_rows f p i (suc n) = ap (λ l. f (p i) ∷ l) (map_rows f p (suc i) n)

-- the first i places are filled
abbrev pub filled_to : (ℕ → ℕ) → ℕ → List ℕ
filled_to f i = rows_at f 0 i ++ replicate (32 - i) 0

pub none_filled : (f : ℕ → ℕ) → replicate 32 0 ≡ filled_to f 0
unfolding rows_at
none_filled f = refl

one_row_lem : (f : ℕ → ℕ) (i : ℕ) → rows_at f 0 i ++ (f i ∷ []) ≡ rows_at f 0 (i + 1)
unfolding rows_at
one_row_lem f i = rows_join f i 1 0 i (omega arith)

-- a turn fills one more
pub one_filled : (f : ℕ → ℕ) (i : ℕ) → i < 32 → set (filled_to f i) i (f i) ≡ filled_to f (i + 1)
one_filled f i h =
    let e : 32 - i ≡ suc (32 - (i + 1)) = omega arith in
    ap (λ k. set (rows_at f 0 i ++ replicate k 0) i (f i)) e
    ∙ set_at (rows_at f 0 i) 0 (replicate (32 - (i + 1)) 0) (f i) i (length_rows f 0 i)
    ∙ sym (append_assoc (rows_at f 0 i) (f i ∷ []) (replicate (32 - (i + 1)) 0))
    ∙ ap (λ l. l ++ replicate (32 - (i + 1)) 0) (one_row_lem f i)

-- there is a place for each point
pub points_few_lem : (ed : Edition) → Fits ed → (t : List ℤ) → sound ed t ≡ true → length (table_book ed t).points ≤ 32
points_few_lem ed f t s =
    let is : length (table_book ed t).points ≡ num_at t 0 = ap length (points_are ed t) ∙ length_rows (part_point ed t) 0 (num_at t 0) in
    omega (arith, (sound_long ed t s).1, f.few)

module _ (r : Register) where
  abbrev point_at : ℕ → Point
  point_at = part_point r.edition r.table.now

  -- at the end there is a number for each point
  pub all_filled_lem : (f : Point → ℕ) → filled_to (λ i. f (point_at i)) (number_of_points r) ≡ padded (map f (book r).points)
  unfolding padded
  all_filled_lem f =
      let is : rows_at (λ i. f (point_at i)) 0 (number_of_points r) ≡ map f (book r).points = sym (ap (map f) (points_are r.edition r.table.now) ∙ map_rows f point_at 0 (number_of_points r)) in
      ap₂ (λ l n. l ++ replicate (32 - n) 0) is (sym (length_rows (λ i. f (point_at i)) 0 (number_of_points r)) ∙ ap length is)

-- a number that is put adds at most itself
pub put_adds : (l : List ℕ) (i x : ℕ) → total (set l i x) ≤ total l + x
unfolding total
put_adds [] i x = omega arith
put_adds (y ∷ l) zero x = omega arith
put_adds (y ∷ l) (suc i) x = omega (arith, put_adds l i x)

-- what n weights of parts of s numbers add up to at most
pub spread : (s n : ℕ) → (4000000 + 250000 * s) * n ≡ 4000000 * n + 250000 * (s * n)
spread s n = omega arith

-- ---- an array made from a function of the index, which each call leaves as it was

module _ {F B : Type 0} (g : Mut F (ℕ × Unit {0}) B) (f : F) (h : ℕ → B)
    (turn : (k : ℕ) (y : B) (q : F) → Called g f (k, tt) y q → (q ≡ f) × (y ≡ h k)) where
  each_at : (ys : List B) (n i k : ℕ) (s : F) (d : B) → s ≡ f → IsFromFnResultFrom g s ys i n → i ≤ k → k < i + n → get_or ys k d ≡ h k
  each_at ys zero i k s d e r l m = absurd (omega arith)
  each_at ys (suc n) i k s d e r l m =
      let c = turn i r.1 r.0 (subst (λ f. Called g f (i, tt) r.1 r.0) e r.3) in
      go (eqb i k) refl c (each_at ys n (i + 1) k r.0 d c.0 r.4)
    where
      go : (t : Bool) → eqb i k ≡ t → (r.0 ≡ f) × (r.1 ≡ h i) → (i + 1 ≤ k → k < i + 1 + n → get_or ys k d ≡ h k) → get_or ys k d ≡ h k
      go true q c ih = let is : k ≡ i = sym (eqb-true i k q) in rw is (r.2.1 d ∙ c.1)
      go false q c ih = let ne : ¬ (i ≡ k) = eqb-false i k q in ih (omega arith) (omega arith)

  pub made_by : (ys : List B) (n : ℕ) → B → IsFromFnResult g f ys n → ys ≡ map h (range_with_len 0 n)
  made_by ys n d r = fill_by_all h ys n d r.long (λ k l. each_at ys n 0 k f d refl r.each (omega arith) (omega arith))
