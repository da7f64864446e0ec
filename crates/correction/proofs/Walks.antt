-- A part's registrations by index, as the code walks them. Assumes nothing.
use mathlib.Core.Path.{◌≡◌, refl, sym, ◌∙◌, ap, subst}
use mathlib.Core.Bool.{Bool, true, false, ◌&&◌, ◌||◌, cond}
use mathlib.Core.List.{List, [], ◌∷◌, ◌++◌}
use Prim.Native.Nat.{ℕ, zero, suc, ◌+◌, ◌-◌, ◌*◌, ◌≤◌, ◌<◌}
use native.Mathlib.Omega.{arith}
use native.Mathlib.Numerals.{add-one}
use lib.Dec.{ltb, eqb}
use lib.ListN.{length, get_or, take, drop, drop_of_length-le, length-append}
use lib.Seq.{take-suc, drop-cons}
use lib.IntN.{ℤ}
use Rattle.std.specs.Prelude.{Option, Some, None, MatchOption}
use Rattle.std.specs.Bool.{MatchBool}
use Rattle.std.specs.Option.{unwrap_or}
use Rattle.std.specs.List.{range_with_len, HoldsAt, AllWithin}
use Rattle.std.proofs.Common.{zero-add}
use Rattle.std.proofs.lemmas.List.FromFn.{length-range_with_len, get_or-range_with_len}
use borrow.Author.Tests.{ne_eqb, lt-ltb, le-ltb}
use Rattle.daybook.specs.Book.{last_of}
use Rattle.lists.specs.Lists.{next_after}
use Rattle.lists.specs.InnerSteps.{latest_of, some_user, earlier, user_from}
use Rattle.lists.proofs.Registrations.{latest_append}
use Rattle.layout.specs.Layout.{num_at, point_from}
use Rattle.layout.specs.InnerParts.{SoundPart}
use Rattle.layout.proofs.Numbers.{few}
use Rattle.layout.proofs.Cells.{no_reg, cell_reg_start, cell_reg_user, place_regs}
use Rattle.layout.proofs.SoundParts.{part_well, part_laid}
use Rattle.correction.specs.InnerParts.{start_of}

-- ---- the places of a sound part

module _ {p : List ℤ} (s : SoundPart p) where
  pub count_is_lem : num_at p 4 ≡ length (point_from p).regs
  count_is_lem = place_regs (part_well s) (part_laid s)

  pub start_at : (k : ℕ) → k < 8 → num_at p (16 + 2 * k) ≡ (get_or (point_from p).regs k no_reg).0
  start_at k h = ap (λ p. num_at p (16 + 2 * k)) (sym (part_laid s)) ∙ cell_reg_start (few (part_well s)) k h

  pub user_at : (k : ℕ) → k < 8 → num_at p (16 + 2 * k + 1) ≡ (get_or (point_from p).regs k no_reg).1
  user_at k h = ap (λ p. num_at p (16 + 2 * k + 1)) (sym (part_laid s)) ∙ cell_reg_user (few (part_well s)) k h

-- ---- the registrations that start before day d

module _ (d : ℕ) where
  started_is : (l : List (ℕ × ℕ)) (k : ℕ) → k ≤ length l → ((j : ℕ) → j < k → (get_or l j no_reg).0 < d)
      → (k < length l → d ≤ (get_or l k no_reg).0) → k ≡ length (earlier start_of d l)
  unfolding earlier
  started_is [] k h before at = omega arith
  started_is (x ∷ l) zero h before at = rw (le-ltb x.0 d (at (omega arith)))
  started_is (x ∷ l) (suc k) h before at =
      rw (lt-ltb x.0 d (before 0 (omega arith)))
      (ap suc (started_is l k (omega arith) (λ j e. before (suc j) (omega arith)) (λ e. at (omega arith))))

  -- they are the first of the list
  pub earlier_first : (l : List (ℕ × ℕ)) → take (length (earlier start_of d l)) l ≡ earlier start_of d l
  unfolding earlier
  earlier_first [] = refl
  earlier_first (x ∷ l) = go (ltb x.0 d) (earlier_first l)
    where
      go : (t : Bool) → take (length (earlier start_of d l)) l ≡ earlier start_of d l
          → take (length (cond t (x ∷ earlier start_of d l) [])) (x ∷ l) ≡ cond t (x ∷ earlier start_of d l) []
      go true ih = ap (λ m. x ∷ m) ih
      go false ih = refl

-- the last of the first k: none, or the one before k
pub latest_of_none : (l : List (ℕ × ℕ)) (k u : ℕ) → k ≡ 0 → 1 ≤ u → eqb (latest_of (take k l)).1 u ≡ false
unfolding latest_of last_of
latest_of_none l k u e h = ap (λ k. eqb (latest_of (take k l)).1 u) e ∙ ne_eqb 0 u (λ (z : 0 ≡ u). omega arith)

pub latest_of_first : (l : List (ℕ × ℕ)) (k : ℕ) → 1 ≤ k → k - 1 < length l → latest_of (take k l) ≡ get_or l (k - 1) no_reg
latest_of_first l k low h =
    let e : k ≡ suc (k - 1) = omega arith in
    ap (λ k. latest_of (take k l)) e ∙ ap latest_of (take-suc l (k - 1) no_reg h)
    ∙ latest_append (take (k - 1) l) (get_or l (k - 1) no_reg)

-- the last before day d, by how many there are
pub last_before : (d u : ℕ) (l : List (ℕ × ℕ)) (k : ℕ) → k ≡ length (earlier start_of d l)
    → eqb (latest_of (take k l)).1 u ≡ eqb (latest_of (earlier start_of d l)).1 u
last_before d u l k e = ap (λ m. eqb (latest_of m).1 u) (ap (λ k. take k l) e ∙ earlier_first d l)

-- how many a User from day d on leaves, by whether the last before it is the User's
module _ (d u : ℕ) (l : List (ℕ × ℕ)) where
  abbrev before : List (ℕ × ℕ)
  before = earlier start_of d l

  pub repeats : eqb (latest_of before).1 u ≡ true → user_from d u l ≡ before
  unfolding user_from
  repeats e = rw e

  pub adds : eqb (latest_of before).1 u ≡ false → user_from d u l ≡ before ++ ((d, u) ∷ [])
  unfolding user_from
  adds e = rw e

  pub adds_one : eqb (latest_of before).1 u ≡ false → length (user_from d u l) ≡ length before + 1
  adds_one e = ap length (adds e) ∙ length-append before ((d, u) ∷ [])

-- ---- a User who has a day from d on

module _ (test : ℕ → Bool) (d : ℕ) where
  abbrev Has : List (ℕ × ℕ) → Bool → ℕ → Type 0
  Has l b k = (next_after d (drop (suc k) l) && test (get_or l k no_reg).1) ≡ b

  some_one : (l : List (ℕ × ℕ)) (k : ℕ) → k < length l → Has l true k → some_user test d l ≡ true
  unfolding some_user
  some_one [] k h e = absurd (omega arith)
  some_one (x ∷ l) zero h e = rw e
  some_one (x ∷ l) (suc k) h e = go (next_after d l && test x.1) (some_one l k (omega arith) e)
    where
      go : (b : Bool) → some_user test d l ≡ true → (b || some_user test d l) ≡ true
      go true e = refl
      go false e = e

  pub some_none : (l : List (ℕ × ℕ)) → ((k : ℕ) → k < length l → Has l false k) → some_user test d l ≡ false
  unfolding some_user
  some_none [] h = refl
  some_none (x ∷ l) h = rw (h 0 (omega arith)) (some_none l (λ k e. h (suc k) (omega arith)))

-- the next registration
pub next_none : (d : ℕ) (l : List (ℕ × ℕ)) (k : ℕ) → length l ≤ k → next_after d (drop k l) ≡ true
next_none d l k h = rw (drop_of_length-le l h)

pub next_at : (d : ℕ) (l : List (ℕ × ℕ)) (k : ℕ) → k < length l → next_after d (drop k l) ≡ ltb d (get_or l k no_reg).0
next_at d l k h = rw (drop-cons l k no_reg h)

-- ---- what the searches of all registrations find

module _ {p : List ℤ} (s : SoundPart p) (d n : ℕ) (e : n ≡ num_at p 4) where
  rows_are : n ≡ length (point_from p).regs
  rows_are = e ∙ count_is_lem s

  low : (k : ℕ) → k < n → k < 8
  low k h = omega (arith, few (part_well s), rows_are)

  abbrev pub StartsBy : ℕ → Type 0
  StartsBy k = d ≤ num_at p (16 + 2 * k)

  started : (k : ℕ) → k ≤ n → ((j : ℕ) → j < k → StartsBy j → ⊥) → (k < n → StartsBy k)
      → k ≡ length (earlier start_of d (point_from p).regs)
  started k h before at =
      started_is d (point_from p).regs k (omega (arith, rows_are))
      (λ j l. omega (arith, before j l, start_at s j (low j (omega arith))))
      (λ l. omega (arith, at (omega (arith, rows_are)), start_at s k (low k (omega (arith, rows_are)))))

  pub started_found : (r : Option ℕ)
      → MatchOption r ((k : ℕ) → 0 ≤ k → k < n → StartsBy k → ⊥)
      (λ k. (0 ≤ k) × (k < n) × StartsBy k × ((j : ℕ) → 0 ≤ j → j < k → StartsBy j → ⊥))
      → (unwrap_or r n ≡ length (earlier start_of d (point_from p).regs)) × (unwrap_or r n ≤ num_at p 4)
  started_found None before =
      (started n (omega arith) (λ j h. before j (omega arith) h) (λ h. absurd (omega arith)), omega arith)
  started_found (Some k) f =
      (started k (omega (arith, f.1)) (λ j h. f.3 j (omega arith) h) (λ h. f.2), omega (arith, f.1))

  abbrev pub HasDay : ℕ → Bool → ℕ → Type 0
  HasDay user b k = (next_after d (drop (k + 1) (point_from p).regs) && eqb user (num_at p (16 + 2 * k + 1))) ≡ b

  has : (user k : ℕ) (b : Bool) → k < n → HasDay user b (get_or (range_with_len 0 n) k 0)
      → Has (eqb user) d (point_from p).regs b k
  has user k b h f =
      let at : get_or (range_with_len 0 n) k 0 ≡ k = get_or-range_with_len 0 n k 0 h ∙ zero-add k in
      rw (← add-one k, ← user_at s k (low k h)) (subst (HasDay user b) at f)

  pub has_found : (user : ℕ) (r : Bool)
      → MatchBool r
      ((k : ℕ) × (k < length (range_with_len 0 n)) × HoldsAt (HasDay user true) (range_with_len 0 n) k)
      (AllWithin (HasDay user false) (range_with_len 0 n) 0 (length (range_with_len 0 n)))
      → r ≡ some_user (eqb user) d (point_from p).regs
  has_found user true (k, h, f) =
      let low : k < n = omega (arith, length-range_with_len 0 n) in
      sym (some_one (eqb user) d (point_from p).regs k (omega (arith, rows_are)) (has user k true low (f 0)))
  has_found user false f =
      sym (some_none (eqb user) d (point_from p).regs
      (λ k h. let low : k < n = omega (arith, rows_are) in
      has user k false low (f k 0 (omega arith) (omega (arith, length-range_with_len 0 n)))))
