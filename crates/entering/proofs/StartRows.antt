-- The record that starts on a day, by its index: what the search tells of the list, and its loop. Assumes nothing.
use mathlib.Core.Path.{◌≡◌, refl, sym, ◌∙◌, ap}
use mathlib.Core.Bool.{Bool, true, false, not, cond}
use mathlib.Core.Option.{none, some}
use Rattle.std.specs.Prelude.{Option, Some, None, MatchOption}
use Rattle.std.specs.Option.{unwrap_or}
use mathlib.Core.List.{List, [], ◌∷◌, ◌++◌}
use Prim.Native.Nat.{ℕ, zero, suc, ◌+◌, ◌*◌, ◌≤◌, ◌<◌}
use native.Mathlib.Omega.{arith}
use lib.Dec.{eqb, eqb-zero-suc, eqb-suc-suc}
use lib.ListN.{length, get_or}
use lib.IntN.{ℤ}
use borrow.Author.Tests.{eqb-true, eqb-false, eq-eqb, ne_eqb, lt-ltb, le-ltb}
use Rattle.numbers.specs.Search.{is_some}
use Rattle.daybook.specs.Book.{Entry}
use Rattle.daybook.specs.Notices.{later_starts}
use Rattle.lists.specs.InnerSteps.{starting_on, earlier, replaced}
use Rattle.lists.proofs.Apart.{Apart, noentry, apart}
use Rattle.layout.specs.Layout.{num_at, point_from}
use Rattle.layout.specs.InnerParts.{SoundPart}
use Rattle.layout.proofs.Cells.{no_rec, place_recs}
use Rattle.layout.proofs.SoundParts.{part_well, part_laid}
use Rattle.entering.specs.InnerEntering.{row_in}
use Rattle.entering.proofs.Laying.{start_at}

-- ---- what the index tells

-- The record at index j, cut out of the list; what becomes of the list where another takes its place, what is before it
-- and what is behind it.
pub record RowAt (d : ℕ) (l : List Entry) (j : ℕ) : Type 0 where
  pub before : List Entry
  pub here : Entry
  pub after : List Entry
  pub is : l ≡ before ++ here ∷ after
  pub at : length before ≡ j
  pub starting : starting_on l d ≡ some here
  pub put : (x : Entry) → x.start ≡ d → replaced x l ≡ before ++ x ∷ after
  pub front : earlier (λ (y : Entry). y.start) d l ≡ before
  pub behind : later_starts d l ≡ length after

-- records of later days all start later
all_later : {hi lo : ℕ} {l : List Entry} → Apart hi lo l → (d : ℕ) → d < lo → later_starts d l ≡ length l
unfolding later_starts
all_later noentry d h = refl
all_later (apart {x = x} a b c r) d h = rw (lt-ltb d x.start (omega arith)) (omega (arith, all_later r d (omega arith)))

row_low : {hi lo : ℕ} {l : List Entry} → Apart hi lo l → (d : ℕ) → row_in l d < length l → lo ≤ d
unfolding row_in
row_low noentry d h = absurd (omega arith)
row_low {lo = lo} (apart {x = x} {l = l} a b c r) d h = go (eqb x.start d) refl h (row_low r d)
  where
    go : (t : Bool) → eqb x.start d ≡ t → cond t 0 (suc (row_in l d)) < suc (length l) → (row_in l d < length l → suc x.end ≤ d) → lo ≤ d
    go true e h ih = omega (arith, eqb-true x.start d e)
    go false e h ih = omega (arith, ih (omega arith))

pub row_at : {hi lo : ℕ} {l : List Entry} → Apart hi lo l → (d : ℕ) → row_in l d < length l → RowAt d l (row_in l d)
unfolding row_in starting_on replaced earlier later_starts
row_at noentry d h = absurd (omega arith)
row_at (apart {x = x} {l = l} a b c r) d h = go (eqb x.start d) refl h (row_at r d)
  where
    go : (t : Bool) → eqb x.start d ≡ t → cond t 0 (suc (row_in l d)) < suc (length l) → (row_in l d < length l → RowAt d l (row_in l d)) → RowAt d (x ∷ l) (cond t 0 (suc (row_in l d)))
    go true e h ih =
        let s : x.start ≡ d = eqb-true x.start d e in
        record {
          before = [];
          here = x;
          after = l;
          is = refl;
          at = refl;
          starting = rw e;
          put = λ y k. rw (eq-eqb x.start y.start (s ∙ sym k));
          front = rw (le-ltb x.start d (omega arith));
          behind = rw (le-ltb d x.start (omega arith)) (omega (arith, all_later r d (omega arith)));
        }
    go false e h ih =
        let f : RowAt d l (row_in l d) = ih (omega arith) in
        let low : suc x.end ≤ d = row_low r d (omega arith) in
        record {
          before = x ∷ f.before;
          here = f.here;
          after = f.after;
          is = ap (λ m. x ∷ m) f.is;
          at = ap suc f.at;
          starting = rw e f.starting;
          put = λ y k. rw (ne_eqb x.start y.start (λ z. eqb-false x.start d e (z ∙ k))) (ap (λ m. x ∷ m) (f.put y k));
          front = rw (lt-ltb x.start d (omega arith)) (ap (λ m. x ∷ m) f.front);
          behind = rw (le-ltb d x.start (omega arith)) (omega (arith, f.behind));
        }

pub row_few : (l : List Entry) (d : ℕ) → row_in l d ≤ length l
unfolding row_in
row_few [] d = omega arith
row_few (x ∷ l) d = go (eqb x.start d) (row_few l d)
  where
    go : (t : Bool) → row_in l d ≤ length l → cond t 0 (suc (row_in l d)) ≤ suc (length l)
    go true h = omega arith
    go false h = omega arith

-- no record starts on the day
pub row_none : (l : List Entry) (d : ℕ) → row_in l d ≡ length l → starting_on l d ≡ none
unfolding row_in starting_on
row_none [] d e = refl
row_none (x ∷ l) d e = go (eqb x.start d) e (row_none l d)
  where
    go : (t : Bool) → cond t 0 (suc (row_in l d)) ≡ suc (length l) → (row_in l d ≡ length l → starting_on l d ≡ none) → cond t (some x) (starting_on l d) ≡ none
    go true e ih = absurd (omega arith)
    go false e ih = ih (omega arith)

-- the test for that
pub appends_is : (l : List Entry) (d : ℕ) → eqb (row_in l d) (length l) ≡ not (is_some (starting_on l d))
unfolding row_in starting_on
appends_is [] d = refl
appends_is (x ∷ l) d = go (eqb x.start d) (appends_is l d)
  where
    go : (t : Bool) → eqb (row_in l d) (length l) ≡ not (is_some (starting_on l d)) → eqb (cond t 0 (suc (row_in l d))) (suc (length l)) ≡ not (is_some (cond t (some x) (starting_on l d)))
    go true ih = eqb-zero-suc (length l)
    go false ih = eqb-suc-suc (row_in l d) (length l) ∙ ih

-- ---- the search, on a part

row_is : (l : List Entry) (d j : ℕ) → j ≤ length l → ((k : ℕ) → k < j → (get_or l k no_rec).start ≡ d → ⊥)
    → (j < length l → (get_or l j no_rec).start ≡ d) → j ≡ row_in l d
unfolding row_in
row_is [] d j h miss hit = omega arith
row_is (x ∷ l) d zero h miss hit = rw (eq-eqb x.start d (hit (omega arith)))
row_is (x ∷ l) d (suc j) h miss hit =
    rw (ne_eqb x.start d (miss 0 (omega arith)))
    (ap suc (row_is l d j (omega arith) (λ k e. miss (suc k) (omega arith)) (λ e. hit (omega arith))))

module _ {p : List ℤ} (ok : SoundPart p) (d n : ℕ) (e : n ≡ num_at p 6) where
  abbrev pub Starts : ℕ → Type 0
  Starts j = num_at p (48 + 4 * j) ≡ d

  rows_are : n ≡ length (point_from p).recs
  rows_are = omega (arith, place_recs (part_well ok) (part_laid ok))

  row : (j : ℕ) → j ≤ n → ((k : ℕ) → k < j → Starts k → ⊥) → (j < n → Starts j)
      → j ≡ row_in (point_from p).recs d
  row j h miss hit =
      row_is (point_from p).recs d j (omega (arith, rows_are)) (λ k l q. miss k l (start_at ok k ∙ q))
      (λ l. sym (start_at ok j) ∙ hit (omega (arith, rows_are)))

  -- what a search of all rows finds
  pub row_found : (r : Option ℕ)
      → MatchOption r ((k : ℕ) → 0 ≤ k → k < n → Starts k → ⊥)
      (λ j. (0 ≤ j) × (j < n) × Starts j × ((k : ℕ) → 0 ≤ k → k < j → Starts k → ⊥))
      → (unwrap_or r n ≡ row_in (point_from p).recs d) × (unwrap_or r n ≤ num_at p 6)
  row_found None miss = (row n (omega arith) (λ k h. miss k (omega arith) h) (λ h. absurd (omega arith)), omega arith)
  row_found (Some j) f =
      (row j (omega (arith, f.1)) (λ k h. f.3 k (omega arith) h) (λ h. f.2), omega (arith, f.1))
