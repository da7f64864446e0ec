-- Records that stand apart: each on its own days, one after the other. Assumes nothing.
use mathlib.Core.Path.{◌≡◌, refl, sym, ◌∙◌, subst}
use mathlib.Core.Bool.{Bool, true, false, cond}
use mathlib.Core.Option.{Option, none, some, none-ne-some, some-injective}
use mathlib.Core.List.{List, [], ◌∷◌}
use Prim.Native.Nat.{ℕ, suc, ◌≤◌, ◌<◌}
use native.Mathlib.Omega.{arith}
use lib.Dec.{leb, ltb, eqb}
use borrow.Author.Tests.{leb-true, leb-false, ltb-true, ltb-false, eqb-true, le-leb, lt-leb, ne_eqb}
use Rattle.numbers.specs.Search.{maybe}
use Rattle.daybook.specs.Book.{Entry, covers, fill}
use Rattle.daybook.specs.Notices.{fits_kind}
use Rattle.lists.specs.Lists.{entry_on}
use Rattle.lists.specs.InnerSteps.{starting_on, skip}
use Rattle.lists.specs.InnerWell.{Recs, norec, rec}

-- ---- records stand apart

-- Records from day lo on and before day hi: none ends before it starts, and the next starts after its end.
pub data Apart (hi : ℕ) : ℕ → List Entry → Type 0 where
  noentry : {lo : ℕ} → Apart hi lo []
  apart :
      {lo : ℕ} {x : Entry} {l : List Entry} → lo ≤ x.start → x.start ≤ x.end → x.end < hi → Apart hi (suc x.end) l
      → Apart hi lo (x ∷ l)

pub apart_widen : {hi hi' lo lo' : ℕ} {l : List Entry} → hi ≤ hi' → lo' ≤ lo → Apart hi lo l → Apart hi' lo' l
apart_widen h k noentry = noentry
apart_widen {lo' = lo'} h k (apart {x = x} a b c r) = apart {lo = lo'} {x = x} (omega arith) b (omega arith) (apart_widen h (omega arith) r)

-- skipping off days never goes back
pub skip_ge : (l : List (ℕ × Option ℕ)) (d k : ℕ) → skip l d ≡ some k → d ≤ k
unfolding skip
skip_ge [] d k e = omega (arith, some-injective d k e)
skip_ge (x ∷ l) d k e = go (ltb d x.0) x.1 e (skip_ge l d k)
  where
    past : (on : ℕ) (t : Bool) → ltb d on ≡ t → cond t (some on) (skip l d) ≡ some k → (skip l d ≡ some k → d ≤ k) → d ≤ k
    past on true h e ih = omega (arith, ltb-true d on h, some-injective on k e)
    past on false h e ih = ih e

    go : (t : Bool) (o : Option ℕ) → cond t (some d) (maybe none (λ on. cond (ltb d on) (some on) (skip l d)) o) ≡ some k → (skip l d ≡ some k → d ≤ k) → d ≤ k
    go true o e ih = omega (arith, some-injective d k e)
    go false none e ih = absurd (none-ne-some k e)
    go false (some on) e ih = past on (ltb d on) refl e ih

-- a record of either kind ends no earlier than it starts
pub fits_le : (kind start end : ℕ) → fits_kind kind start end ≡ true → start ≤ end
fits_le kind start end h = go (eqb kind 0) h
  where
    go : (t : Bool) → cond t (ltb start end) (eqb start end) ≡ true → start ≤ end
    go true e = omega (arith, ltb-true start end e)
    go false e = omega (arith, eqb-true start end e)

-- well-formed records stand apart, and end by day 39,999
pub recs_apart : {kind : ℕ} {offs : List (ℕ × Option ℕ)} {from : ℕ} {l : List Entry} → Recs kind offs from l → Apart 40000 from l
recs_apart norec = noentry
recs_apart {kind} {offs} {from} (rec {x = x} a b c e t f r) =
    apart (skip_ge offs from x.start a) (fits_le kind x.start x.end b) (omega arith) (recs_apart r)

-- ---- a day and a record

-- A day is on a record's days, before them or after them.
pub data Place (x : Entry) (d : ℕ) : Type 0 where
  inside : x.start ≤ d → d ≤ x.end → covers x d ≡ true → Place x d
  under : d < x.start → covers x d ≡ false → Place x d
  over : x.end < d → covers x d ≡ false → Place x d

pub place : (x : Entry) (d : ℕ) → Place x d
place x d = go (leb x.start d) (leb d x.end) refl refl
  where
    go : (s t : Bool) → leb x.start d ≡ s → leb d x.end ≡ t → Place x d
    go false t h k = under (leb-false _ _ h) (rw h refl)
    go true true h k = inside (leb-true _ _ h) (leb-true _ _ k) (rw (h, k) refl)
    go true false h k = over (leb-false _ _ k) (rw (h, k) refl)

-- an entry stands on its own days, and leaves the others as they were
pub fill_inside : (x : Entry) (f : ℕ → Option Entry) (d : ℕ) → x.start ≤ d → d ≤ x.end → fill x f d ≡ some x
unfolding fill
fill_inside x f d h k = rw (le-leb x.start d h, le-leb d x.end k) refl

pub fill_under : (x : Entry) (f : ℕ → Option Entry) (d : ℕ) → d < x.start → fill x f d ≡ f d
unfolding fill
fill_under x f d h = rw (lt-leb x.start d h) refl

pub fill_over : (x : Entry) (f : ℕ → Option Entry) (d : ℕ) → x.end < d → fill x f d ≡ f d
unfolding fill
fill_over x f d h = go (place x d)
  where
    go : Place x d → fill x f d ≡ f d
    go (inside a b e) = absurd (omega arith)
    go (under a e) = rw e refl
    go (over a e) = rw e refl

-- no entry before the records
pub entry_none : {hi lo : ℕ} {l : List Entry} → Apart hi lo l → (d : ℕ) → d < lo → entry_on l d ≡ none
unfolding entry_on
entry_none noentry d h = refl
entry_none (apart {x = x} {l = l} a b c r) d h = fill_under x (entry_on l) d (omega arith) ∙ entry_none r d (omega arith)

-- An entry x of the list stands on day d, and on all its days.
pub record Stands (hi lo : ℕ) (l : List Entry) (x : Entry) (d : ℕ) : Type 0 where
  pub low : lo ≤ x.start
  pub high : x.end < hi
  pub since : x.start ≤ d
  pub until : d ≤ x.end
  pub throughout : (k : ℕ) → x.start ≤ k → k ≤ x.end → entry_on l k ≡ some x

-- an entry that is found on some day does
pub stands : {hi lo : ℕ} {l : List Entry} → Apart hi lo l → (d : ℕ) (e : Entry) → entry_on l d ≡ some e → Stands hi lo l e d
unfolding entry_on
stands noentry d e h = absurd (none-ne-some e h)
stands {hi} {lo} (apart {x = x} {l = l} a b c r) d e h = go (place x d) (stands r d e)
  where
    later : Stands hi (suc x.end) l e d → Stands hi lo (x ∷ l) e d
    later s =
        let f : suc x.end ≤ e.start = s.low in
        record {
          low = omega arith;
          high = s.high;
          since = s.since;
          until = s.until;
          throughout = λ k p q. fill_over x (entry_on l) k (omega arith) ∙ s.throughout k p q;
        }

    this : x.start ≤ d → d ≤ x.end → x ≡ e → Stands hi lo (x ∷ l) e d
    this p q i = rw (← i) (record { low = a; high = c; since = p; until = q; throughout = λ k u v. fill_inside x (entry_on l) k u v })

    go : Place x d → (entry_on l d ≡ some e → Stands hi (suc x.end) l e d) → Stands hi lo (x ∷ l) e d
    go (inside p q i) ih = this p q (some-injective x e (sym (fill_inside x (entry_on l) d p q) ∙ h))
    go (under p i) ih = later (ih (sym (fill_under x (entry_on l) d p) ∙ h))
    go (over p i) ih = later (ih (sym (fill_over x (entry_on l) d p) ∙ h))

-- ---- the record that starts on a day

pub starting_none : {hi lo : ℕ} {l : List Entry} → Apart hi lo l → (d : ℕ) → d < lo → starting_on l d ≡ none
unfolding starting_on
starting_none noentry d h = refl
starting_none (apart {x = x} a b c r) d h = rw (ne_eqb x.start d (omega arith)) (starting_none r d (omega arith))

starting_ge : {hi lo : ℕ} {l : List Entry} → Apart hi lo l → (d : ℕ) (y : Entry) → starting_on l d ≡ some y → lo ≤ d
starting_ge {lo = lo} r d y e = go (ltb d lo) refl
  where
    go : (t : Bool) → ltb d lo ≡ t → lo ≤ d
    go true h = absurd (none-ne-some y (sym (starting_none r d (ltb-true d lo h)) ∙ e))
    go false h = ltb-false d lo h

-- y is in the list and starts on day s; the records before it end before s.
pub data Found (s : ℕ) (y : Entry) : List Entry → Type 0 where
  first : {l : List Entry} → y.start ≡ s → Found s y (y ∷ l)
  later : {z : Entry} {l : List Entry} → z.start < s → z.end < s → Found s y l → Found s y (z ∷ l)

-- the record that starts on a day is found so
pub found : {hi lo : ℕ} {l : List Entry} → Apart hi lo l → (s : ℕ) (y : Entry) → starting_on l s ≡ some y → Found s y l
unfolding starting_on
found noentry s y e = absurd (none-ne-some y e)
found (apart {x = z} {l = l} a b c r) s y e = go (eqb z.start s) refl e (found r s y)
  where
    go : (t : Bool) → eqb z.start s ≡ t → cond t (some z) (starting_on l s) ≡ some y → (starting_on l s ≡ some y → Found s y l) → Found s y (z ∷ l)
    go true h e ih = subst (λ v. Found s v (z ∷ l)) (some-injective z y e) (first (eqb-true z.start s h))
    go false h e ih =
        let k : z.end < s = starting_ge r s y e in
        later {z = z} (omega arith) k (ih e)
