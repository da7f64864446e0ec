-- Records as a list: the book reads them, their starts and the last filled day off their days. Assumes nothing.
use mathlib.Core.Path.{◌≡◌, refl, sym, ◌∙◌, ap}
use mathlib.Core.Bool.{true, cond}
use mathlib.Core.Option.{Option, none, some, none-ne-some, some-injective}
use mathlib.Core.List.{List, [], ◌∷◌}
use Prim.Native.Nat.{ℕ, suc, ◌≤◌, ◌<◌}
use native.Mathlib.Omega.{arith}
use lib.Dec.{eqb}
use borrow.Author.Tests.{ne_eqb}
use Rattle.numbers.specs.Search.{maybe, is_some, last_below}
use Rattle.numbers.proofs.Search.{last_none, last_is_lem}
use Rattle.daybook.specs.Book.{Entry, days, fill, last_of, record_at, records, last_filled}
use Rattle.daybook.specs.Notices.{which_of, which}
use Rattle.lists.specs.Lists.{Lists, entry_on, point_of}
use Rattle.lists.specs.InnerSteps.{last_end, starting_on, which_in}
use Rattle.lists.specs.InnerWell.{Well}
use Rattle.lists.proofs.Apart.{Apart, noentry, apart, apart_widen, recs_apart, Place, inside, under, over, place, fill_inside, fill_over, starting_none}
use Rattle.lists.proofs.Scan.{at, Asc, nil, cons, asc_widen, scan}

-- ---- the record that starts on a day

-- the standing entry that starts on a day is the record that does
pub record_at_lem : {hi lo : ℕ} {l : List Entry} → Apart hi lo l → (d : ℕ) → record_at (entry_on l) d ≡ starting_on l d
unfolding entry_on starting_on record_at fill
record_at_lem noentry d = refl
record_at_lem (apart {x = x} {l = l} a b c r) d = go (place x d) (record_at_lem r d)
  where
    go : Place x d → record_at (entry_on l) d ≡ starting_on l d → record_at (fill x (entry_on l)) d ≡ starting_on (x ∷ l) d
    go (inside h k e) ih = rw e (ap (cond (eqb x.start d) (some x)) (sym (starting_none r d (omega arith))))
    go (under h e) ih = rw (e, ne_eqb x.start d (omega arith)) ih
    go (over h e) ih = rw (e, ne_eqb x.start d (omega arith)) ih

apart_asc : {hi lo : ℕ} {l : List Entry} → Apart hi lo l → Asc (λ x. x.start) hi lo l
apart_asc noentry = nil
apart_asc (apart {x = x} a b c r) =
    cons a (omega arith) (asc_widen (λ x. x.start) {lo = suc x.start} (omega arith) (apart_asc r))

starting_at : (l : List Entry) (d : ℕ) → starting_on l d ≡ at (λ x. x.start) l d
unfolding starting_on at
starting_at [] d = refl
starting_at (x ∷ l) d = ap (cond (eqb x.start d) (some x)) (starting_at l d)

-- ---- the last filled day

-- Nothing is filled, or day e is, from lo on and before hi, and none after it.
pub data LastIs (hi lo : ℕ) (l : List Entry) : Option ℕ → Type 0 where
  never : ((d : ℕ) → entry_on l d ≡ none) → LastIs hi lo l none
  lastly :
      {e : ℕ} → lo ≤ e → e < hi → is_some (entry_on l e) ≡ true → ((d : ℕ) → e < d → entry_on l d ≡ none)
      → LastIs hi lo l (some e)

last_end_nil : last_end [] ≡ none
unfolding last_end last_of
last_end_nil = refl

-- with one more record in front
last_end_cons : (x : Entry) (l : List Entry) → last_end (x ∷ l) ≡ some (maybe x.end (λ e. e) (last_end l))
unfolding last_end last_of
last_end_cons x l = go (last_of l)
  where
    go : (o : Option Entry) → some (maybe x (λ y. y) o).end ≡ some (maybe x.end (λ e. e) (maybe none (λ y. some y.end) o))
    go none = refl
    go (some y) = refl

-- the last end is the last filled day
pub last_end_is : {hi lo : ℕ} {l : List Entry} → Apart hi lo l → LastIs hi lo l (last_end l)
unfolding entry_on
last_end_is noentry = rw last_end_nil (never (λ d. refl))
last_end_is {hi} {lo} (apart {x = x} {l = l} a b c r) = rw (last_end_cons x l) (go (last_end l) (last_end_is r))
  where
    go : (o : Option ℕ) → LastIs hi (suc x.end) l o → LastIs hi lo (x ∷ l) (some (maybe x.end (λ e. e) o))
    go none (never f) =
        lastly {e = x.end} (omega arith) c (ap is_some (fill_inside x (entry_on l) x.end b (omega arith))) (λ d h. fill_over x (entry_on l) d h ∙ f d)
    go (some e) (lastly u v t f) =
        lastly {e = e} (omega arith) v (ap is_some (fill_over x (entry_on l) e u) ∙ t) (λ d h. fill_over x (entry_on l) d (omega arith) ∙ f d h)

pub last_end_bounds : {hi lo : ℕ} {l : List Entry} → Apart hi lo l → (d : ℕ) → last_end l ≡ some d → (lo ≤ d) × (d < hi)
last_end_bounds {hi} {lo} {l} r d h = go (last_end l) (last_end_is r) h
  where
    go : (o : Option ℕ) → LastIs hi lo l o → o ≡ some d → (lo ≤ d) × (d < hi)
    go none (never f) i = absurd (none-ne-some d i)
    go (some e) (lastly u v t f) i = let k : e ≡ d = some-injective e d i in (omega arith, omega arith)

-- ---- the day after the records

-- The day after the last record; `from` if there is none.
abbrev pub day_after : ℕ → List Entry → ℕ
day_after from l = maybe from suc (last_end l)

pub day_after_nil : (from : ℕ) → day_after from [] ≡ from
day_after_nil from = ap (maybe from suc) last_end_nil

pub day_after_cons : (from : ℕ) (x : Entry) (l : List Entry) → day_after from (x ∷ l) ≡ day_after (suc x.end) l
day_after_cons from x l = ap (maybe from suc) (last_end_cons x l) ∙ go (last_end l)
  where
    go : (o : Option ℕ) → suc (maybe x.end (λ e. e) o) ≡ maybe (suc x.end) suc o
    go none = refl
    go (some e) = refl

-- no earlier than where they begin, no later than where they end
pub day_after_ge : {hi lo : ℕ} {l : List Entry} → Apart hi lo l → lo ≤ day_after lo l
day_after_ge {lo = lo} noentry = omega (arith, day_after_nil lo)
day_after_ge {lo = lo} (apart {x = x} {l = l} a b c r) = omega (arith, day_after_cons lo x l, day_after_ge r)

pub day_after_le : {hi lo : ℕ} {l : List Entry} → Apart hi lo l → lo ≤ hi → day_after lo l ≤ hi
day_after_le {lo = lo} noentry h = omega (arith, day_after_nil lo)
day_after_le {lo = lo} (apart {x = x} {l = l} a b c r) h = omega (arith, day_after_cons lo x l, day_after_le r c)

-- records end before any day that is after the last
pub apart_tight : {hi lo : ℕ} {l : List Entry} → Apart hi lo l → (s : ℕ) → day_after lo l ≤ s → Apart s lo l
apart_tight noentry s h = noentry
apart_tight {lo = lo} (apart {x = x} {l = l} a b c r) s h =
    let k : day_after (suc x.end) l ≤ s = omega (arith, day_after_cons lo x l) in
    apart a b (omega (arith, day_after_ge r)) (apart_tight r s k)

-- ---- what the book reads off a point's records

module _ {room : ℕ} {q : Lists} (ok : Well room q) where
  all_apart : Apart days 0 q.recs
  all_apart = apart_widen {hi = 40000} {lo = q.facts.install} (omega arith) (omega arith) (recs_apart ok.recs_ok)

  pub records_is : records (point_of q) ≡ q.recs
  unfolding records point_of
  records_is = scan (λ x. x.start) (record_at (entry_on q.recs)) days 0 days q.recs refl (apart_asc all_apart)
      (λ d h k. record_at_lem all_apart d ∙ starting_at q.recs d)

  pub which_is_lem : (x : Entry) → which (point_of q) x ≡ which_in q x
  unfolding which which_in point_of
  which_is_lem x = ap (which_of x.end) (record_at_lem all_apart x.start)

  pub last_filled_is : last_filled (point_of q) ≡ last_end q.recs
  unfolding last_filled point_of
  last_filled_is = go (last_end q.recs) (last_end_is all_apart)
    where
      go : (o : Option ℕ) → LastIs days 0 q.recs o → last_below (λ d. is_some (entry_on q.recs d)) days ≡ o
      go none (never f) = last_none _ days (λ d. ap is_some (f d))
      go (some e) (lastly u v t f) = last_is_lem _ days e v t (λ d h. ap is_some (f d h))
