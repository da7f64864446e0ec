-- Off and on again: what an open span behind the others and an end of the last do to the off days, to well-formed spans
-- and to the records beside them.
use mathlib.Core.Path.{◌≡◌, refl, sym, ◌∙◌, ap, fun_ext}
use mathlib.Core.Bool.{Bool, true, false, ◌&&◌, ◌||◌, cond, or-true, or-false, or_assoc, true≢false}
use mathlib.Core.Option.{Option, none, some, none-ne-some}
use mathlib.Core.List.{List, [], ◌∷◌, ◌++◌}
use Prim.Native.Nat.{ℕ, suc, ◌≤◌, ◌<◌}
use native.Mathlib.Omega.{arith}
use lib.Dec.{leb, ltb}
use lib.ListN.{length}
use borrow.Author.Tests.{leb-true, leb-false, lt-leb, lt-ltb, le-ltb}
use Rattle.numbers.specs.Search.{maybe}
use Rattle.daybook.specs.Book.{Entry, from_on, last_of}
use Rattle.daybook.specs.Notices.{cannot_off, cannot_on}
use Rattle.lists.specs.Lists.{in_span, off_on}
use Rattle.lists.specs.InnerSteps.{last_end, skip, closed}
use Rattle.lists.specs.InnerWell.{Spans, nospan, still, ended, Recs, norec, rec}
use Rattle.lists.proofs.Apart.{skip_ge, fits_le}
use Rattle.lists.proofs.Spans.{Span, off_past}

-- ---- off from day d on

-- a day is off by two lists of spans where it is by either
off_append : (l m : List Span) (x : ℕ) → off_on (l ++ m) x ≡ (off_on l x || off_on m x)
unfolding off_on
off_append [] m x = refl
off_append (y ∷ l) m x = ap (λ t. in_span y x || t) (off_append l m x) ∙ sym (or_assoc (in_span y x) (off_on l x) (off_on m x))

-- with an open span behind them every day from d on is off, and days before it are as they were
pub off_after : (l : List Span) (d : ℕ) → off_on (l ++ ((d, none) ∷ [])) ≡ from_on d true (off_on l)
unfolding off_on from_on
off_after l d = fun_ext (λ x. off_append l ((d, none) ∷ []) x ∙ go (leb d x) (off_on l x))
  where
    go : (s t : Bool) → (t || (s || false)) ≡ cond s true t
    go true t = or-true t
    go false t = or-false t

-- the last on day is before d, and the spans behind the first may be followed by d too
later_off : (off : ℕ) {on : ℕ} {l : List Span} → Spans (suc on) l → (d : ℕ)
    → cannot_off d (last_of ((off, some on) ∷ l)) ≡ false → (on < d) × (cannot_off d (last_of l) ≡ false)
unfolding last_of
later_off off {on} nospan d e = (leb-false d on e, refl)
later_off off (still a b) d e = absurd (true≢false e)
later_off off (ended {off = off'} {on = on} a b c r) d e = let h : on < d = (later_off off' r d e).0 in (omega arith, e)

-- the spans stay well-formed
pub spans_off : {lo : ℕ} {l : List Span} → Spans lo l → (d : ℕ) → lo ≤ d → d ≤ 39999 → cannot_off d (last_of l) ≡ false
    → Spans lo (l ++ ((d, none) ∷ []))
unfolding last_of
spans_off nospan d h k e = still h k
spans_off (still a b) d h k e = absurd (true≢false e)
spans_off (ended {off = off} a b c r) d h k e = ended a b c (spans_off r d (later_off off r d e).0 k (later_off off r d e).1)

-- ---- on from day d on

-- The last span is still off, from before day d.
data LastOff (d : ℕ) : ℕ → List Span → Type 0 where
  last : {lo off : ℕ} → lo ≤ off → off < d → LastOff d lo ((off, none) ∷ [])
  later :
      {lo off on : ℕ} {l : List Span} → lo ≤ off → off < on → on ≤ 39999 → LastOff d (suc on) l
      → LastOff d lo ((off, some on) ∷ l)

-- the spans behind the first end with the same last one
later_on : (off : ℕ) {on : ℕ} {l : List Span} → Spans (suc on) l → (d : ℕ)
    → cannot_on d (last_of ((off, some on) ∷ l)) ≡ false → cannot_on d (last_of l) ≡ false
unfolding last_of
later_on off nospan d e = absurd (true≢false e)
later_on off (still a b) d e = e
later_on off (ended a b c r) d e = e

last_off : {lo : ℕ} {l : List Span} → Spans lo l → (d : ℕ) → cannot_on d (last_of l) ≡ false → LastOff d lo l
unfolding last_of
last_off nospan d e = absurd (true≢false e)
last_off (still {off = off} a b) d e = last a (leb-false d off e)
last_off (ended {off = off} a b c r) d e = later a b c (last_off r d (later_on off r d e))

-- it began before d, and so did they all
starts_before : {d lo : ℕ} {l : List Span} → LastOff d lo l → lo < d
starts_before (last a b) = omega arith
starts_before (later a b c r) = omega (arith, starts_before r)

closed_behind : {d lo : ℕ} {l : List Span} → LastOff d lo l → (x : Span) → closed d (x ∷ l) ≡ x ∷ closed d l
unfolding closed
closed_behind (last a b) x = refl
closed_behind (later a b c r) x = refl

on_from : {d lo : ℕ} {l : List Span} → LastOff d lo l → (x : ℕ) → off_on (closed d l) x ≡ from_on d false (off_on l) x
unfolding closed off_on from_on
on_from {d = d} (last {off = off} a b) x = go (leb d x) refl (leb off x)
  where
    go : (s : Bool) → leb d x ≡ s → (t : Bool) → (t && ltb x d || false) ≡ cond s false (t || false)
    go true e true = rw (le-ltb x d (leb-true d x e)) refl
    go false e true = rw (lt-ltb x d (leb-false d x e)) refl
    go true e false = refl
    go false e false = refl
on_from {d = d} (later {off = off} {on = on} {l = l} a b c r) x =
    ap (λ m. off_on m x) (closed_behind r (off, some on)) ∙ go (leb d x) refl (on_from r x)
  where
    go : (s : Bool) → leb d x ≡ s → off_on (closed d l) x ≡ cond s false (off_on l x)
        → off_on ((off, some on) ∷ closed d l) x ≡ cond s false (off_on ((off, some on) ∷ l) x)
    go true e ih = off_past off on (closed d l) x (omega (arith, leb-true d x e, starts_before r)) ∙ ih
    go false e ih = ap (λ t. in_span (off, some on) x || t) ih

-- with the last span ended on d every day from d on is on, and days before it are as they were
pub on_after : {lo : ℕ} {l : List Span} → Spans lo l → (d : ℕ) → cannot_on d (last_of l) ≡ false
    → off_on (closed d l) ≡ from_on d false (off_on l)
on_after r d e = fun_ext (on_from (last_off r d e))

-- the spans stay well-formed
pub spans_on : {lo : ℕ} {l : List Span} → Spans lo l → (d : ℕ) → d ≤ 39999 → cannot_on d (last_of l) ≡ false
    → Spans lo (closed d l)
unfolding closed
spans_on r d h e = go (last_off r d e)
  where
    go : {lo : ℕ} {l : List Span} → LastOff d lo l → Spans lo (closed d l)
    go (last a b) = ended a b h nospan
    go (later {off = off} {on = on} a b c r) = rw (closed_behind r (off, some on)) (ended a b c (go r))

pub length_closed : (d : ℕ) (l : List Span) → length (closed d l) ≡ length l
unfolding closed
length_closed d [] = refl
length_closed d (x ∷ []) = refl
length_closed d (x ∷ y ∷ l) = ap suc (length_closed d (y ∷ l))

-- ---- the records beside the spans

-- a day before d that is found in no span is found so with an open span from d on behind them
skip_off : (l : List Span) (d from s : ℕ) → s < d → skip l from ≡ some s → skip (l ++ ((d, none) ∷ [])) from ≡ some s
unfolding skip
skip_off [] d from s h e = let k : from ≡ s = cc in rw (lt-ltb from d (omega arith)) e
skip_off (x ∷ l) d from s h e = go (ltb from x.0) x.1 (skip_off l d from s h) e
  where
    m : List Span
    m = l ++ ((d, none) ∷ [])

    past : (t : Bool) (on : ℕ) → (skip l from ≡ some s → skip m from ≡ some s)
        → cond t (some on) (skip l from) ≡ some s → cond t (some on) (skip m from) ≡ some s
    past true on ih e = e
    past false on ih e = ih e

    go : (t : Bool) (o : Option ℕ) → (skip l from ≡ some s → skip m from ≡ some s)
        → cond t (some from) (maybe none (λ on. cond (ltb from on) (some on) (skip l from)) o) ≡ some s
        → cond t (some from) (maybe none (λ on. cond (ltb from on) (some on) (skip m from)) o) ≡ some s
    go true o ih e = e
    go false none ih e = e
    go false (some on) ih e = past (ltb from on) on ih e

-- and any such day is found with the last span ended
skip_on : {d lo : ℕ} {l : List Span} → LastOff d lo l → (from s : ℕ) → skip l from ≡ some s
    → skip (closed d l) from ≡ some s
unfolding skip closed
skip_on {d = d} (last {off = off} a b) from s e = go (ltb from off) e
  where
    go : (t : Bool) → cond t (some from) none ≡ some s
        → cond t (some from) (cond (ltb from d) (some d) (some from)) ≡ some s
    go true e = e
    go false e = absurd (none-ne-some s e)
skip_on {d = d} (later {off = off} {on = on} {l = l} a b c r) from s e =
    ap (λ m. skip m from) (closed_behind r (off, some on)) ∙ go (ltb from off) (ltb from on) (skip_on r from s) e
  where
    go : (t u : Bool) → (skip l from ≡ some s → skip (closed d l) from ≡ some s)
        → cond t (some from) (cond u (some on) (skip l from)) ≡ some s
        → cond t (some from) (cond u (some on) (skip (closed d l) from)) ≡ some s
    go true u ih e = e
    go false true ih e = e
    go false false ih e = ih e

-- where the last record ends before d, so does the first, and the last of those behind it
end_before : {kind : ℕ} {offs : List Span} {from : ℕ} {x : Entry} {l : List Entry} → Recs kind offs from (x ∷ l) → (d : ℕ)
    → maybe false (leb d) (last_end (x ∷ l)) ≡ false → (x.end < d) × (maybe false (leb d) (last_end l) ≡ false)
unfolding last_end last_of
end_before (rec {x = x} s f e n t o norec) d h = (leb-false d x.end h, refl)
end_before {kind} {offs = offs} (rec {x = x} s f e n t o (rec {x = y} s' f' e' n' t' o' r)) d h =
    let k : y.end < d = (end_before (rec {x = y} s' f' e' n' t' o' r) d h).0 in
    (omega (arith, skip_ge offs (suc x.end) y.start s', fits_le kind y.start y.end f'), h)

-- the days of records that end before d stay on
pub recs_off : {kind : ℕ} {l : List Span} {from : ℕ} {rs : List Entry} → Recs kind l from rs → (d : ℕ)
    → maybe false (leb d) (last_end rs) ≡ false → Recs kind (l ++ ((d, none) ∷ [])) from rs
unfolding from_on
recs_off norec d h = norec
recs_off {kind} {l} {from} (rec {x = x} s f e n t o r) d h =
    let k : x.end < d = (end_before (rec {x = x} s f e n t o r) d h).0 in
    rec {x = x} (skip_off l d from x.start (omega (arith, fits_le kind x.start x.end f)) s) f e n t
    (λ y u v. ap (λ g. g y) (off_after l d) ∙ rw (lt-leb d y (omega arith)) (o y u v))
    (recs_off r d (end_before (rec {x = x} s f e n t o r) d h).1)

-- and so do those of any record where the last span ends
pub recs_on : {kind from lo : ℕ} {l : List Span} {rs : List Entry} → Recs kind l from rs → Spans lo l → (d : ℕ)
    → cannot_on d (last_of l) ≡ false → Recs kind (closed d l) from rs
unfolding from_on
recs_on {lo = lo} {l = l} all spans d h = go all
  where
    off_last : LastOff d lo l
    off_last = last_off spans d h

    false_either : (t : Bool) → cond t false false ≡ false
    false_either true = refl
    false_either false = refl

    still_on : (x : ℕ) → off_on l x ≡ false → off_on (closed d l) x ≡ false
    still_on x e = on_from off_last x ∙ rw e (false_either (leb d x))

    go : {kind from : ℕ} {rs : List Entry} → Recs kind l from rs → Recs kind (closed d l) from rs
    go norec = norec
    go {from = from} (rec {x = x} s f e n t o r) =
        rec {x = x} (skip_on off_last from x.start s) f e n t (λ y u v. still_on y (o y u v)) (go r)
