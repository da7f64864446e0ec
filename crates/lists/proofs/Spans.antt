-- What the book reads off the off days of well-formed spans: the spans themselves, the append day, an off day in a
-- stretch.
use mathlib.Core.Path.{◌≡◌, refl, sym, ◌∙◌, ap, ap₂}
use mathlib.Core.Bool.{Bool, true, false, not, ◌&&◌, ◌||◌, cond, and-false}
use mathlib.Core.Option.{Option, none, some}
use mathlib.Core.List.{List, [], ◌∷◌}
use Prim.Native.Nat.{ℕ, zero, suc, ◌-◌, ◌≤◌, ◌<◌}
use native.Mathlib.Omega.{arith}
use lib.Dec.{leb, ltb, eqb}
use borrow.Author.Tests.{leb-true, leb-false, ltb-true, ltb-false, eqb-true, eqb-false, le-leb, lt-leb, lt-ltb, le-ltb}
use Rattle.numbers.specs.Search.{maybe, is_some, first_from}
use Rattle.numbers.proofs.Search.{first_is_lem, first_none, first_cong, first_some, first_fails, some_either}
use Rattle.daybook.specs.Book.{Point, days, gather, day_before, begins, span_at, spans, last_filled, append_day}
use Rattle.daybook.specs.Notices.{off_within}
use Rattle.lists.specs.Lists.{Lists, point_of, in_span, off_on}
use Rattle.lists.specs.InnerSteps.{last_end, skip, append_day_of, overlaps, some_overlap}
use Rattle.lists.specs.InnerWell.{Spans, nospan, still, ended, Well}
use Rattle.lists.proofs.Scan.{at, Asc, nil, cons, asc_widen, at_none, scan}

-- An off day and its on day, none while it is still off.
abbrev pub Span : Type 0
Span = ℕ × Option ℕ

-- ---- a day beside a span

-- no day before the spans is off
pub off_before : {lo : ℕ} {l : List Span} → Spans lo l → (x : ℕ) → x < lo → off_on l x ≡ false
unfolding off_on
off_before nospan x h = refl
off_before (still {off = off} a b) x h = rw (lt-leb off x (omega arith)) refl
off_before (ended {off = off} a b c r) x h = rw (lt-leb off x (omega arith)) (off_before r x (omega arith))

-- a day in the first span is off
pub off_still : (off x : ℕ) → off ≤ x → off_on ((off, none) ∷ []) x ≡ true
unfolding off_on
off_still off x h = rw (le-leb off x h) refl

pub off_inside : (off on : ℕ) (l : List Span) (x : ℕ) → off ≤ x → x < on → off_on ((off, some on) ∷ l) x ≡ true
unfolding off_on
off_inside off on l x h k = rw (le-leb off x h, lt-ltb x on k) refl

-- from its on day on, a span says nothing
pub off_past : (off on : ℕ) (l : List Span) (x : ℕ) → on ≤ x → off_on ((off, some on) ∷ l) x ≡ off_on l x
unfolding off_on
off_past off on l x h = go (leb off x)
  where
    go : (t : Bool) → (t && ltb x on || off_on l x) ≡ off_on l x
    go true = rw (le-ltb x on h) refl
    go false = refl

-- ---- the spans

-- off days ascend
ascend : {lo : ℕ} {l : List Span} → Spans lo l → Asc (λ x. x.0) days lo l
ascend nospan = nil
ascend (still a b) = cons a (omega arith) nil
ascend (ended a b c r) = cons a (omega arith) (asc_widen (λ x. x.0) (omega arith) (ascend r))

-- no span begins on a day that is on, nor on one after an off day
begins_on : (f : ℕ → Bool) (d : ℕ) → f d ≡ false → span_at f d ≡ none
unfolding span_at begins
begins_on f d e = rw e refl

begins_within : (f : ℕ → Bool) (d : ℕ) → f (suc d) ≡ true → f d ≡ true → span_at f (suc d) ≡ none
unfolding span_at begins
begins_within f d e k = rw (e, k) refl

-- one begins on an off day after a day that is on
begins_off : (f : ℕ → Bool) (d : ℕ) (o : Option ℕ) → f d ≡ true → day_before false f d ≡ false
    → first_from (λ x. not (f x)) (suc d) (days - suc d) ≡ o → span_at f d ≡ some (d, o)
unfolding span_at begins
begins_off f d o e k h = rw (e, k, h) refl

-- a span is told by its day, the day before and the days after
begins_cong : (f g : ℕ → Bool) (d : ℕ) → ((x : ℕ) → d ≤ x → f x ≡ g x) → span_at f (suc d) ≡ span_at g (suc d)
unfolding span_at begins
begins_cong f g d h = rw (h d (omega arith), h (suc d) (omega arith), after) refl
  where
    after : first_from (λ x. not (f x)) (suc (suc d)) (days - suc (suc d)) ≡ first_from (λ x. not (g x)) (suc (suc d)) (days - suc (suc d))
    after = first_cong _ _ (suc (suc d)) (days - suc (suc d)) (λ x u v. ap not (h x (omega arith)))

-- the first span is read on its off day, and nothing before it
head_at : (x : Span) (l : List Span) → Spans x.0 (x ∷ l) → Asc (λ y. y.0) days (suc x.0) l
    → off_on (x ∷ l) x.0 ≡ true → first_from (λ y. not (off_on (x ∷ l) y)) (suc x.0) (days - suc x.0) ≡ x.1
    → ((d : ℕ) → x.0 ≤ d → span_at (off_on (x ∷ l)) (suc d) ≡ at (λ y. y.0) l (suc d))
    → (d : ℕ) → span_at (off_on (x ∷ l)) d ≡ at (λ y. y.0) (x ∷ l) d
unfolding at
head_at x l whole asc here next after d = go d (eqb x.0 d) refl (leb x.0 d) refl
  where
    day_before_on : (d : ℕ) → d ≤ x.0 → day_before false (off_on (x ∷ l)) d ≡ false
    day_before_on zero h = refl
    day_before_on (suc d) h = off_before whole d h

    go : (d : ℕ) (t : Bool) → eqb x.0 d ≡ t → (s : Bool) → leb x.0 d ≡ s
        → span_at (off_on (x ∷ l)) d ≡ at (λ y. y.0) (x ∷ l) d
    go d true e s h =
        let k : x.0 ≡ d = eqb-true x.0 d e in
        rw e (ap (span_at (off_on (x ∷ l))) (sym k) ∙ begins_off (off_on (x ∷ l)) x.0 x.1 here (day_before_on x.0 (omega arith)) next)
    go d false e false h =
        let k : d < x.0 = leb-false x.0 d h in
        begins_on (off_on (x ∷ l)) d (off_before whole d k) ∙ rw e (sym (at_none (λ y. y.0) asc d (omega arith)))
    go zero false e true h = absurd (eqb-false x.0 zero e (omega (arith, leb-true x.0 zero h)))
    go (suc d) false e true h =
        let k : x.0 ≤ suc d = leb-true x.0 (suc d) h in
        let m : ¬ (x.0 ≡ suc d) = eqb-false x.0 (suc d) e in
        rw e (after d (omega arith))

-- on each day the scan reads the span that starts there
span_at_lem : {lo : ℕ} {l : List Span} → Spans lo l → (d : ℕ) → span_at (off_on l) d ≡ at (λ x. x.0) l d
unfolding at
span_at_lem nospan = λ d. begins_on (off_on []) d (off_before (nospan {lo = suc d}) d (omega arith))
span_at_lem (still {off = off} a b) =
    head_at (off, none) [] (still (omega arith) b) nil (off_still off off (omega arith))
    (first_none _ (suc off) (days - suc off) (λ x u v. ap not (off_still off x (omega arith))))
    (λ d h. begins_within (off_on ((off, none) ∷ [])) d (off_still off (suc d) (omega arith)) (off_still off d h))
span_at_lem (ended {off = off} {on = on} {l = l} a b c r) =
    head_at (off, some on) l (ended (omega arith) b c r) (asc_widen (λ x. x.0) (omega arith) (ascend r))
    (off_inside off on l off (omega arith) b)
    (first_is_lem _ (suc off) (days - suc off) on b (omega arith) (ap not (off_past off on l on (omega arith) ∙ off_before r on (omega arith)))
    (λ x u v. ap not (off_inside off on l x (omega arith) v)))
    (λ d h. go d h (leb on d) refl (eqb on (suc d)) refl (span_at_lem r))
  where
    go : (d : ℕ) → off ≤ d → (t : Bool) → leb on d ≡ t → (s : Bool) → eqb on (suc d) ≡ s
        → ((d : ℕ) → span_at (off_on l) d ≡ at (λ x. x.0) l d)
        → span_at (off_on ((off, some on) ∷ l)) (suc d) ≡ at (λ x. x.0) l (suc d)
    go d h true e s q ih =
        let k : on ≤ d = leb-true on d e in
        begins_cong (off_on ((off, some on) ∷ l)) (off_on l) d (λ x u. off_past off on l x (omega arith)) ∙ ih (suc d)
    go d h false e true q ih =
        let k : on ≡ suc d = eqb-true on (suc d) q in
        begins_on (off_on ((off, some on) ∷ l)) (suc d) (off_past off on l (suc d) (omega arith) ∙ off_before r (suc d) (omega arith))
        ∙ sym (at_none (λ x. x.0) (ascend r) (suc d) (omega arith))
    go d h false e false q ih =
        let k : d < on = leb-false on d e in
        let m : ¬ (on ≡ suc d) = eqb-false on (suc d) q in
        begins_within (off_on ((off, some on) ∷ l)) d (off_inside off on l (suc d) (omega arith) (omega arith)) (off_inside off on l d h k)
        ∙ sym (at_none (λ x. x.0) (ascend r) (suc d) (omega arith))

-- the longest stretches of off days are the spans
pub spans_is : {lo : ℕ} {l : List Span} → Spans lo l → gather (span_at (off_on l)) 0 days ≡ l
spans_is {l = l} r =
    scan (λ x. x.0) (span_at (off_on l)) days 0 days l refl (asc_widen (λ x. x.0) (omega arith) (ascend r)) (λ d u v. span_at_lem r d)

pub point_spans : {room : ℕ} {q : Lists} → Well room q → spans (point_of q) ≡ q.offs
unfolding spans point_of
point_spans ok = spans_is ok.offs_ok

-- ---- the append day

-- a day before the spans is not off, and found at once
at_once : {lo : ℕ} {l : List Span} → Spans lo l → (d : ℕ) → d < lo → d < days
    → first_from (λ x. not (off_on l x)) d (days - d) ≡ some d
at_once r d h k = first_is_lem _ d (days - d) d (omega arith) (omega arith) (ap not (off_before r d h)) (λ x u v. absurd (omega arith))

-- the first day from d on that is not off lies in no span
pub skip_is : {lo : ℕ} {l : List Span} → Spans lo l → (d : ℕ) → d < days
    → first_from (λ x. not (off_on l x)) d (days - d) ≡ skip l d
unfolding skip
skip_is {l = l} nospan d h = at_once (nospan {lo = suc d}) d (omega arith) h
skip_is (still {off = off} a b) d h = go (ltb d off) refl
  where
    go : (t : Bool) → ltb d off ≡ t
        → first_from (λ x. not (off_on ((off, none) ∷ []) x)) d (days - d) ≡ cond t (some d) none
    go true e = at_once (still {lo = off} (omega arith) b) d (ltb-true d off e) h
    go false e = first_none _ d (days - d) (λ x u v. ap not (off_still off x (omega (arith, ltb-false d off e))))
skip_is (ended {off = off} {on = on} {l = l} a b c r) d h = go (ltb d off) (ltb d on) refl refl (skip_is r d h)
  where
    go : (s t : Bool) → ltb d off ≡ s → ltb d on ≡ t → first_from (λ x. not (off_on l x)) d (days - d) ≡ skip l d
        → first_from (λ x. not (off_on ((off, some on) ∷ l) x)) d (days - d) ≡ cond s (some d) (cond t (some on) (skip l d))
    go true t e k ih = at_once (ended {lo = off} (omega arith) b c r) d (ltb-true d off e) h
    go false true e k ih =
        first_is_lem _ d (days - d) on (omega (arith, ltb-true d on k)) (omega arith) (ap not (off_past off on l on (omega arith) ∙ off_before r on (omega arith)))
        (λ x u v. ap not (off_inside off on l x (omega (arith, ltb-false d off e)) v))
    go false false e k ih = first_cong _ _ d (days - d) (λ x u v. ap not (off_past off on l x (omega (arith, ltb-false d on k)))) ∙ ih

-- the append day is the first day after the records that is in no span
pub append_day_is : {room : ℕ} {q : Lists} → Well room q → last_filled (point_of q) ≡ last_end q.recs
    → maybe q.facts.install suc (last_end q.recs) < days → append_day (point_of q) ≡ append_day_of q
unfolding append_day append_day_of point_of
append_day_is {q = q} ok e h =
    ap (λ o. first_from (λ x. not (off_on q.offs x)) (maybe q.facts.install suc o) (days - maybe q.facts.install suc o)) e
    ∙ skip_is ok.offs_ok (maybe q.facts.install suc (last_end q.recs)) h

-- ---- an off day in a stretch

-- does the stretch from a to b hold a day of the span?
still_overlap : (off a b : ℕ) → a ≤ b → is_some (first_from (in_span (off, none)) a (suc b - a)) ≡ overlaps a b (off, none)
still_overlap off a b h = go (leb off b) refl (leb off a) refl
  where
    go : (s : Bool) → leb off b ≡ s → (t : Bool) → leb off a ≡ t
        → is_some (first_from (leb off) a (suc b - a)) ≡ (s && true)
    go true e true k = first_some (leb off) a (suc b - a) a (omega arith) (omega arith) k
    go true e false k =
        first_some (leb off) a (suc b - a) off (omega (arith, leb-false off a k)) (omega (arith, leb-true off b e)) (le-leb off off (omega arith))
    go false e t k = ap is_some (first_none (leb off) a (suc b - a) (λ x u v. lt-leb off x (omega (arith, leb-false off b e))))

ended_overlap : (off on a b : ℕ) → off < on → a ≤ b
    → is_some (first_from (in_span (off, some on)) a (suc b - a)) ≡ overlaps a b (off, some on)
ended_overlap off on a b l h = go (leb off b) refl (ltb a on) refl (leb off a) refl
  where
    inside : ℕ → Bool
    inside x = leb off x && ltb x on

    holds : (x : ℕ) → off ≤ x → x < on → inside x ≡ true
    holds x u v = rw (le-leb off x u, lt-ltb x on v) refl

    past : (x : ℕ) → on ≤ x → inside x ≡ false
    past x u = rw (le-ltb x on u) (and-false (leb off x))

    under : (x : ℕ) → x < off → inside x ≡ false
    under x u = rw (lt-leb off x u) refl

    go : (s : Bool) → leb off b ≡ s → (t : Bool) → ltb a on ≡ t → (w : Bool) → leb off a ≡ w
        → is_some (first_from inside a (suc b - a)) ≡ (s && t)
    go true e true k true i =
        first_some inside a (suc b - a) a (omega arith) (omega arith) (holds a (leb-true off a i) (ltb-true a on k))
    go true e true k false i =
        first_some inside a (suc b - a) off (omega (arith, leb-false off a i)) (omega (arith, leb-true off b e)) (holds off (omega arith) l)
    go true e false k w i = ap is_some (first_none inside a (suc b - a) (λ x u v. past x (omega (arith, ltb-false a on k))))
    go false e t k w i = ap is_some (first_none inside a (suc b - a) (λ x u v. under x (omega (arith, leb-false off b e))))

no_span : (a n : ℕ) → is_some (first_from (off_on []) a n) ≡ false
unfolding off_on
no_span a n = ap is_some (first_none (off_on []) a n (λ x u v. refl))

some_overlap_lem : {lo : ℕ} {l : List Span} → Spans lo l → (a b : ℕ) → a ≤ b
    → is_some (first_from (off_on l) a (suc b - a)) ≡ some_overlap a b l
unfolding off_on some_overlap
some_overlap_lem nospan a b h = no_span a (suc b - a)
some_overlap_lem (still {off = off} _ _) a b h =
    some_either (in_span (off, none)) (off_on []) a (suc b - a)
    ∙ ap₂ ◌||◌ (still_overlap off a b h) (no_span a (suc b - a))
some_overlap_lem (ended {off = off} {on = on} {l = l} _ c _ r) a b h =
    some_either (in_span (off, some on)) (off_on l) a (suc b - a) ∙ ap₂ ◌||◌ (ended_overlap off on a b c h) (some_overlap_lem r a b h)

-- a day from a to b is off where that is a stretch and a span overlaps it
pub overlap_is : {lo : ℕ} {l : List Span} → Spans lo l → (a b : ℕ)
    → is_some (first_from (off_on l) a (suc b - a)) ≡ (leb a b && some_overlap a b l)
overlap_is {l = l} r a b = go (leb a b) refl
  where
    go : (t : Bool) → leb a b ≡ t → is_some (first_from (off_on l) a (suc b - a)) ≡ (t && some_overlap a b l)
    go true e = some_overlap_lem r a b (leb-true a b e)
    go false e = ap is_some (first_none (off_on l) a (suc b - a) (λ x u v. absurd (omega (arith, leb-false a b e))))

pub off_within_is : {room : ℕ} {q : Lists} → Well room q → (a b : ℕ)
    → off_within (point_of q) a b ≡ (leb a b && some_overlap a b q.offs)
unfolding off_within point_of
off_within_is ok a b = overlap_is ok.offs_ok a b

-- where no day of a stretch is off, each of its days is on
pub no_off_lem : (p : Point) (a b : ℕ) → off_within p a b ≡ false → (d : ℕ) → a ≤ d → d ≤ b → p.off d ≡ false
unfolding off_within
no_off_lem p a b e d h k = first_fails p.off a (suc b - a) e d h (omega arith)
