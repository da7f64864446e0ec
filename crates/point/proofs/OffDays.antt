-- The days of off spans: the first day that is in none, and days that are clear of all, by index as on the lists.
-- Assumes nothing.
use mathlib.Core.Path.{◌≡◌, refl, sym, ap, ap₂, subst, ◌∙◌}
use mathlib.Core.Bool.{Bool, true, false, ◌&&◌, ◌||◌, cond, and-true, and-false, true≢false}
use mathlib.Core.Logic.{⊎_elim}
use mathlib.Core.Option.{Option, none, some, none-ne-some, some-injective}
use mathlib.Core.List.{List}
use Prim.Native.Nat.{ℕ, zero, suc, ◌+◌, ◌≤◌, ◌<◌}
use native.Mathlib.Omega.{arith}
use native.Mathlib.Nat.{eq-or-lt_of_le}
use borrow.Author.Tests.{leb-true, leb-false, ltb-true, ltb-false, le-leb, lt-leb, lt-ltb, le-ltb}
use lib.Dec.{leb, ltb}
use lib.IntN.{ℤ}
use Rattle.numbers.specs.Search.{maybe}
use Rattle.numbers.proofs.Bools.{neither, join}
use Rattle.numbers.proofs.Rows.{all_at, all_of}
use Rattle.lists.specs.Lists.{in_span, off_on}
use Rattle.lists.specs.InnerSteps.{skip}
use Rattle.layout.specs.Layout.{num_at, on_of}
use Rattle.point.specs.InnerTests.{until_of, off_day, on_day, spans_ok, past, passed, first_on, apart_at, no_off, span_row, day_if}
use Rattle.point.proofs.Rows.{rows_at}
use Rattle.point.proofs.Spans.{On, opened, closed, wrong, view, on_number_at, Passing, First, first}

day_is : (d : ℕ) → d ≤ 40000 → day_if d ≡ some d
unfolding day_if
day_is d h = rw (lt-ltb d 40001 (omega arith))

module _ (p : List ℤ) where
  -- ---- the first day that is in no span

  past_under : (off on d : ℕ) → d < off → past off on d ≡ d
  past_under off on d h = rw (lt-leb off d h)

  pub past_inside : (off on d : ℕ) → off ≤ d → d < on → past off on d ≡ on
  past_inside off on d h k = rw (le-leb off d h, lt-ltb d on k)

  past_over : (off on d : ℕ) → off ≤ d → on ≤ d → past off on d ≡ d
  past_over off on d h k = rw (le-leb off d h, le-ltb d on k)

  -- a day before the spans is in none
  passed_under : (n k lo d : ℕ) → Passing p lo k n → d < lo → passed p d k n ≡ d
  unfolding passed
  passed_under zero k lo d h l = refl
  passed_under (suc n) k lo d h l =
      let r : First p lo k n = first p lo k n h in
      ap (λ x. passed p x (suc k) n) (past_under (off_day p k) (on_day p k) d (omega arith))
      ∙ passed_under n (suc k) (suc (on_day p k)) d r.others (omega arith)

  skip_passed : (n k lo d : ℕ) → Passing p lo k n → d ≤ 40000 → skip (rows_at (span_row p) k n) d ≡ day_if (passed p d k n)
  unfolding skip passed rows_at day_if
  skip_passed zero k lo d h l = sym (day_is d l)
  skip_passed (suc n) k lo d h l =
      go (ltb d (off_day p k)) (ltb d (on_day p k)) refl refl (view (on_number_at p k)) (skip_passed n (suc k) (suc (on_day p k)) d r.others l)
    where
      r : First p lo k n
      r = first p lo k n h

      rest : Option ℕ
      rest = skip (rows_at (span_row p) (suc k) n) d

      -- from the off day on
      reached : Option ℕ
      reached = maybe none (λ on. cond (ltb d on) (some on) rest) (on_of (on_number_at p k))

      -- from a day before the next span
      stay : (x : ℕ) → past (off_day p k) (on_day p k) d ≡ x → x ≤ on_day p k → day_if (passed p (past (off_day p k) (on_day p k) d) (suc k) n) ≡ day_if x
      stay x e u =
          ap (λ y. day_if (passed p y (suc k) n)) e
          ∙ ap day_if (passed_under n (suc k) (suc (on_day p k)) x r.others (omega arith))

      go : (s t : Bool) → ltb d (off_day p k) ≡ s → ltb d (on_day p k) ≡ t → On (on_number_at p k) → rest ≡ day_if (passed p d (suc k) n)
          → cond s (some d) reached
          ≡ day_if (passed p (past (off_day p k) (on_day p k) d) (suc k) n)
      go true t a b o ih =
          let u : d < off_day p k = ltb-true d (off_day p k) a in
          sym (stay d (past_under (off_day p k) (on_day p k) d u) (omega (arith, r.after)) ∙ day_is d l)
      go false true a b (closed e w) ih =
          let u : past (off_day p k) (on_day p k) d ≡ on_day p k = past_inside _ _ d (ltb-false d (off_day p k) a) (ltb-true d (on_day p k) b) in
          let left : reached ≡ some (on_day p k) = rw (e, b) in
          left ∙ sym (stay (on_day p k) u (omega arith) ∙ day_is (on_day p k) (omega arith))
      go false true a b (opened e w) ih =
          let u : past (off_day p k) (on_day p k) d ≡ on_day p k = past_inside _ _ d (ltb-false d (off_day p k) a) (ltb-true d (on_day p k) b) in
          let left : reached ≡ none = rw e in
          left ∙ sym (stay (on_day p k) u (omega arith) ∙ ap day_if w)
      go false false a b (closed e w) ih =
          let u : past (off_day p k) (on_day p k) d ≡ d = past_over _ _ d (ltb-false d (off_day p k) a) (ltb-false d (on_day p k) b) in
          let left : reached ≡ rest = rw (e, b) in
          left ∙ ih ∙ sym (ap (λ y. day_if (passed p y (suc k) n)) u)
      go false false a b (opened e w) ih = absurd (omega (arith, ltb-false d (on_day p k) b))
      go false t a b (wrong e v w) ih = absurd (omega (arith, r.until))

  pub skip_first : (m d : ℕ) → spans_ok p m ≡ true → d ≤ 40000 → skip (rows_at (span_row p) 0 m) d ≡ day_if (first_on p m d)
  unfolding first_on spans_ok
  skip_first m d h l = skip_passed m 0 (num_at p 2) d h l

  pub skip_is_first : (m d k : ℕ) → spans_ok p m ≡ true → d ≤ 40000 → k ≤ 40000 → k ≡ first_on p m d → skip (rows_at (span_row p) 0 m) d ≡ some k
  skip_is_first m d k h l u e = skip_first m d h l ∙ ap day_if (sym e) ∙ day_is k u

  pub first_is_skip : (m d k : ℕ) → spans_ok p m ≡ true → d ≤ 40000 → skip (rows_at (span_row p) 0 m) d ≡ some k → k ≡ first_on p m d
  unfolding day_if
  first_is_skip m d k h l e = go (first_on p m d) (ltb (first_on p m d) 40001) (sym (skip_first m d h l) ∙ e)
    where
      go : (x : ℕ) (t : Bool) → cond t (some x) none ≡ some k → k ≡ x
      go x true q = sym (some-injective x k q)
      go x false q = absurd (none-ne-some k q)

  -- ---- days that are not off

  in_span_lem : (off d : ℕ) (x : ℤ) → until_of x ≤ 40001 → d ≤ 40000 → in_span (off, on_of x) d ≡ (leb off d && ltb d (until_of x))
  in_span_lem off d x h l = go (view x)
    where
      go : On x → in_span (off, on_of x) d ≡ (leb off d && ltb d (until_of x))
      go (opened e u) = rw (e, u, lt-ltb d 40001 (omega arith)) (sym (and-true (leb off d)))
      go (closed e u) = rw e
      go (wrong e v u) = absurd (omega arith)

  -- a to b beside a span, on a day d of these
  pub beside : (a b d off on : ℕ) → (ltb b off || leb on a) ≡ true → a ≤ d → d ≤ b → (leb off d && ltb d on) ≡ false
  beside a b d off on h u v = go (ltb b off) refl h
    where
      go : (t : Bool) → ltb b off ≡ t → (t || leb on a) ≡ true → (leb off d && ltb d on) ≡ false
      go true e q = rw (lt-leb off d (omega (arith, ltb-true b off e)))
      go false e q = rw (le-ltb d on (omega (arith, leb-true on a q))) (and-false (leb off d))

  clear_days : (n k lo a b d : ℕ) → Passing p lo k n → d ≤ 40000 → ((j : ℕ) → k ≤ j → j < k + n → apart_at p a b j ≡ true) → a ≤ d → d ≤ b → off_on (rows_at (span_row p) k n) d ≡ false
  unfolding off_on rows_at
  clear_days zero k lo a b d h l f u v = refl
  clear_days (suc n) k lo a b d h l f u v =
      let r : First p lo k n = first p lo k n h in
      ap₂ ◌||◌ (in_span_lem (off_day p k) d (on_number_at p k) r.until l ∙ beside a b d (off_day p k) (on_day p k) (f k (omega arith) (omega arith)) u v)
      (clear_days n (suc k) (suc (on_day p k)) a b d r.others l (λ j s t. f j (omega arith) (omega arith)) u v)

  -- and back: of a span that isn't apart, its off day or a is off
  days_clear : (n k lo a b : ℕ) → Passing p lo k n → a ≤ b → b ≤ 40000 → ((d : ℕ) → a ≤ d → d ≤ b → off_on (rows_at (span_row p) k n) d ≡ false) → (j : ℕ) → k ≤ j → j < k + n → apart_at p a b j ≡ true
  unfolding off_on rows_at
  days_clear zero k lo a b h l m f j s t = absurd (omega arith)
  days_clear (suc n) k lo a b h l m f j s t =
      ⊎_elim (λ (e : k ≡ j). subst (λ (i : ℕ). apart_at p a b i ≡ true) e (here (ltb b (off_day p k)) refl))
      (λ u. days_clear n (suc k) (suc (on_day p k)) a b r.others l m (λ d v w. (split d v w).1) j u (omega arith)) (eq-or-lt_of_le s)
    where
      r : First p lo k n
      r = first p lo k n h

      split : (d : ℕ) → a ≤ d → d ≤ b → (in_span (span_row p k) d ≡ false) × (off_on (rows_at (span_row p) (suc k) n) d ≡ false)
      split d v w = neither (in_span (span_row p k) d) (off_on (rows_at (span_row p) (suc k) n) d) (f d v w)

      not_in : (d : ℕ) → a ≤ d → d ≤ b → (leb (off_day p k) d && ltb d (on_day p k)) ≡ false
      not_in d v w = sym (in_span_lem (off_day p k) d (on_number_at p k) r.until (omega arith)) ∙ (split d v w).0

      late : (t : Bool) → leb (on_day p k) a ≡ t → off_day p k ≤ b → t ≡ true
      late true e u = refl
      late false e u = absurd (hit (ltb a (off_day p k)) refl)
        where
          before_on : a < on_day p k
          before_on = leb-false (on_day p k) a e

          hit : (q : Bool) → ltb a (off_day p k) ≡ q → ⊥
          hit true v =
              let i : (leb (off_day p k) (off_day p k) && ltb (off_day p k) (on_day p k)) ≡ true = join (le-leb (off_day p k) (off_day p k) (omega arith)) (lt-ltb _ _ r.after) in
              true≢false (sym i ∙ not_in (off_day p k) (omega (arith, ltb-true a (off_day p k) v)) u)
          hit false v =
              let i : (leb (off_day p k) a && ltb a (on_day p k)) ≡ true = join (le-leb _ _ (ltb-false a (off_day p k) v)) (lt-ltb _ _ before_on) in
              true≢false (sym i ∙ not_in a (omega arith) l)

      here : (t : Bool) → ltb b (off_day p k) ≡ t → (t || leb (on_day p k) a) ≡ true
      here true e = refl
      here false e = late (leb (on_day p k) a) refl (ltb-false b (off_day p k) e)

  pub no_off_days : (m a b d : ℕ) → spans_ok p m ≡ true → b ≤ 39999 → no_off p m a b ≡ true → a ≤ d → d ≤ b → off_on (rows_at (span_row p) 0 m) d ≡ false
  unfolding spans_ok no_off
  no_off_days m a b d h l f u v =
      clear_days m 0 (num_at p 2) a b d h (omega arith) (λ j s t. all_at (apart_at p a b) m f j (omega arith)) u v

  pub days_no_off : (m a b : ℕ) → spans_ok p m ≡ true → a ≤ b → b ≤ 39999 → ((d : ℕ) → a ≤ d → d ≤ b → off_on (rows_at (span_row p) 0 m) d ≡ false) → no_off p m a b ≡ true
  unfolding spans_ok no_off
  days_no_off m a b h l u f =
      all_of (apart_at p a b) m (λ j s. days_clear m 0 (num_at p 2) a b h l (omega arith) f j (omega arith) (omega arith))
