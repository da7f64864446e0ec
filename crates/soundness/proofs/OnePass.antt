-- Records beside off spans, read in one pass: spans that pass ascend, so that the next of them decides what the tests of
-- all spans do. Assumes nothing.
use mathlib.Core.Path.{◌≡◌, refl, sym, ap, subst, ◌∙◌}
use mathlib.Core.Bool.{Bool, true, false, ◌&&◌, cond, and-false, or-true}
use mathlib.Core.Logic.{⊎_elim}
use mathlib.Core.List.{List}
use Prim.Native.Nat.{ℕ, zero, suc, ◌+◌, ◌≤◌, ◌<◌, ◌^◌}
use native.Mathlib.Omega.{arith}
use native.Mathlib.Nat.{eq-or-lt_of_le, le_of_suc-le-suc}
use borrow.Author.Tests.{leb-true, ltb-true, ltb-false, le-leb, lt-ltb, le-ltb, lt-leb, eqb-true, eq-eqb}
use lib.Dec.{leb, ltb, eqb}
use lib.IntN.{ℤ}
use Rattle.numbers.specs.Rows.{all}
use Rattle.numbers.proofs.Bools.{both, join, iff}
use Rattle.numbers.proofs.Rows.{all_at, all_of, all_fails}
use Rattle.daybook.specs.Notices.{fits_kind}
use Rattle.lists.proofs.Apart.{fits_le}
use Rattle.layout.specs.Layout.{num_at}
use Rattle.point.specs.InnerTests.{Bits, off_day, on_day, spans_ok, past, passed, first_on, apart_at, no_off, rec_start, rec_end, rec_energy, rec_type, rec_in_range, rec_at}
use Rattle.soundness.specs.InnerPart.{off_from, rec_between, rec_on}
use Rattle.point.proofs.Loops.{bits_small, bits_le, bits_eq}
use Rattle.point.proofs.Spans.{Passing, First, first}
use Rattle.point.proofs.OffDays.{past_inside, beside}

-- ---- spans that pass, by index

module _ (p : List ℤ) where
  -- none begins before day lo
  later : (n k lo : ℕ) → Passing p lo k n → (i : ℕ) → k ≤ i → i < k + n → lo ≤ off_day p i
  later zero k lo h i a b = absurd (omega arith)
  later (suc n) k lo h i a b =
      let r : First p lo k n = first p lo k n h in
      ⊎_elim (λ (e : k ≡ i). subst (λ (x : ℕ). lo ≤ off_day p x) e r.from)
      (λ u. omega (arith, r.from, r.after, later n (suc k) (suc (on_day p k)) r.others i u (omega arith))) (eq-or-lt_of_le a)

  -- each ends after it begins, by day 40,001
  ends : (n k lo : ℕ) → Passing p lo k n → (i : ℕ) → k ≤ i → i < k + n → (off_day p i < on_day p i) × (on_day p i ≤ 40001)
  ends zero k lo h i a b = absurd (omega arith)
  ends (suc n) k lo h i a b =
      let r : First p lo k n = first p lo k n h in
      ⊎_elim (λ (e : k ≡ i). subst (λ (x : ℕ). (off_day p x < on_day p x) × (on_day p x ≤ 40001)) e (r.after, r.until))
      (λ u. ends n (suc k) (suc (on_day p k)) r.others i u (omega arith)) (eq-or-lt_of_le a)

  -- each begins after those before it have ended
  ascend : (n k lo : ℕ) → Passing p lo k n → (i j : ℕ) → k ≤ i → i < j → j < k + n → on_day p i < off_day p j
  ascend zero k lo h i j a b d = absurd (omega arith)
  ascend (suc n) k lo h i j a b d =
      let r : First p lo k n = first p lo k n h in
      ⊎_elim (λ (e : k ≡ i). subst (λ (x : ℕ). on_day p x < off_day p j) e (later n (suc k) (suc (on_day p k)) r.others j (omega arith) (omega arith)))
      (λ u. ascend n (suc k) (suc (on_day p k)) r.others i j u b (omega arith)) (eq-or-lt_of_le a)

  -- ---- a day that is passed

  past_ended : (off on d : ℕ) → on ≤ d → past off on d ≡ d
  past_ended off on d h = rw (le-ltb d on h, and-false (leb off d))

  -- a day that is in none of the spans
  passed_clear : (n k d : ℕ) → ((i : ℕ) → k ≤ i → i < k + n → apart_at p d d i ≡ true) → passed p d k n ≡ d
  unfolding passed
  passed_clear zero k d f = refl
  passed_clear (suc n) k d f =
      let e : past (off_day p k) (on_day p k) d ≡ d = rw (beside p d d d (off_day p k) (on_day p k) (f k (omega arith) (omega arith)) (omega arith) (omega arith)) in
      ap (λ x. passed p x (suc k) n) e ∙ passed_clear n (suc k) d (λ i a b. f i (omega arith) (omega arith))

  -- a day of span j, where those before j have ended and those after it are later
  passed_in : (n k d j : ℕ) → k ≤ j → j < k + n → ((i : ℕ) → i < j → on_day p i ≤ d) → off_day p j ≤ d → d < on_day p j → ((i : ℕ) → j < i → i < k + n → on_day p j < off_day p i) → passed p d k n ≡ on_day p j
  unfolding passed
  passed_in zero k d j a b f g h l = absurd (omega arith)
  passed_in (suc n) k d j a b f g h l =
      ⊎_elim (λ (e : k ≡ j). here e)
      (λ (u : k < j). ap (λ x. passed p x (suc k) n) (past_ended (off_day p k) (on_day p k) d (f k u)) ∙ passed_in n (suc k) d j u (omega arith) f g h (λ i s t. l i s (omega arith)))
      (eq-or-lt_of_le a)
    where
      here : k ≡ j → passed p (past (off_day p k) (on_day p k) d) (suc k) n ≡ on_day p j
      here e =
          rw e
          (ap (λ x. passed p x (suc j) n) (past_inside p (off_day p j) (on_day p j) d g h)
          ∙ passed_clear n (suc j) (on_day p j) (λ i s t. rw (lt-ltb (on_day p j) (off_day p i) (l i (omega arith) (omega arith)))))

-- ---- a record that passes

pub record Passes (p : List ℤ) (kind k day off : ℕ) : Type 0 where
  pub end : rec_end p k ≤ 39999
  pub clear : rec_end p k < off
  pub order : day ≤ rec_end p k

pub passes : (p : List ℤ) (kind k day off : ℕ) → rec_on p kind k day off ≡ true → Passes p kind k day off
unfolding rec_on
passes p kind k day off h =
    let a = both _ (fits_kind kind day (rec_end p k)) h in
    let b = both (rec_in_range (rec_end p k) (rec_energy p k) (rec_type p k)) (rec_between (rec_start p k) (rec_end p k) day off) a.0 in
    let d = both (leb (rec_end p k) 39999 && leb (rec_energy p k) 2000000) (leb (rec_type p k) 2) b.0 in
    record {
      end = leb-true _ _ (both (leb (rec_end p k) 39999) (leb (rec_energy p k) 2000000) d.0).0;
      clear = ltb-true _ _ (both (eqb (rec_start p k) day) (ltb (rec_end p k) off) b.1).1;
      order = fits_le kind day (rec_end p k) a.1;
    }

-- ---- a cursor over the spans

module _ (p : List ℤ) (m : ℕ) where
  -- A record is awaited from a day on: the j spans before it have ended by then, and no other has begun earlier.
  pub record Awaits (day j off : ℕ) : Type 0 where
    pub few : j ≤ m
    pub next : off ≡ off_from p m j
    pub ahead : day ≤ off
    pub small : day ≤ 40000
    pub ended : (i : ℕ) → i < j → on_day p i ≤ day

  -- The first day from such a day on that is not off: no span holds it, and the next begins after it.
  pub record Found (from day j off : ℕ) : Type 0 where
    pub few : j ≤ m
    pub next : off ≡ off_from p m j
    pub first : first_on p m from ≡ day
    pub clear : day < off
    pub small : day ≤ 40001
    pub ended : (i : ℕ) → i < j → on_day p i ≤ day

  module _ (spans : spans_ok p m ≡ true) where
    begins : (i : ℕ) → i < m → num_at p 2 ≤ off_day p i
    unfolding spans_ok
    begins i l = later p m 0 (num_at p 2) spans i (omega arith) (omega arith)

    span_ends : (i : ℕ) → i < m → (off_day p i < on_day p i) × (on_day p i ≤ 40001)
    unfolding spans_ok
    span_ends i l = ends p m 0 (num_at p 2) spans i (omega arith) (omega arith)

    spans_ascend : (i j : ℕ) → i < j → j < m → on_day p i < off_day p j
    unfolding spans_ok
    spans_ascend i j l u = ascend p m 0 (num_at p 2) spans i j (omega arith) l (omega arith)

    -- the next off day bounds those of all spans that have not ended
    bounds : (j i : ℕ) → j ≤ i → i < m → off_from p m j ≤ off_day p i
    bounds j i a l =
        rw (lt-ltb j m (omega arith))
        (⊎_elim (λ (e : j ≡ i). subst (λ (x : ℕ). off_day p j ≤ off_day p x) e (omega arith))
        (λ u. omega (arith, span_ends j (omega arith), spans_ascend j i u l)) (eq-or-lt_of_le a))

    -- days a to b hold no off day where b is before the next off day
    no_off_lem : (a b j off : ℕ) → off ≡ off_from p m j → ((i : ℕ) → i < j → on_day p i ≤ a) → a < off → b ≤ 40000 → no_off p m a b ≡ ltb b off
    unfolding no_off
    no_off_lem a b j off e f u v = go (ltb b off) refl
      where
        each : b < off → (i : ℕ) → i < m → (t : Bool) → ltb i j ≡ t → apart_at p a b i ≡ true
        each l i k true q = rw (le-leb (on_day p i) a (f i (ltb-true i j q))) (or-true (ltb b (off_day p i)))
        each l i k false q = rw (lt-ltb b (off_day p i) (omega (arith, bounds j i (ltb-false i j q) k)))

        here : off ≤ b → (t : Bool) → ltb j m ≡ t → all (apart_at p a b) m ≡ false
        here l true q =
            let k : j < m = ltb-true j m q in
            let s : off ≡ off_day p j = rw q at e in
            all_fails (apart_at p a b) j m k (rw (le-ltb b (off_day p j) (omega arith)) (lt-leb (on_day p j) a (omega (arith, span_ends j k))))
        here l false q = let s : off ≡ 18446744073709551615 = rw q at e in absurd (omega arith)

        go : (t : Bool) → ltb b off ≡ t → all (apart_at p a b) m ≡ t
        go true q = all_of (apart_at p a b) m (λ i k. each (ltb-true b off q) i k (ltb i j) refl)
        go false q = here (ltb-false b off q) (ltb j m) refl

    first_clear : (d : ℕ) → no_off p m d d ≡ true → first_on p m d ≡ d
    unfolding no_off first_on
    first_clear d h = passed_clear p m 0 d (λ i a b. all_at (apart_at p d d) m h i (omega arith))

    -- ---- the turns of a pass

    pub awaits_first : num_at p 2 ≤ 39999 → Awaits (num_at p 2) 0 (off_from p m 0)
    awaits_first l = record {
      few = omega arith;
      next = refl;
      ahead = go (ltb 0 m) refl;
      small = omega arith;
      ended = λ i u. absurd (omega arith);
    }
      where
        go : (t : Bool) → ltb 0 m ≡ t → num_at p 2 ≤ cond t (off_day p 0) 18446744073709551615
        go true q = begins 0 (ltb-true 0 m q)
        go false q = omega arith

    -- the awaited day is not off
    pub found_here : (day j off : ℕ) → Awaits day j off → day < off → Found day day j off
    found_here day j off a l = record {
      few = a.few;
      next = a.next;
      first = first_clear day (no_off_lem day day j off a.next a.ended l a.small ∙ lt-ltb day off l);
      clear = l;
      small = omega (arith, a.small);
      ended = a.ended;
    }

    -- or it is that of the next span
    pub is_span : (day j off : ℕ) → Awaits day j off → off ≤ day → j < m
    is_span day j off a l = go (ltb j m) refl
      where
        go : (t : Bool) → ltb j m ≡ t → j < m
        go true q = ltb-true j m q
        go false q = let s : off ≡ 18446744073709551615 = rw q at a.next in absurd (omega (arith, a.small))

    pub found_on : (day j off : ℕ) → Awaits day j off → off ≤ day → Found day (on_day p j) (suc j) (off_from p m (suc j))
    unfolding first_on
    found_on day j off a l = record {
      few = k;
      next = refl;
      first = passed_in p m 0 day j (omega arith) (omega (arith, k)) a.ended (omega (arith, s)) (omega (arith, s, a.ahead, span_ends j k)) (λ i s t. spans_ascend j i s (omega arith));
      clear = go (ltb (suc j) m) refl;
      small = (span_ends j k).1;
      ended = λ i u. before_on i u;
    }
      where
        k : j < m
        k = is_span day j off a l

        s : off ≡ off_day p j
        s = rw (lt-ltb j m k) at a.next

        go : (t : Bool) → ltb (suc j) m ≡ t → on_day p j < cond t (off_day p (suc j)) 18446744073709551615
        go true q = spans_ascend j (suc j) (omega arith) (ltb-true (suc j) m q)
        go false q = omega (arith, span_ends j k)

        before_on : (i : ℕ) → i < suc j → on_day p i ≤ on_day p j
        before_on i u =
            ⊎_elim (λ (e : i ≡ j). subst (λ (x : ℕ). on_day p i ≤ on_day p x) e (omega arith))
            (λ v. omega (arith, spans_ascend i j v k, span_ends j k)) (eq-or-lt_of_le (le_of_suc-le-suc u))

    -- the record there, tested beside the next off day alone
    pub found_test : (from day j off k : ℕ) → Found from day j off → rec_at p m from k ≡ rec_on p (num_at p 1) k day off
    unfolding rec_at rec_on
    found_test from day j off k f =
        iff _ _
        (λ h.
        let a = both _ _ h in
        let b = both _ _ a.0 in
        let d = both _ _ b.0 in
        let e = both _ _ d.0 in
        let g = both _ _ e.0 in
        let s : rec_start p k ≡ day = eqb-true _ _ b.1 ∙ f.first in
        let u : rec_end p k ≤ 39999 = leb-true _ _ g.0 in
        join (join d.0 (join (eq-eqb _ _ s) (sym (beside_next u) ∙ (rw s at a.1)))) (rw s at d.1))
        (λ h.
        let a = both _ _ h in
        let b = both _ _ a.0 in
        let d = both _ _ b.0 in
        let g = both _ _ d.0 in
        let o = both _ _ b.1 in
        let s : rec_start p k ≡ day = eqb-true _ _ o.0 in
        let u : rec_end p k ≤ 39999 = leb-true _ _ g.0 in
        join (join (join b.0 (rw s a.1)) (eq-eqb _ _ (s ∙ sym f.first))) (rw s (beside_next u ∙ o.1)))
      where
        beside_next : rec_end p k ≤ 39999 → no_off p m day (rec_end p k) ≡ ltb (rec_end p k) off
        beside_next u = no_off_lem day (rec_end p k) j off f.next f.ended f.clear (omega arith)

    -- after a record that passes the next is awaited
    pub found_leaves : (from day j off k kind : ℕ) → Found from day j off → rec_on p kind k day off ≡ true → Awaits (suc (rec_end p k)) j off
    found_leaves from day j off k kind f h =
        let r : Passes p kind k day off = passes p kind k day off h in
        record {
          few = f.few;
          next = f.next;
          ahead = r.clear;
          small = omega (arith, r.end);
          ended = λ i w. omega (arith, f.ended i w, r.order);
        }

-- ---- one record, by the bits of its days

module _ (p : List ℤ) (k e x t : ℕ) (end : Bits (rec_end p k) e) (energy : x ≡ rec_energy p k) (type : t ≡ rec_type p k) (kind day off : ℕ) where
  range : rec_in_range e x t ≡ rec_in_range (rec_end p k) (rec_energy p k) (rec_type p k)
  range = rw (bits_le (rec_end p k) e end 39999 (omega arith), energy, type)

  pub rec_out : rec_in_range e x t ≡ false → false ≡ rec_on p kind k day off
  unfolding rec_on
  rec_out h = rw (← range, h)

  module _ (inside : rec_in_range e x t ≡ true) where
    pub end_is : e ≡ rec_end p k
    end_is = let h = both _ _ inside in let i = both _ _ h.0 in bits_small (rec_end p k) e end 39999 (omega arith) (leb-true e 39999 i.0)

    module _ (s : ℕ) (start : Bits (rec_start p k) s) (l : day < 2 ^ 63) where
      between : rec_between s e day off ≡ rec_between (rec_start p k) (rec_end p k) day off
      between = rw (bits_eq (rec_start p k) s start day l, end_is)

      pub rec_beside : rec_between s e day off ≡ false → false ≡ rec_on p kind k day off
      unfolding rec_on
      rec_beside h = rw (← range, inside, ← between, h)

      pub rec_fits : rec_between s e day off ≡ true → fits_kind kind day e ≡ rec_on p kind k day off
      unfolding rec_on
      rec_fits h = rw (← range, inside, ← between, h, end_is)
