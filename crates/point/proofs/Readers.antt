-- What the readers of a part's spans answer, on the lists that the part is the layout of. Assumes nothing.
use mathlib.Core.Path.{◌≡◌, refl, sym, ap, ap₂, subst, ◌∙◌}
use mathlib.Core.Bool.{Bool, true, false, not, ◌&&◌, ◌||◌}
use mathlib.Core.List.{List}
use Prim.Native.Nat.{ℕ, zero, suc, ◌+◌, ◌≤◌}
use native.Mathlib.Omega.{arith}
use borrow.Author.Tests.{leb-true, leb-false, ltb-true, ltb-false, le-ltb, lt-ltb, le-leb, lt-leb}
use lib.Dec.{leb, ltb}
use lib.ListN.{length, drop}
use lib.IntN.{ℤ}
use Rattle.numbers.specs.Rows.{all}
use Rattle.numbers.proofs.Rows.{all_front, all_same}
use Rattle.lists.specs.Lists.{Lists}
use Rattle.lists.specs.InnerSteps.{skip, overlaps, some_overlap}
use Rattle.lists.specs.InnerWell.{Spans, Well}
use Rattle.layout.specs.Layout.{num_at, on_of, offs_from, point_from, point_numbers}
use Rattle.layout.proofs.Cells.{cell_install, cell_offs}
use Rattle.layout.proofs.Parse.{point_alone}
use Rattle.point.specs.InnerTests.{until_of, off_day, on_day, spans_ok, first_on, apart, apart_at, no_off, span_row, day_if}
use Rattle.point.proofs.Rows.{rows_at, offs_read}
use Rattle.point.proofs.Spans.{On, opened, closed, wrong, view, on_number_at, Passing, First, first, spans_tests}
use Rattle.point.proofs.OffDays.{skip_first}

-- ---- days beside a span

after_or_by : (a b : ℕ) → ltb a b ≡ not (leb b a)
after_or_by a b = go (leb b a) refl
  where
    go : (t : Bool) → leb b a ≡ t → ltb a b ≡ not t
    go true e = le-ltb a b (leb-true b a e)
    go false e = lt-ltb a b (leb-false b a e)

not_both : (s t : Bool) → (not s || not t) ≡ not (s && t)
not_both true t = refl
not_both false t = refl

apart_is : (a b off : ℕ) (x : ℤ) → until_of x ≤ 40001 → a ≤ 40000 → apart a b off (until_of x) ≡ not (overlaps a b (off, on_of x))
apart_is a b off x h l = go (view x)
  where
    by : (on : ℕ) → apart a b off on ≡ not (leb off b && ltb a on)
    by on = ap₂ ◌||◌ (after_or_by b off) (by_on (ltb a on) refl) ∙ not_both (leb off b) (ltb a on)
      where
        by_on : (t : Bool) → ltb a on ≡ t → leb on a ≡ not t
        by_on true e = lt-leb on a (ltb-true a on e)
        by_on false e = le-leb on a (ltb-false a on e)

    go : On x → apart a b off (until_of x) ≡ not (overlaps a b (off, on_of x))
    go (opened e u) = by (until_of x) ∙ rw (e, u, lt-ltb a 40001 (omega arith))
    go (closed e u) = by (until_of x) ∙ rw e
    go (wrong e v u) = absurd (omega arith)

not_or : (s t : Bool) → (not s && not t) ≡ not (s || t)
not_or true t = refl
not_or false t = refl

module _ (p : List ℤ) (a b : ℕ) (low : a ≤ 40000) where
  clear_is : (n k lo : ℕ) → Passing p lo k n → all (λ i. apart_at p a b (k + i)) n ≡ not (some_overlap a b (rows_at (span_row p) k n))
  unfolding some_overlap rows_at all
  clear_is zero k lo h = refl
  clear_is (suc n) k lo h =
      let r : First p lo k n = first p lo k n h in
      let z : k + 0 ≡ k = omega arith in
      all_front (λ i. apart_at p a b (k + i)) n
      ∙ ap₂ ◌&&◌ (ap (apart_at p a b) z ∙ apart_is a b (off_day p k) (on_number_at p k) r.until low)
      (all_same _ _ n (λ i l. ap (apart_at p a b) (shift i)) ∙ clear_is n (suc k) (suc (on_day p k)) r.others)
      ∙ not_or (overlaps a b (span_row p k)) (some_overlap a b (rows_at (span_row p) (suc k) n))
    where
      shift : (i : ℕ) → k + suc i ≡ suc k + i
      shift i = omega arith

module _ {room : ℕ} {q : Lists} (w : Well room q) where
  -- the spans that the tests read are those laid out, and they pass
  offs_here : rows_at (span_row (point_numbers room q)) 0 (length q.offs) ≡ q.offs
  unfolding point_from
  offs_here =
      sym (offs_read (point_numbers room q) (length q.offs) 0)
      ∙ ap (λ n. offs_from n (drop 32 (point_numbers room q))) (sym (cell_offs room q))
      ∙ ap (λ r. r.offs) (point_alone w)

  spans_pass : spans_ok (point_numbers room q) (length q.offs) ≡ true
  spans_pass =
      spans_tests (point_numbers room q) (length q.offs)
      (subst (λ lo. Spans lo (rows_at (span_row (point_numbers room q)) 0 (length q.offs))) (sym (cell_install room q)) (subst (Spans q.facts.install) (sym offs_here) w.offs_ok))

  -- `first_on`: the append day is of this
  pub first_on_is : (d : ℕ) → d ≤ 40000 → day_if (first_on (point_numbers room q) (length q.offs) d) ≡ skip q.offs d
  first_on_is d h =
      sym (skip_first (point_numbers room q) (length q.offs) d spans_pass h)
      ∙ ap (λ l. skip l d) offs_here

  -- `no_off`
  pub no_off_is : (a b : ℕ) → a ≤ 40000 → no_off (point_numbers room q) (length q.offs) a b ≡ not (some_overlap a b q.offs)
  unfolding no_off spans_ok
  no_off_is a b h =
      let p : List ℤ = point_numbers room q in
      all_same _ _ (length q.offs) (λ i l. ap (apart_at p a b) (zeroed i))
      ∙ clear_is p a b h (length q.offs) 0 (num_at p 2) spans_pass
      ∙ ap (λ l. not (some_overlap a b l)) offs_here
    where
      zeroed : (i : ℕ) → i ≡ 0 + i
      zeroed i = omega arith
