-- What the functions that work on a point's part read from it and leave in it, on the lists that it is the layout of.
-- Assumes nothing.
use mathlib.Core.Path.{◌≡◌, refl, sym, ◌∙◌, ap, ap₂}
use mathlib.Core.Bool.{Bool, true, false, not, ◌&&◌, ◌||◌, cond}
use mathlib.Core.Option.{Option, none, some}
use mathlib.Core.List.{List, [], ◌∷◌}
use Prim.Native.Nat.{ℕ, suc, ◌+◌, ◌-◌, ◌*◌, ◌≤◌, ◌<◌}
use native.Mathlib.Omega.{arith}
use borrow.Author.Tests.{le-leb, lt-ltb, eq-eqb, ne_eqb, leb-false}
use lib.Dec.{leb, eqb}
use lib.ListN.{length, get_or, take}
use lib.Seq.{length-take-le}
use lib.IntN.{ℤ, pos}
use Rattle.numbers.specs.Search.{maybe}
use Rattle.daybook.specs.Book.{Entry, last_of}
use Rattle.daybook.specs.Notices.{least, cannot_off, cannot_on, status_rows}
use Rattle.lists.specs.Lists.{Lists}
use Rattle.lists.specs.InnerSteps.{last_end, offs_after, with_offs}
use Rattle.lists.specs.InnerWell.{Well}
use Rattle.lists.proofs.Last.{last_none, last_at, split_last}
use Rattle.lists.proofs.Rows.{above, least_first, least_skip, least_none}
use Rattle.layout.specs.Layout.{on_number, point_numbers, num_at}
use Rattle.layout.specs.InnerWrites.{open_span, close_span}
use Rattle.layout.proofs.Numbers.{few}
use Rattle.layout.proofs.Cells.{no_off, no_rec, cell_off, cell_on, cell_rec_end, place_offs, place_recs}
use Rattle.layout.proofs.RowWrites.{open_span_lem, close_span_lem}
use Rattle.point.specs.InnerTests.{until_of}
use Rattle.status.specs.InnerParts.{filled_from, cannot_switch, status_rows_of, switched_lists}
use Rattle.status.proofs.LastRow.{closed_last, on_day_lem}

-- ---- one span

-- Its on day as the code reads it.
until_on : (o : Option ℕ) → ((d : ℕ) → o ≡ some d → d ≤ 39999) → until_of (on_number o) ≡ maybe 40001 (λ d. d) o
until_on none f = refl
until_on (some d) f = let l : d ≤ 39999 = f d refl in rw (lt-ltb d 40000 (omega arith))

off_by : (day : ℕ) (x : ℕ × Option ℕ) (u : ℕ) → u ≡ maybe 40001 (λ d. d) x.1 → day ≤ 39999 → leb day u ≡ cannot_off day (some x)
off_by day (off, none) u e h = le-leb day u (omega arith)
off_by day (off, some on) u e h = ap (leb day) e

on_by : (day : ℕ) (x : ℕ × Option ℕ) (u : ℕ) → u ≡ maybe 40001 (λ d. d) x.1 → ((d : ℕ) → x.1 ≡ some d → d ≤ 39999)
    → (not (eqb u 40001) || leb day x.0) ≡ cannot_on day (some x)
on_by day (off, none) u e f = rw (eq-eqb u 40001 e)
on_by day (off, some on) u e f =
    let l : on ≤ 39999 = f on refl in
    let n : u ≡ 40001 → ⊥ = λ (z : u ≡ 40001). omega arith in
    rw (ne_eqb u 40001 n)

-- ---- the last rows

module _ {room : ℕ} {q : Lists} (w : Well room q) {p : List ℤ} (e : point_numbers room q ≡ p) where
  module _ (day n : ℕ) (c : n ≡ num_at p 5) where
    pub off_unswitched : n ≡ 0 → false ≡ cannot_off day (last_of q.offs)
    off_unswitched z = ap (cannot_off day) (sym (last_none q.offs (omega (arith, place_offs w e))))

    pub on_unswitched : n ≡ 0 → true ≡ cannot_on day (last_of q.offs)
    on_unswitched z = ap (cannot_on day) (sym (last_none q.offs (omega (arith, place_offs w e))))

    module _ (some-span : n ≡ 0 → ⊥) where
      abbrev last_span : ℕ × Option ℕ
      last_span = get_or q.offs (n - 1) no_off

      last_span_lem : last_of q.offs ≡ some last_span
      last_span_lem = last_at no_off q.offs (n - 1) (omega (arith, place_offs w e, some-span))

      span_day : (d : ℕ) → last_span.1 ≡ some d → d ≤ 39999
      span_day = on_day_lem w.offs_ok (n - 1)

      row_low : n - 1 < 8
      row_low = omega (arith, place_offs w e, some-span, w.offs_few)

      last_until : until_of (get_or p (32 + 2 * (n - 1) + 1) (pos 0)) ≡ maybe 40001 (λ d. d) last_span.1
      last_until =
          ap (λ p. until_of (get_or p (32 + 2 * (n - 1) + 1) (pos 0))) (sym e)
          ∙ ap until_of (cell_on (few w) (n - 1) row_low) ∙ until_on last_span.1 span_day

      pub off_switched : (u : ℕ) → u ≡ until_of (get_or p (32 + 2 * (n - 1) + 1) (pos 0)) → day ≤ 39999
          → leb day u ≡ cannot_off day (last_of q.offs)
      off_switched u r h = off_by day last_span u (r ∙ last_until) h ∙ ap (cannot_off day) (sym last_span_lem)

      pub on_switched : (u s : ℕ) → u ≡ until_of (get_or p (32 + 2 * (n - 1) + 1) (pos 0)) → s ≡ num_at p (32 + 2 * (n - 1))
          → (not (eqb u 40001) || leb day s) ≡ cannot_on day (last_of q.offs)
      on_switched u s r v =
          ap (λ s. not (eqb u 40001) || leb day s) (v ∙ ap (λ p. num_at p (32 + 2 * (n - 1))) (sym e) ∙ cell_off (few w) (n - 1) row_low)
          ∙ on_by day last_span u (r ∙ last_until) span_day ∙ ap (cannot_on day) (sym last_span_lem)

  module _ (day n : ℕ) (c : n ≡ num_at p 6) where
    pub unfilled : n ≡ 0 → false ≡ filled_from day q
    unfolding last_end
    unfilled z =
        ap (λ (o : Option Entry). maybe false (leb day) (maybe none (λ x. some x.end) o))
        (sym (last_none q.recs (omega (arith, place_recs w e))))

    pub filled_to_lem : (n ≡ 0 → ⊥) → (d : ℕ) → d ≡ num_at p (48 + 4 * (n - 1) + 1) → leb day d ≡ filled_from day q
    unfolding last_end
    filled_to_lem some-rec d r =
        ap (leb day) (r ∙ ap (λ p. num_at p (48 + 4 * (n - 1) + 1)) (sym e) ∙ cell_rec_end (few w) (n - 1))
        ∙ ap (λ (o : Option Entry). maybe false (leb day) (maybe none (λ x. some x.end) o))
        (sym (last_at no_rec q.recs (n - 1) (omega (arith, place_recs w e, some-rec))))

  -- ---- what is written

  pub open_is : (day n : ℕ) → n ≡ num_at p 5 → n < 8 → open_span p n day ≡ point_numbers room (switched_lists day 0 q)
  unfolding offs_after
  open_is day n c h =
      ap₂ (λ p n. open_span p n day) (sym e) (c ∙ place_offs w e)
      ∙ open_span_lem room q (few w) day (omega (arith, place_offs w e))

  pub close_is : (day n : ℕ) → n ≡ num_at p 5 → 1 ≤ n → close_span p (n - 1) day ≡ point_numbers room (switched_lists day 1 q)
  unfolding offs_after
  close_is day n c h =
      let m : length q.offs ≡ suc (n - 1) = omega (arith, place_offs w e) in
      let x : ℕ × Option ℕ = get_or q.offs (n - 1) no_off in
      ap₂ (λ p n. close_span p n day) (sym e) (sym (length-take-le (n - 1) q.offs (omega arith)))
      ∙ close_span_lem room q (few w) (take (n - 1) q.offs) x.0 x.1 day (split_last no_off q.offs (n - 1) m)
      ∙ ap (λ l. point_numbers room (with_offs l q)) (sym (closed_last day q.offs (n - 1) m))

-- ---- the rows

is_off : (on : Bool) → eqb (cond on 1 0) 0 ≡ not on
is_off true = refl
is_off false = refl

module _ (day : ℕ) (on : Bool) (q : Lists) (b : Bool) (fourteen : b ≡ cannot_switch day (cond on 1 0) q) where
  full_is : (eqb (cond on 1 0) 0 && leb 8 (length q.offs)) ≡ (not on && leb 8 (length q.offs))
  full_is = ap (λ t. t && leb 8 (length q.offs)) (is_off on)

  pub row_fourteen : b ≡ true → 14 ≡ least (status_rows_of day (cond on 1 0) q)
  unfolding status_rows above
  row_fourteen h = sym (least_first 14 _ _ refl (sym fourteen ∙ h))

  pub row_sixteen : b ≡ false → (not on && leb 8 (length q.offs)) ≡ true → 16 ≡ least (status_rows_of day (cond on 1 0) q)
  unfolding status_rows above
  row_sixteen h k = sym (least_skip 14 _ _ (sym fourteen ∙ h) ∙ least_first 16 _ [] refl (full_is ∙ k))

  pub row_none : b ≡ false → (not on && leb 8 (length q.offs)) ≡ false → 0 ≡ least (status_rows_of day (cond on 1 0) q)
  unfolding status_rows least
  row_none h k = sym (least_skip 14 _ ((16, eqb (cond on 1 0) 0 && leb 8 (length q.offs)) ∷ []) (sym fourteen ∙ h) ∙ least_skip 16 _ [] (full_is ∙ k))

-- where no row applies, there is room for a span that opens, and a span to close
module _ (day : ℕ) (q : Lists) where
  pub room_to_open : least (status_rows_of day 0 q) ≡ 0 → length q.offs < 8
  unfolding status_rows
  room_to_open z = leb-false 8 (length q.offs) (least_none 15 _ [] (least_none 13 _ _ z).1).0

  pub span_to_close : least (status_rows_of day 1 q) ≡ 0 → 1 ≤ length q.offs
  unfolding status_rows last_of
  span_to_close z = go q.offs (least_none 13 _ _ z).0
    where
      go : (l : List (ℕ × Option ℕ)) → cannot_on day (last_of l) ≡ false → 1 ≤ length l
      go [] h = let k : ◌≡◌ {A = ℕ} 0 1 = cc in absurd (omega arith)
      go (x ∷ l) h = omega arith
