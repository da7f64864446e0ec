-- Records: rows that pass the tests are well-formed beside the off spans, and well-formed rows pass. Assumes nothing.
use mathlib.Core.Path.{◌≡◌, refl, sym, ◌∙◌}
use mathlib.Core.Bool.{Bool, true, false, and-true}
use mathlib.Core.List.{List}
use Prim.Native.Nat.{ℕ, zero, suc, ◌+◌, ◌-◌, ◌≤◌, ◌<◌, ◌^◌}
use native.Mathlib.Omega.{arith}
use borrow.Author.Tests.{leb-true, ltb-true, ltb-false, le-leb, lt-leb, eqb-true, eq-eqb}
use lib.Dec.{leb, ltb}
use lib.IntN.{ℤ, pos, negsuc}
use Rattle.numbers.specs.InnerEnergies.{bias_of}
use Rattle.numbers.proofs.Bools.{both, join}
use Rattle.calendar.specs.Calendar.{within}
use Rattle.lists.specs.InnerWell.{Recs, norec, rec}
use Rattle.lists.proofs.Apart.{fits_le}
use Rattle.layout.specs.Layout.{num_at}
use Rattle.point.specs.InnerTests.{rows, spans_ok, rec_start, rec_end, rec_at, rec_leaves, recs_ok, span_row, rec_row}
use Rattle.point.proofs.Rows.{rows_at}
use Rattle.point.proofs.OffDays.{skip_is_first, first_is_skip, no_off_days, days_no_off}

-- a raised energy within its bounds
pub energy_same : (e : ℤ) → leb (bias_of e) 2000000 ≡ within (negsuc 999999) (pos 1000000) e
energy_same (pos n) = go (leb n 1000000) refl
  where
    go : (t : Bool) → leb n 1000000 ≡ t → leb (bias_of (pos n)) 2000000 ≡ leb n 1000000
    go true e = rw e (le-leb (n + 1000000) 2000000 (omega (arith, leb-true n 1000000 e)))
    go false e = rw e (lt-leb (2 ^ 63) 2000000 (omega arith))
energy_same (negsuc n) = go (ltb n 1000000) refl ∙ sym (and-true (leb n 999999))
  where
    go : (t : Bool) → ltb n 1000000 ≡ t → leb (bias_of (negsuc n)) 2000000 ≡ leb n 999999
    go true e =
        let l : n < 1000000 = ltb-true n 1000000 e in
        rw (e, le-leb n 999999 (omega arith)) (le-leb (999999 - n) 2000000 (omega arith))
    go false e =
        let l : 1000000 ≤ n = ltb-false n 1000000 e in
        rw (e, lt-leb n 999999 (omega arith)) (lt-leb (2 ^ 63) 2000000 (omega arith))

module _ (p : List ℤ) (m : ℕ) (spans : spans_ok p m ≡ true) where
  recs_well : (n k from : ℕ) → rows (rec_at p m) (rec_leaves p) from k n ≡ true → from ≤ 40000
      → Recs (num_at p 1) (rows_at (span_row p) 0 m) from (rows_at (rec_row p) k n)
  unfolding rows rows_at rec_at
  recs_well zero k from h l = norec
  recs_well (suc n) k from h l =
      let a = both _ _ h in
      let b = both _ _ a.0 in
      let d = both _ _ b.0 in
      let e = both _ _ d.0 in
      let f = both _ _ e.0 in
      let g = both _ _ f.0 in
      let end : rec_end p k ≤ 39999 = leb-true _ _ g.0 in
      let order : rec_start p k ≤ rec_end p k = fits_le (num_at p 1) (rec_start p k) (rec_end p k) e.1 in
      rec (skip_is_first p m from (rec_start p k) spans l (omega arith) (eqb-true _ _ d.1)) e.1 end
      (sym (energy_same (rec_row p k).energy) ∙ g.1) (leb-true _ _ f.1)
      (λ x u v. no_off_days p m (rec_start p k) (rec_end p k) x spans end b.1 u v)
      (recs_well n (suc k) (suc (rec_end p k)) a.1 (omega arith))

  recs_pass : (n k from : ℕ) → Recs (num_at p 1) (rows_at (span_row p) 0 m) from (rows_at (rec_row p) k n) → from ≤ 40000
      → rows (rec_at p m) (rec_leaves p) from k n ≡ true
  unfolding rows rows_at rec_at
  recs_pass zero k from r l = refl
  recs_pass (suc n) k from (rec a b d e f g r) l =
      let order : rec_start p k ≤ rec_end p k = fits_le (num_at p 1) (rec_start p k) (rec_end p k) b in
      join
      (join (join (join (join (join (le-leb _ _ d) (energy_same (rec_row p k).energy ∙ e)) (le-leb _ _ f)) b)
      (eq-eqb _ _ (first_is_skip p m from (rec_start p k) spans l a)))
      (days_no_off p m (rec_start p k) (rec_end p k) spans order d g))
      (recs_pass n (suc k) (suc (rec_end p k)) r (omega arith))

  pub records_well : (n : ℕ) → num_at p 2 ≤ 39999 → recs_ok p m n ≡ true → Recs (num_at p 1) (rows_at (span_row p) 0 m) (num_at p 2) (rows_at (rec_row p) 0 n)
  unfolding recs_ok
  records_well n l h = recs_well n 0 (num_at p 2) h (omega arith)

  pub records_pass : (n : ℕ) → num_at p 2 ≤ 39999 → Recs (num_at p 1) (rows_at (span_row p) 0 m) (num_at p 2) (rows_at (rec_row p) 0 n) → recs_ok p m n ≡ true
  unfolding recs_ok
  records_pass n l r = recs_pass n 0 (num_at p 2) r (omega arith)
