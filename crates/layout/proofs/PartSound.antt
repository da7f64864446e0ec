-- The layout of well-formed lists is a sound part. Assumes nothing.
use mathlib.Core.Path.{◌≡◌, refl, sym, ap, ◌∙◌}
use mathlib.Core.Bool.{Bool, true, false, cond}
use mathlib.Core.Option.{Option}
use mathlib.Core.List.{List}
use Prim.Native.Nat.{ℕ, ◌+◌, ◌-◌, ◌*◌, ◌/◌, ◌≤◌, ◌<◌, ◌^◌}
use native.Mathlib.Omega.{arith}
use lib.Dec.{eqb}
use lib.IntN.{ℤ, pos, negsuc}
use lib.ListN.{length, get_or, get_or-eq_default}
use borrow.Author.Tests.{eqb-true, le-leb, eq-eqb}
use Rattle.numbers.specs.Naturals.{nat_of}
use Rattle.numbers.specs.Rows.{all}
use Rattle.numbers.proofs.Rows.{all_at, all_of}
use Rattle.numbers.proofs.Bools.{join}
use Rattle.daybook.specs.Book.{Pending}
use Rattle.lists.specs.Lists.{Lists}
use Rattle.lists.specs.InnerWell.{PendingOk, nopending, pending, Well}
use Rattle.lists.proofs.Registrations.{some_reg_lem}
use Rattle.layout.specs.Places.{regs_place, spare_place}
use Rattle.layout.specs.Layout.{reg_numbers, off_numbers, rec_numbers, pending_or_zeros, head_numbers, point_numbers, num_at}
use Rattle.layout.specs.Sound.{lists_sound, zeros, counts_sound, unused_zero, part_sound}
use Rattle.layout.proofs.Numbers.{length_reg_numbers, length_off_numbers, length_rec_numbers, few, length_point, in_regs, in_offs, in_recs}
use Rattle.layout.proofs.Cells.{cell_regs, cell_offs, cell_recs, cell_user, cell_first, cell_last}
use Rattle.layout.proofs.Parse.{point_alone}
use Rattle.layout.proofs.ListsSound.{well_lists_sound}

-- ---- places that are 0

zero_is : (x : ℤ) → eqb (nat_of x) 0 ≡ true → x ≡ pos 0
zero_is (pos n) e = ap pos (eqb-true n 0 e)
zero_is (negsuc n) e = absurd (omega (arith, eqb-true (2 ^ 63) 0 e))

pub zeros_at : (t : List ℤ) (a b : ℕ) → zeros t a b ≡ true → (i : ℕ) → a ≤ i → i < b → get_or t i (pos 0) ≡ pos 0
unfolding zeros
zeros_at t a b e i h k =
    let j : a + (i - a) ≡ i = omega arith in
    ap (λ n. get_or t n (pos 0)) (sym j)
    ∙ zero_is (get_or t (a + (i - a)) (pos 0)) (all_at (λ k. eqb (num_at t (a + k)) 0) (b - a) e (i - a) (omega arith))

pub zeros_of_lem : (t : List ℤ) (a b : ℕ) → ((i : ℕ) → a ≤ i → i < b → get_or t i (pos 0) ≡ pos 0) → zeros t a b ≡ true
unfolding zeros
zeros_of_lem t a b f =
    all_of (λ k. eqb (num_at t (a + k)) 0) (b - a) (λ k h. ap (λ x. eqb (nat_of x) 0) (f (a + k) (omega arith) (omega arith)))

-- ---- the layout

no_user_lem : {regs : List (ℕ × ℕ)} {o : Option Pending} → PendingOk regs o → (pending_or_zeros o).user ≡ 0 → ((pending_or_zeros o).first ≡ 0) × ((pending_or_zeros o).last ≡ 0)
no_user_lem nopending e = (refl, refl)
no_user_lem (pending a b n c d f) e = absurd (omega arith)

module _ {room : ℕ} {q : Lists} (w : Well room q) where
  abbrev p : List ℤ
  p = point_numbers room q

  counts : counts_sound p ≡ true
  unfolding counts_sound
  counts =
      let some_reg = le-leb 1 (num_at p 4) (omega (arith, cell_regs room q, some_reg_lem w.regs_start)) in
      let few_regs = le-leb (num_at p 4) 8 (omega (arith, cell_regs room q, w.regs_few)) in
      let few_offs = le-leb (num_at p 5) 8 (omega (arith, cell_offs room q, w.offs_few)) in
      let few_recs = le-leb (num_at p 6) ((length p - 48) / 4) (omega (arith, cell_recs room q, w.recs_few, length_point (few w))) in
      join (join (join some_reg few_regs) few_offs) few_recs

  head_unused : zeros p spare_place regs_place ≡ true
  unfolding zeros all point_numbers head_numbers
  head_unused = refl

  regs_unused : zeros p (16 + 2 * num_at p 4) 32 ≡ true
  regs_unused = zeros_of_lem p (16 + 2 * num_at p 4) 32 (λ i h k.
      let e : i ≡ 16 + (i - 16) = omega arith in
      ap (λ i. get_or p i (pos 0)) e ∙ in_regs (few w) (i - 16) (omega arith)
      ∙ get_or-eq_default (reg_numbers q.regs) (pos 0) (omega (arith, length_reg_numbers q.regs, cell_regs room q)))

  offs_unused : zeros p (32 + 2 * num_at p 5) 48 ≡ true
  offs_unused = zeros_of_lem p (32 + 2 * num_at p 5) 48 (λ i h k.
      let e : i ≡ 32 + (i - 32) = omega arith in
      ap (λ i. get_or p i (pos 0)) e ∙ in_offs (few w) (i - 32) (omega arith)
      ∙ get_or-eq_default (off_numbers q.offs) (pos 0) (omega (arith, length_off_numbers q.offs, cell_offs room q)))

  recs_unused : zeros p (48 + 4 * num_at p 6) (length p) ≡ true
  recs_unused = zeros_of_lem p (48 + 4 * num_at p 6) (length p) (λ i h k.
      let e : i ≡ 48 + (i - 48) = omega arith in
      ap (λ i. get_or p i (pos 0)) e ∙ in_recs (few w) (i - 48)
      ∙ get_or-eq_default (rec_numbers q.recs) (pos 0) (omega (arith, length_rec_numbers q.recs, cell_recs room q)))

  pending_unused : cond (eqb (num_at p 7) 0) (zeros p 7 10) true ≡ true
  unfolding zeros all
  pending_unused = go (eqb (num_at p 7) 0) refl
    where
      go : (t : Bool) → eqb (num_at p 7) 0 ≡ t → cond t (zeros p 7 10) true ≡ true
      go false e = refl
      go true e =
          let u : num_at p 7 ≡ 0 = eqb-true (num_at p 7) 0 e in
          let z = no_user_lem w.pending_ok (sym (cell_user room q) ∙ u) in
          join (eq-eqb (num_at p 9) 0 (cell_last room q ∙ z.1)) (join (eq-eqb (num_at p 8) 0 (cell_first room q ∙ z.0)) (join e refl))

  pub lays_part : part_sound (point_numbers room q) ≡ true
  unfolding part_sound unused_zero
  lays_part =
      join (join counts (join (join (join (join head_unused regs_unused) offs_unused) recs_unused) pending_unused))
      (ap lists_sound (point_alone w) ∙ well_lists_sound w)
