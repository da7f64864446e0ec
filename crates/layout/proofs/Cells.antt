-- Which number of a point's layout stands at each place. A row that is missing reads as zeros, so the laws of a row hold
-- at every index of its block. Assumes nothing.
use mathlib.Core.Path.{◌≡◌, refl, sym, ap, ◌∙◌}
use mathlib.Core.Option.{Option, some}
use mathlib.Core.List.{List, [], ◌∷◌, ◌++◌}
use Prim.Native.Nat.{ℕ, zero, suc, ◌+◌, ◌*◌, ◌<◌}
use native.Mathlib.Omega.{arith}
use lib.IntN.{ℤ, pos}
use lib.ListN.{length, get_or, get_or-append}
use Rattle.numbers.specs.Naturals.{nat_of}
use Rattle.daybook.specs.Book.{Entry}
use Rattle.lists.specs.Lists.{Lists}
use Rattle.lists.specs.InnerWell.{Well}
use Rattle.layout.specs.Layout.{reg_numbers, on_number, off_numbers, rec_numbers, pending_or_zeros, head_numbers, point_numbers, num_at}
use Rattle.layout.proofs.Numbers.{get_d_past, Few, in_regs, in_offs, in_recs}

-- ---- the numbers of a row

abbrev pub reg_row : ℕ × ℕ → List ℤ
reg_row x = pos x.0 ∷ pos x.1 ∷ []

abbrev pub off_row : ℕ × Option ℕ → List ℤ
off_row x = pos x.0 ∷ on_number x.1 ∷ []

abbrev pub rec_row : Entry → List ℤ
rec_row x = pos x.start ∷ pos x.end ∷ x.energy ∷ pos x.type ∷ []

-- What stands for a row that is missing.
abbrev pub no_reg : ℕ × ℕ
no_reg = (0, 0)

abbrev pub no_off : ℕ × Option ℕ
no_off = (0, some 0)

abbrev pub no_rec : Entry
no_rec = record { start = 0; end = 0; energy = pos 0; type = 0 }

-- number j of row k, of rows of w numbers; `gap` is a row of zeros
module _ {X : Type 0} (w : ℕ) (row : X → List ℤ) (gap : X) (numbers : List X → List ℤ)
    (empty : numbers [] ≡ []) (more : (x : X) (l : List X) → numbers (x ∷ l) ≡ row x ++ numbers l)
    (wide : (x : X) → length (row x) ≡ w) (zeros : (j : ℕ) → get_or (row gap) j (pos 0) ≡ pos 0) where
  row_at : (l : List X) (k j : ℕ) → j < w → get_or (numbers l) (w * k + j) (pos 0) ≡ get_or (row (get_or l k gap)) j (pos 0)
  row_at [] k j h = ap (λ l. get_or l (w * k + j) (pos 0)) empty ∙ sym (zeros j)
  row_at (x ∷ l) zero j h =
      let e : w * 0 + j ≡ j = omega arith in
      ap (λ l. get_or l (w * 0 + j) (pos 0)) (more x l) ∙ ap (λ i. get_or (row x ++ numbers l) i (pos 0)) e
      ∙ get_or-append (row x) (numbers l) (pos 0) j (omega (arith, wide x))
  row_at (x ∷ l) (suc k) j h =
      let e : w * suc k + j ≡ w + (w * k + j) = omega arith in
      ap (λ l. get_or l (w * suc k + j) (pos 0)) (more x l) ∙ ap (λ i. get_or (row x ++ numbers l) i (pos 0)) e
      ∙ get_d_past w (row x) (numbers l) (w * k + j) (wide x) ∙ row_at l k j h

pub reg_number : (l : List (ℕ × ℕ)) (k j : ℕ) → j < 2
    → get_or (reg_numbers l) (2 * k + j) (pos 0) ≡ get_or (reg_row (get_or l k no_reg)) j (pos 0)
unfolding reg_numbers
reg_number = row_at 2 reg_row no_reg reg_numbers refl (λ x l. refl) (λ x. refl) zeros
  where
    zeros : (j : ℕ) → get_or (reg_row no_reg) j (pos 0) ≡ pos 0
    zeros zero = refl
    zeros (suc zero) = refl
    zeros (suc (suc j)) = refl

pub off_number : (l : List (ℕ × Option ℕ)) (k j : ℕ) → j < 2
    → get_or (off_numbers l) (2 * k + j) (pos 0) ≡ get_or (off_row (get_or l k no_off)) j (pos 0)
unfolding off_numbers
off_number = row_at 2 off_row no_off off_numbers refl (λ x l. refl) (λ x. refl) zeros
  where
    zeros : (j : ℕ) → get_or (off_row no_off) j (pos 0) ≡ pos 0
    zeros zero = refl
    zeros (suc zero) = refl
    zeros (suc (suc j)) = refl

pub rec_number : (l : List Entry) (k j : ℕ) → j < 4
    → get_or (rec_numbers l) (4 * k + j) (pos 0) ≡ get_or (rec_row (get_or l k no_rec)) j (pos 0)
unfolding rec_numbers
rec_number = row_at 4 rec_row no_rec rec_numbers refl (λ x l. refl) (λ x. refl) zeros
  where
    zeros : (j : ℕ) → get_or (rec_row no_rec) j (pos 0) ≡ pos 0
    zeros zero = refl
    zeros (suc zero) = refl
    zeros (suc (suc zero)) = refl
    zeros (suc (suc (suc zero))) = refl
    zeros (suc (suc (suc (suc j)))) = refl

-- ---- the head of a point

module _ (room : ℕ) (q : Lists) where
  pub cell_mirn : num_at (point_numbers room q) 0 ≡ q.facts.mirn
  unfolding point_numbers head_numbers
  cell_mirn = refl

  pub cell_kind : num_at (point_numbers room q) 1 ≡ q.facts.kind
  unfolding point_numbers head_numbers
  cell_kind = refl

  pub cell_install : num_at (point_numbers room q) 2 ≡ q.facts.install
  unfolding point_numbers head_numbers
  cell_install = refl

  pub cell_base : num_at (point_numbers room q) 3 ≡ q.facts.base
  unfolding point_numbers head_numbers
  cell_base = refl

  pub cell_regs : num_at (point_numbers room q) 4 ≡ length q.regs
  unfolding point_numbers head_numbers
  cell_regs = refl

  pub cell_offs : num_at (point_numbers room q) 5 ≡ length q.offs
  unfolding point_numbers head_numbers
  cell_offs = refl

  pub cell_recs : num_at (point_numbers room q) 6 ≡ length q.recs
  unfolding point_numbers head_numbers
  cell_recs = refl

  pub cell_user : num_at (point_numbers room q) 7 ≡ (pending_or_zeros q.pending).user
  unfolding point_numbers head_numbers
  cell_user = refl

  pub cell_first : num_at (point_numbers room q) 8 ≡ (pending_or_zeros q.pending).first
  unfolding point_numbers head_numbers
  cell_first = refl

  pub cell_last : num_at (point_numbers room q) 9 ≡ (pending_or_zeros q.pending).last
  unfolding point_numbers head_numbers
  cell_last = refl

  pub cell_section : num_at (point_numbers room q) 10 ≡ q.facts.section
  unfolding point_numbers head_numbers
  cell_section = refl

-- ---- the rows of a point

module _ {room : ℕ} {q : Lists} (f : Few room q) (k : ℕ) where
  reg_cell : (j i : ℕ) → k < 8 → j < 2 → i ≡ 16 + (2 * k + j)
      → get_or (point_numbers room q) i (pos 0) ≡ get_or (reg_row (get_or q.regs k no_reg)) j (pos 0)
  reg_cell j i h l e = ap (λ i. get_or (point_numbers room q) i (pos 0)) e ∙ in_regs f (2 * k + j) (omega arith) ∙ reg_number q.regs k j l

  off_cell : (j i : ℕ) → k < 8 → j < 2 → i ≡ 32 + (2 * k + j)
      → get_or (point_numbers room q) i (pos 0) ≡ get_or (off_row (get_or q.offs k no_off)) j (pos 0)
  off_cell j i h l e = ap (λ i. get_or (point_numbers room q) i (pos 0)) e ∙ in_offs f (2 * k + j) (omega arith) ∙ off_number q.offs k j l

  rec_cell : (j i : ℕ) → j < 4 → i ≡ 48 + (4 * k + j)
      → get_or (point_numbers room q) i (pos 0) ≡ get_or (rec_row (get_or q.recs k no_rec)) j (pos 0)
  rec_cell j i l e = ap (λ i. get_or (point_numbers room q) i (pos 0)) e ∙ in_recs f (4 * k + j) ∙ rec_number q.recs k j l

  pub cell_reg_start : k < 8 → num_at (point_numbers room q) (16 + 2 * k) ≡ (get_or q.regs k no_reg).0
  cell_reg_start h = ap nat_of (reg_cell 0 (16 + 2 * k) h (omega arith) (omega arith))

  pub cell_reg_user : k < 8 → num_at (point_numbers room q) (16 + 2 * k + 1) ≡ (get_or q.regs k no_reg).1
  cell_reg_user h = ap nat_of (reg_cell 1 (16 + 2 * k + 1) h (omega arith) (omega arith))

  pub cell_off : k < 8 → num_at (point_numbers room q) (32 + 2 * k) ≡ (get_or q.offs k no_off).0
  cell_off h = ap nat_of (off_cell 0 (32 + 2 * k) h (omega arith) (omega arith))

  pub cell_on : k < 8 → get_or (point_numbers room q) (32 + 2 * k + 1) (pos 0) ≡ on_number (get_or q.offs k no_off).1
  cell_on h = off_cell 1 (32 + 2 * k + 1) h (omega arith) (omega arith)

  pub cell_rec_start : num_at (point_numbers room q) (48 + 4 * k) ≡ (get_or q.recs k no_rec).start
  cell_rec_start = ap nat_of (rec_cell 0 (48 + 4 * k) (omega arith) (omega arith))

  pub cell_rec_end : num_at (point_numbers room q) (48 + 4 * k + 1) ≡ (get_or q.recs k no_rec).end
  cell_rec_end = ap nat_of (rec_cell 1 (48 + 4 * k + 1) (omega arith) (omega arith))

  pub cell_rec_energy : get_or (point_numbers room q) (48 + 4 * k + 2) (pos 0) ≡ (get_or q.recs k no_rec).energy
  cell_rec_energy = rec_cell 2 (48 + 4 * k + 2) (omega arith) (omega arith)

  pub cell_rec_type : num_at (point_numbers room q) (48 + 4 * k + 3) ≡ (get_or q.recs k no_rec).type
  cell_rec_type = ap nat_of (rec_cell 3 (48 + 4 * k + 3) (omega arith) (omega arith))

-- ---- the same of a part that is the layout of a well-formed point

module _ {room : ℕ} {q : Lists} (w : Well room q) {p : List ℤ} (e : point_numbers room q ≡ p) where
  pub place_kind : num_at p 1 ≡ q.facts.kind
  place_kind = ap (λ p. num_at p 1) (sym e) ∙ cell_kind room q

  pub place_install : num_at p 2 ≡ q.facts.install
  place_install = ap (λ p. num_at p 2) (sym e) ∙ cell_install room q

  pub place_regs : num_at p 4 ≡ length q.regs
  place_regs = ap (λ p. num_at p 4) (sym e) ∙ cell_regs room q

  pub place_offs : num_at p 5 ≡ length q.offs
  place_offs = ap (λ p. num_at p 5) (sym e) ∙ cell_offs room q

  pub place_recs : num_at p 6 ≡ length q.recs
  place_recs = ap (λ p. num_at p 6) (sym e) ∙ cell_recs room q

  pub place_user : num_at p 7 ≡ (pending_or_zeros q.pending).user
  place_user = ap (λ p. num_at p 7) (sym e) ∙ cell_user room q

  pub place_first : num_at p 8 ≡ (pending_or_zeros q.pending).first
  place_first = ap (λ p. num_at p 8) (sym e) ∙ cell_first room q

  pub place_last : num_at p 9 ≡ (pending_or_zeros q.pending).last
  place_last = ap (λ p. num_at p 9) (sym e) ∙ cell_last room q

  pub place_section : num_at p 10 ≡ q.facts.section
  place_section = ap (λ p. num_at p 10) (sym e) ∙ cell_section room q
