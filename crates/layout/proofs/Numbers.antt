-- Blocks of numbers padded with zeros; how many numbers a point has, and which block each stands in. Assumes nothing.
use mathlib.Core.Path.{◌≡◌, refl, sym, ap, ◌∙◌}
use mathlib.Core.Bool.{Bool, true, false}
use mathlib.Core.Option.{Option}
use mathlib.Core.List.{List, [], ◌∷◌, ◌++◌}
use Prim.Native.Nat.{ℕ, zero, suc, ◌+◌, ◌-◌, ◌*◌, ◌≤◌, ◌<◌}
use native.Mathlib.Omega.{arith}
use lib.Dec.{ltb}
use lib.IntN.{ℤ, pos}
use lib.ListN.{length, get_or, take, drop, replicate, length-append, length-replicate, get_or-append, get_or-eq_default}
use lib.Seq.{take_at, drop_at, get_or-append-add, get_or-take, length-take-le, ext_get_or}
use borrow.Author.Tests.{ltb-true, ltb-false}
use Rattle.daybook.specs.Book.{Entry}
use Rattle.lists.specs.Lists.{Lists}
use Rattle.lists.specs.InnerWell.{Well}
use Rattle.layout.specs.Layout.{pad, reg_numbers, off_numbers, rec_numbers, head_numbers, point_numbers}

-- ---- a padded block

pub length_pad : (n : ℕ) (l : List ℤ) → length l ≤ n → length (pad n l) ≡ n
unfolding pad
length_pad n l h = simp (length-append, length-replicate) (omega arith)

pub take_pad : (n : ℕ) (l t : List ℤ) → length l ≤ n → take n (pad n l ++ t) ≡ pad n l
take_pad n l t h = take_at (pad n l) t n (length_pad n l h)

pub drop_pad : (n : ℕ) (l t : List ℤ) → length l ≤ n → drop n (pad n l ++ t) ≡ t
drop_pad n l t h = drop_at (pad n l) t n (length_pad n l h)

zero_each : (n i : ℕ) → get_or (replicate n (pos 0)) i (pos 0) ≡ pos 0
zero_each zero i = refl
zero_each (suc n) zero = refl
zero_each (suc n) (suc i) = zero_each n i

-- zeros behind a list change no place of it
pub zeros_behind : (l : List ℤ) (n i : ℕ) → get_or (l ++ replicate n (pos 0)) i (pos 0) ≡ get_or l i (pos 0)
zeros_behind [] n i = zero_each n i
zeros_behind (x ∷ l) n zero = refl
zeros_behind (x ∷ l) n (suc i) = zeros_behind l n i

pub pad_at : (n : ℕ) (l : List ℤ) (i : ℕ) → get_or (pad n l) i (pos 0) ≡ get_or l i (pos 0)
unfolding pad
pad_at n l i = zeros_behind l (n - length l) i

-- a place in the first block, and one past it
pub pad_here : (n : ℕ) (l t : List ℤ) (i : ℕ) → length l ≤ n → i < n → get_or (pad n l ++ t) i (pos 0) ≡ get_or l i (pos 0)
pad_here n l t i h k = get_or-append (pad n l) t (pos 0) i (omega (arith, length_pad n l h)) ∙ pad_at n l i

pub get_d_past : (n : ℕ) (l t : List ℤ) (i : ℕ) → length l ≡ n → get_or (l ++ t) (n + i) (pos 0) ≡ get_or t i (pos 0)
get_d_past n l t i e = ap (λ (m : ℕ). get_or (l ++ t) (m + i) (pos 0)) (sym e) ∙ get_or-append-add l t i (pos 0)

pub pad_past : (n : ℕ) (l t : List ℤ) (i : ℕ) → length l ≤ n → get_or (pad n l ++ t) (n + i) (pos 0) ≡ get_or t i (pos 0)
pad_past n l t i h = get_d_past n (pad n l) t i (length_pad n l h)

-- n numbers of which those from m on are 0
pub pad_take : (n m : ℕ) (t : List ℤ) → m ≤ n → n ≤ length t → ((i : ℕ) → m ≤ i → i < n → get_or t i (pos 0) ≡ pos 0)
    → pad n (take m t) ≡ take n t
pad_take n m t h k z =
    ext_get_or (pos 0) (pad n (take m t)) (take n t) (long ∙ sym whole)
    (λ i l. pad_at n (take m t) i ∙ go i (omega (arith, long)) (ltb i m) refl)
  where
    short : length (take m t) ≡ m
    short = length-take-le m t (omega arith)

    long : length (pad n (take m t)) ≡ n
    long = length_pad n (take m t) (omega (arith, short))

    whole : length (take n t) ≡ n
    whole = length-take-le n t k

    go : (i : ℕ) → i < n → (b : Bool) → ltb i m ≡ b → get_or (take m t) i (pos 0) ≡ get_or (take n t) i (pos 0)
    go i l true e = get_or-take m t i (pos 0) (ltb-true i m e) ∙ sym (get_or-take n t i (pos 0) l)
    go i l false e =
        let j : m ≤ i = ltb-false i m e in
        get_or-eq_default (take m t) (pos 0) (omega (arith, short)) ∙ sym (get_or-take n t i (pos 0) l ∙ z i j l)

-- ---- how many numbers

pub length_reg_numbers : (l : List (ℕ × ℕ)) → length (reg_numbers l) ≡ 2 * length l
unfolding reg_numbers
length_reg_numbers [] = refl
length_reg_numbers (x ∷ l) = omega (arith, length_reg_numbers l)

pub length_off_numbers : (l : List (ℕ × Option ℕ)) → length (off_numbers l) ≡ 2 * length l
unfolding off_numbers
length_off_numbers [] = refl
length_off_numbers (x ∷ l) = omega (arith, length_off_numbers l)

pub length_rec_numbers : (l : List Entry) → length (rec_numbers l) ≡ 4 * length l
unfolding rec_numbers
length_rec_numbers [] = refl
length_rec_numbers (x ∷ l) = omega (arith, length_rec_numbers l)

pub length_head : (q : Lists) → length (head_numbers q) ≡ 16
unfolding head_numbers
length_head q = refl

-- A point whose rows have room.
pub record Few (room : ℕ) (q : Lists) : Type 0 where
  pub regs : length q.regs ≤ 8
  pub offs : length q.offs ≤ 8
  pub recs : length q.recs ≤ room

pub few : {room : ℕ} {q : Lists} → Well room q → Few room q
few w = record { regs = w.regs_few; offs = w.offs_few; recs = w.recs_few }

-- ---- the blocks of a point

module _ {room : ℕ} {q : Lists} (f : Few room q) where
  fits_regs : length (reg_numbers q.regs) ≤ 16
  fits_regs = omega (arith, f.regs, length_reg_numbers q.regs)

  fits_offs : length (off_numbers q.offs) ≤ 16
  fits_offs = omega (arith, f.offs, length_off_numbers q.offs)

  fits_recs : length (rec_numbers q.recs) ≤ 4 * room
  fits_recs = omega (arith, f.recs, length_rec_numbers q.recs)

  pub length_point : length (point_numbers room q) ≡ 48 + 4 * room
  unfolding point_numbers
  length_point =
      let g = length_pad 16 (reg_numbers q.regs) fits_regs in
      let o = length_pad 16 (off_numbers q.offs) fits_offs in
      let r = length_pad (4 * room) (rec_numbers q.recs) fits_recs in
      simp length-append (omega (arith, length_head q))

  -- a number of each block
  pub in_regs : (i : ℕ) → i < 16 → get_or (point_numbers room q) (16 + i) (pos 0) ≡ get_or (reg_numbers q.regs) i (pos 0)
  unfolding point_numbers
  in_regs i h = get_d_past 16 (head_numbers q) _ i (length_head q) ∙ pad_here 16 (reg_numbers q.regs) _ i fits_regs h

  pub in_offs : (i : ℕ) → i < 16 → get_or (point_numbers room q) (32 + i) (pos 0) ≡ get_or (off_numbers q.offs) i (pos 0)
  unfolding point_numbers
  in_offs i h =
      let e : 32 + i ≡ 16 + (16 + i) = omega arith in
      ap (λ j. get_or (point_numbers room q) j (pos 0)) e ∙ get_d_past 16 (head_numbers q) _ (16 + i) (length_head q)
      ∙ pad_past 16 (reg_numbers q.regs) _ i fits_regs ∙ pad_here 16 (off_numbers q.offs) _ i fits_offs h

  pub in_recs : (i : ℕ) → get_or (point_numbers room q) (48 + i) (pos 0) ≡ get_or (rec_numbers q.recs) i (pos 0)
  unfolding point_numbers
  in_recs i =
      let e : 48 + i ≡ 16 + (16 + (16 + i)) = omega arith in
      ap (λ j. get_or (point_numbers room q) j (pos 0)) e ∙ get_d_past 16 (head_numbers q) _ (16 + (16 + i)) (length_head q)
      ∙ pad_past 16 (reg_numbers q.regs) _ (16 + i) fits_regs ∙ pad_past 16 (off_numbers q.offs) _ i fits_offs
      ∙ pad_at (4 * room) (rec_numbers q.recs) i
