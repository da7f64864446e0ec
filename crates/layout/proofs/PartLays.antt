-- A sound part is the layout of the lists that are read from it, and they are well-formed. Assumes nothing.
use mathlib.Core.Path.{◌≡◌, sym, ap, ap₂, ◌∙◌}
use mathlib.Core.Bool.{true, cond}
use mathlib.Core.Option.{Option}
use mathlib.Core.List.{List, [], ◌∷◌, ◌++◌}
use Prim.Native.Nat.{ℕ, ◌+◌, ◌-◌, ◌*◌, ◌/◌, ◌≤◌, ◌<◌, ◌^◌}
use native.Mathlib.Omega.{arith}
use lib.Dec.{eqb, leb}
use lib.IntN.{ℤ, pos}
use lib.ListN.{length, get_or, take, drop, take-append-drop, length-drop}
use lib.Seq.{get_or-drop, drop-drop, take_all}
use borrow.Author.Tests.{leb-true, eq-eqb}
use Rattle.numbers.specs.Naturals.{nat_of}
use Rattle.numbers.proofs.Bools.{both}
use Rattle.daybook.specs.Book.{Entry, Pending}
use Rattle.lists.specs.InnerWell.{FactsOk, Well}
use Rattle.layout.specs.Places.{regs_place, spare_place}
use Rattle.layout.specs.Layout.{pad, reg_numbers, off_numbers, rec_numbers, pending_or_zeros, head_numbers, point_numbers, num_at, regs_from, offs_from, recs_from, pending_from, point_from}
use Rattle.layout.specs.Sound.{lists_sound, zeros, counts_sound, unused_zero, part_sound}
use Rattle.layout.proofs.Numbers.{pad_take}
use Rattle.layout.proofs.ListsSound.{lists_sound_well}
use Rattle.layout.proofs.RowsLaid.{two, clean, cells, cells_take, length_regs_from, length_offs_from, length_recs_from, regs_lay, offs_lay, recs_count, recs_lay, ThreeOk, pending_lay, pending_user_lem}
use Rattle.layout.proofs.PartSound.{zeros_at}

-- What the test of a part's counts tells.
pub record Counts (p : List ℤ) : Type 0 where
  pub some_regs : 1 ≤ num_at p 4
  pub few_regs : num_at p 4 ≤ 8
  pub few_offs : num_at p 5 ≤ 8
  pub few_recs : num_at p 6 ≤ (length p - 48) / 4

pub counts : (p : List ℤ) → counts_sound p ≡ true → Counts p
unfolding counts_sound
counts p e =
    let a = both _ (leb (num_at p 6) ((length p - 48) / 4)) e in
    let b = both _ (leb (num_at p 5) 8) a.0 in
    let c = both (leb 1 (num_at p 4)) (leb (num_at p 4) 8) b.0 in
    record { some_regs = leb-true _ _ c.0; few_regs = leb-true _ _ c.1; few_offs = leb-true _ _ b.1; few_recs = leb-true _ _ a.1 }

-- What the tests of a part tell beside its lists.
record Tested (p : List ℤ) (room : ℕ) : Type 0 where
  some_reg : 1 ≤ num_at p 4
  few_regs : num_at p 4 ≤ 8
  few_offs : num_at p 5 ≤ 8
  few_recs : num_at p 6 ≤ room
  head_zeros : zeros p spare_place regs_place ≡ true
  regs_zeros : zeros p (16 + 2 * num_at p 4) 32 ≡ true
  offs_zeros : zeros p (32 + 2 * num_at p 5) 48 ≡ true
  recs_zeros : zeros p (48 + 4 * num_at p 6) (length p) ≡ true
  no_user : num_at p 7 ≡ 0 → (num_at p 8 ≡ 0) × (num_at p 9 ≡ 0)
  lists_ok : lists_sound (point_from p) ≡ true

three_zeros : (p : List ℤ) → cond (eqb (num_at p 7) 0) (zeros p 7 10) true ≡ true → num_at p 7 ≡ 0 → (num_at p 8 ≡ 0) × (num_at p 9 ≡ 0)
three_zeros p e u =
    let z : zeros p 7 10 ≡ true = rw (eq-eqb (num_at p 7) 0 u) at e in
    (ap nat_of (zeros_at p 7 10 z 8 (omega arith) (omega arith)), ap nat_of (zeros_at p 7 10 z 9 (omega arith) (omega arith)))

tested : (p : List ℤ) (room : ℕ) → length p ≡ 48 + 4 * room → part_sound p ≡ true → Tested p room
unfolding part_sound unused_zero
tested p room len e =
    let a = both _ _ e in
    let b = both _ _ a.0 in
    let c = counts p b.0 in
    let g = both _ _ b.1 in
    let h = both _ _ g.0 in
    let i = both _ _ h.0 in
    let j = both _ _ i.0 in
    record {
      some_reg = c.some_regs;
      few_regs = c.few_regs;
      few_offs = c.few_offs;
      few_recs = in_room (num_at p 6) c.few_recs;
      head_zeros = j.0;
      regs_zeros = j.1;
      offs_zeros = i.1;
      recs_zeros = h.1;
      no_user = three_zeros p g.1;
      lists_ok = a.1;
    }
  where
    in_room : (n : ℕ) → n ≤ (length p - 48) / 4 → n ≤ room
    in_room n h = omega arith

module _ (p : List ℤ) (room : ℕ) (len : length p ≡ 48 + 4 * room) (f : Tested p room) where
  abbrev regs : List (ℕ × ℕ)
  regs = regs_from (num_at p 4) (drop 16 p)

  abbrev offs : List (ℕ × Option ℕ)
  offs = offs_from (num_at p 5) (drop 32 p)

  abbrev recs : List Entry
  recs = recs_from (num_at p 6) (drop 48 p)

  abbrev request : Option Pending
  request = pending_from (num_at p 7) (num_at p 8) (num_at p 9)

  many_regs : length regs ≡ num_at p 4
  many_regs = length_regs_from (num_at p 4) (drop 16 p)

  many_offs : length offs ≡ num_at p 5
  many_offs = length_offs_from (num_at p 5) (drop 32 p)

  many_recs : length recs ≡ num_at p 6
  many_recs = length_recs_from (num_at p 6) (drop 48 p)

  part_well : Well room (point_from p)
  unfolding point_from
  part_well =
      lists_sound_well room (point_from p) f.lists_ok (omega (arith, many_regs, f.some_reg)) (omega (arith, many_regs, f.few_regs))
      (omega (arith, many_offs, f.few_offs)) (omega (arith, many_recs, f.few_recs)) (pending_user_lem (num_at p 7) (num_at p 8) (num_at p 9))

  -- rows and the zeros behind them are a block of the part
  block : (n m at : ℕ) (l : List ℤ) → l ≡ take m (drop at p) → m ≤ n → at + n ≤ length p → zeros p (at + m) (at + n) ≡ true
      → pad n l ≡ take n (drop at p)
  block n m at l e h k z =
      ap (pad n) e
      ∙ pad_take n m (drop at p) h (omega (arith, length-drop at p))
      (λ i a b. get_or-drop at p i (pos 0) ∙ zeros_at p (at + m) (at + n) z (at + i) (omega arith) (omega arith))

  head_lay : head_numbers (point_from p) ≡ take 16 p
  unfolding head_numbers point_from cells pad
  head_lay = block 16 12 0 _ (used ∙ cells_take 12 0 p (omega arith)) (omega arith) (omega arith) f.head_zeros
    where
      facts : FactsOk (point_from p).facts
      facts = part_well.facts_ok

      three : ThreeOk (num_at p 7) (num_at p 8) (num_at p 9)
      three = pending_lay (num_at p 7) (num_at p 8) (num_at p 9) part_well.pending_ok f.no_user

      own : (i : ℕ) → num_at p i < 2 ^ 63 → pos (num_at p i) ≡ get_or p i (pos 0)
      own i h = clean (get_or p i (pos 0)) h

      few_recs_lem : num_at p 6 ≤ 40000
      few_recs_lem = omega (arith, recs_count part_well.recs_ok (omega (arith, facts.install_ok)), many_recs)

      used : pos (num_at p 0) ∷ pos (num_at p 1) ∷ pos (num_at p 2) ∷ pos (num_at p 3)
          ∷ pos (length regs) ∷ pos (length offs) ∷ pos (length recs)
          ∷ pos (pending_or_zeros request).user ∷ pos (pending_or_zeros request).first ∷ pos (pending_or_zeros request).last
          ∷ pos (num_at p 10) ∷ pos (num_at p 11) ∷ []
          ≡ cells p 0 12
      used =
          two (own 0 (omega (arith, facts.mirn_high))) (own 1 (omega (arith, facts.kind_ok)))
          (two (own 2 (omega (arith, facts.install_ok))) (own 3 (omega (arith, facts.base_ok)))
          (two (ap pos many_regs ∙ own 4 (omega (arith, f.few_regs))) (ap pos many_offs ∙ own 5 (omega (arith, f.few_offs)))
          (two (ap pos many_recs ∙ own 6 (omega (arith, few_recs_lem))) (ap pos three.user_back ∙ own 7 three.user_low)
          (two (ap pos three.first_back ∙ own 8 three.first_low) (ap pos three.last_back ∙ own 9 three.last_low)
          (two (own 10 (omega (arith, facts.section_ok))) (own 11 (omega (arith, facts.operator_ok))) (λ i. []))))))

  regs_block_lem : pad 16 (reg_numbers regs) ≡ take 16 (drop 16 p)
  unfolding point_from
  regs_block_lem =
      let k : 2 * num_at p 4 ≤ 16 = omega (arith, f.few_regs) in
      let rows = regs_lay (num_at p 4) (drop 16 p) part_well.regs_ok (omega (arith, length-drop 16 p)) in
      block 16 (2 * num_at p 4) 16 _ rows k (omega arith) f.regs_zeros

  offs_block_lem : pad 16 (off_numbers offs) ≡ take 16 (drop 32 p)
  unfolding point_from
  offs_block_lem =
      let k : 2 * num_at p 5 ≤ 16 = omega (arith, f.few_offs) in
      let rows = offs_lay (num_at p 5) (drop 32 p) part_well.offs_ok (omega (arith, length-drop 32 p)) in
      block 16 (2 * num_at p 5) 32 _ rows k (omega arith) f.offs_zeros

  recs_block_lem : pad (4 * room) (rec_numbers recs) ≡ drop 48 p
  unfolding point_from
  recs_block_lem =
      let k : 4 * num_at p 6 ≤ 4 * room = omega (arith, f.few_recs) in
      let z : zeros p (48 + 4 * num_at p 6) (48 + 4 * room) ≡ true = rw len at f.recs_zeros in
      let rows = recs_lay (num_at p 6) (drop 48 p) part_well.recs_ok (omega (arith, length-drop 48 p)) in
      block (4 * room) (4 * num_at p 6) 48 _ rows k (omega arith) z ∙ take_all (4 * room) (drop 48 p) (omega (arith, length-drop 48 p))

  part_numbers : point_numbers room (point_from p) ≡ p
  unfolding point_numbers point_from
  part_numbers =
      ap₂ ◌++◌ head_lay (ap₂ ◌++◌ regs_block_lem (ap₂ ◌++◌ offs_block_lem recs_block_lem))
      ∙ ap (λ l. take 16 p ++ (take 16 (drop 16 p) ++ l)) (onward 16 32) ∙ ap (λ l. take 16 p ++ l) (onward 16 16) ∙ onward 16 0
    where
      onward : (n at : ℕ) → take n (drop at p) ++ drop (at + n) p ≡ drop at p
      onward n at = ap (λ l. take n (drop at p) ++ l) (sym (drop-drop n at p)) ∙ take-append-drop n (drop at p)

pub part_lays : (p : List ℤ) (room : ℕ) → length p ≡ 48 + 4 * room → part_sound p ≡ true
    → Well room (point_from p) × (point_numbers room (point_from p) ≡ p)
part_lays p room len e = let f : Tested p room = tested p room len e in (part_well p room len f, part_numbers p room len f)
