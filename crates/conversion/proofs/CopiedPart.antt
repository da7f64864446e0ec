-- A point's part copied into one of another edition. Assumes nothing.
use mathlib.Core.Path.{◌≡◌, refl, sym, ◌∙◌, ap, ap₂}
use mathlib.Core.List.{List, [], ◌++◌, append_assoc, append-nil}
use Prim.Native.Nat.{ℕ, ◌+◌, ◌-◌, ◌*◌, ◌%◌, ◌≤◌}
use native.Mathlib.Omega.{arith}
use lib.IntN.{ℤ, pos}
use lib.ListN.{length, set, take, drop, length-drop, replicate-append-replicate}
use lib.Seq.{take_at, length-take-le, length_front}
use Rattle.lists.specs.Lists.{Lists, operator_of, with_operator, with_facts}
use Rattle.lists.proofs.OtherRoom.{named_well}
use Rattle.layout.specs.Layout.{pad, reg_numbers, off_numbers, rec_numbers, head_numbers, point_numbers, num_at, point_from}
use Rattle.layout.specs.InnerParts.{room_of, SoundPart}
use Rattle.layout.specs.InnerWrites.{cleared}
use Rattle.layout.proofs.Numbers.{length_rec_numbers, Few, few, length_point}
use Rattle.layout.proofs.Blocks.{zeros_of, cleared_mid}
use Rattle.layout.proofs.Cells.{place_recs}
use Rattle.layout.proofs.SoundParts.{part_well, part_laid}
use Rattle.conversion.specs.InnerConversion.{copied_part}

module _ (q : Lists) where
  -- The numbers that are in use: as many records as there are.
  abbrev own : List ℤ
  own = point_numbers (length q.recs) q

  -- with more room there are zeros behind them
  longer : (room : ℕ) → length q.recs ≤ room → point_numbers room q ≡ own ++ zeros_of (4 * room - 4 * length q.recs)
  unfolding point_numbers pad
  longer room h =
      ap (λ z. head_numbers q ++ (pad 16 (reg_numbers q.regs) ++ (pad 16 (off_numbers q.offs) ++ (rec_numbers q.recs ++ z)))) more
      ∙ simp append_assoc
    where
      split : 4 * room - length (rec_numbers q.recs) ≡ (4 * length q.recs - length (rec_numbers q.recs)) + (4 * room - 4 * length q.recs)
      split = omega (arith, length_rec_numbers q.recs)

      more : zeros_of (4 * room - length (rec_numbers q.recs))
          ≡ zeros_of (4 * length q.recs - length (rec_numbers q.recs)) ++ zeros_of (4 * room - 4 * length q.recs)
      more = ap zeros_of split ∙ sym (replicate-append-replicate (4 * length q.recs - length (rec_numbers q.recs)) (4 * room - 4 * length q.recs) (pos 0))

  -- another operator
  renamed : (room o : ℕ) → set (point_numbers room q) 11 (pos o) ≡ point_numbers room (with_facts (with_operator o q.facts) q)
  unfolding point_numbers head_numbers with_facts
  renamed room o = refl

module _ {p : List ℤ} (s : SoundPart p) (v : List ℤ) (used : ℕ) (u : used ≡ 48 + 4 * num_at p 6) (fit : used ≤ length v) (fours : length v % 4 ≡ 0) where
  abbrev q : Lists
  q = point_from p

  recs : num_at p 6 ≡ length q.recs
  recs = place_recs (part_well s) (part_laid s)

  first : length (own q) ≡ used
  first =
      let w : Few (room_of p) q = few (part_well s) in
      length_point (record { regs = w.regs; offs = w.offs; recs = omega arith }) ∙ omega (arith, recs)

  taken : take used p ≡ own q
  taken =
      ap (take used) (sym (part_laid s) ∙ longer q (room_of p) (part_well s).recs_few)
      ∙ take_at (own q) _ used first

  abbrev copied : List ℤ
  copied = take used p ++ drop used v

  same : length copied ≡ length v
  same = length_front v (take used p) used (length-take-le used p (omega (arith, s.few_recs)) ∙ sym (length-take-le used v fit))

  -- what the three writes leave
  pub copied_is : (w x : List ℤ) (o : ℕ) → w ≡ take used p ++ drop used v → x ≡ cleared w used (length w - used) → o ≡ operator_of (num_at p 11)
      → set x 11 (pos o) ≡ copied_part (room_of v) p
  unfolding copied_part point_from
  copied_is w x o ew ex eo =
      ap₂ (λ l o. set l 11 (pos o)) laid eo ∙ renamed q (room_of v) (operator_of (num_at p 11))
    where
      room : length q.recs ≤ room_of v
      room = omega (arith, recs)

      left : length v - used ≡ 4 * room_of v - 4 * length q.recs
      left = omega (arith, recs)

      laid : x ≡ point_numbers (room_of v) q
      laid =
          ex ∙ ap (λ l. cleared l used (length l - used)) ew ∙ ap (λ n. cleared copied used (n - used)) same
          ∙ ap (λ l. cleared l used (length v - used)) (ap₂ ◌++◌ taken (sym (append-nil (drop used v))))
          ∙ cleared_mid (own q) (drop used v) [] used (length v - used) first (length-drop used v)
          ∙ ap (λ l. own q ++ l) (append-nil (zeros_of (length v - used)))
          ∙ ap (λ k. own q ++ zeros_of k) left
          ∙ sym (longer q (room_of v) room)

-- the operator that stands there, and the one that is written
pub operator_small : {p : List ℤ} → SoundPart p → (num_at p 11 ≤ 4) × (operator_of (num_at p 11) ≤ 4)
unfolding with_facts point_from
operator_small s = ((part_well s).facts_ok.operator_ok, (named_well (part_well s)).facts_ok.operator_ok)
