-- An opening's writes are the layout of the register with one more point. Assumes nothing.
use mathlib.Core.Path.{◌≡◌, refl, sym, ◌∙◌, ap, ap₂}
use mathlib.Core.Option.{none}
use mathlib.Core.List.{List, [], ◌∷◌, ◌++◌, append_assoc}
use Prim.Native.Nat.{ℕ, suc, ◌+◌, ◌-◌, ◌*◌, ◌≤◌, ◌<◌}
use native.Mathlib.Omega.{arith}
use native.Mathlib.Numerals.{add-one}
use native.Mathlib.Nat.{mul-suc, sub-zero}
use lib.ListN.{length, take, drop, set, length-append, length-replicate, replicate-append-replicate}
use lib.Seq.{take_at, drop_at}
use lib.IntN.{ℤ, pos}
use Rattle.daybook.specs.declared.Edition.{Edition}
use Rattle.daybook.specs.declared.Facts.{Facts}
use Rattle.lists.specs.Lists.{Lists, Register}
use Rattle.layout.specs.Layout.{table_length, stride, place_of, Fits, part_of, pad, head_numbers, reg_numbers, off_numbers, rec_numbers, point_numbers, points_numbers, layout}
use Rattle.layout.specs.InnerWrites.{with_part, append_registration, open_point, append_point}
use Rattle.layout.proofs.Blocks.{zeros_of}
use Rattle.layout.proofs.Numbers.{Few}
use Rattle.layout.proofs.PartBlocks.{snoc_length}
use Rattle.layout.proofs.Parts.{part_ends}
use Rattle.layout.proofs.PointParts.{AllFew, few_more, with_points, up_to, up_to_length, layout_with, layout_same, cut, total, total_length}

-- A point as it is opened: its facts, and User u from the install day on.
unfoldable pub fresh_point : Facts → ℕ → Lists
fresh_point f u = record { facts = f; regs = (f.install, u) ∷ []; offs = []; recs = []; pending = none }

pub few_fresh : (room : ℕ) (f : Facts) (u : ℕ) → Few room (fresh_point f u)
unfolding fresh_point
few_fresh room f u = record { regs = omega arith; offs = omega arith; recs = omega arith }

-- its numbers, written over zeros
pub open_point_lem : (room : ℕ) (f : Facts) (u : ℕ) → open_point (zeros_of (48 + 4 * room)) f u ≡ point_numbers room (fresh_point f u)
unfolding open_point append_registration fresh_point point_numbers head_numbers reg_numbers off_numbers rec_numbers pad
open_point_lem room f u =
    ap (λ p. open_point p f u) (sym (replicate-append-replicate 48 (4 * room) (pos 0))) ∙ rw sub-zero refl

module _ (ed : Edition) (R : Register) (rest : List ℤ) (g : AllFew ed.records R.points) (fits : Fits ed) (h : length R.points < ed.points) where
  abbrev n : ℕ
  n = length R.points

  abbrev table : List ℤ
  table = layout ed R ++ rest

  -- the numbers before part n, and those past it
  abbrev front : ℕ → List ℤ
  front m = up_to ed R m R.points

  abbrev past : List ℤ
  past = zeros_of (table_length - (place_of ed n + stride ed)) ++ rest

  front_place : (m : ℕ) → length (front m) ≡ place_of ed n
  front_place m = up_to_length ed R m g

  -- part n is still unused
  table_cut : table ≡ front n ++ (zeros_of (stride ed) ++ past)
  table_cut =
      ap (λ t. t ++ rest) (layout_same ed R ∙ layout_with ed R R.points)
      ∙ ap (λ m. (front n ++ zeros_of m) ++ rest) (split (place_of ed n) (stride ed) (length (front n)) (front_place n) (part_ends ed n fits h))
      ∙ ap (λ t. (front n ++ t) ++ rest) (sym (replicate-append-replicate (stride ed) (table_length - (place_of ed n + stride ed)) (pos 0)))
      ∙ simp append_assoc
    where
      split : (a s m : ℕ) → m ≡ a → a + s ≤ table_length → table_length - m ≡ s + (table_length - (a + s))
      split a s m e k = omega arith

  unused : part_of ed table n ≡ zeros_of (stride ed)
  unfolding part_of
  unused =
      ap (λ t. take (stride ed) (drop (place_of ed n) t)) table_cut
      ∙ ap (take (stride ed)) (drop_at (front n) (zeros_of (stride ed) ++ past) (place_of ed n) (front_place n))
      ∙ take_at (zeros_of (stride ed)) past (stride ed) (length-replicate (stride ed) (pos 0))

  with_new : (p : List ℤ) → with_part ed table n p ≡ front n ++ (p ++ past)
  unfolding with_part
  with_new p =
      ap₂ (λ u v. u ++ (p ++ v)) (ap (take (place_of ed n)) table_cut ∙ take_at (front n) _ _ (front_place n))
      (ap (drop (place_of ed n + stride ed)) (table_cut ∙ sym (append_assoc (front n) (zeros_of (stride ed)) past))
      ∙ drop_at (front n ++ zeros_of (stride ed)) past (place_of ed n + stride ed) (length-append (front n) (zeros_of (stride ed)) ∙ ap₂ ◌+◌ (front_place n) (length-replicate (stride ed) (pos 0))))

  said : (m : ℕ) (l : List ℤ) → set (front n ++ l) 0 (pos m) ≡ front m ++ l
  unfolding pad
  said m l = refl

  pub append_point_lem : (f : Facts) (u : ℕ) → append_point ed table n f u ≡ layout ed (with_points (R.points ++ (fresh_point f u ∷ [])) R) ++ rest
  unfolding append_point points_numbers
  append_point_lem f u =
      ap (λ p. set (with_part ed table n p) 0 (pos (n + 1))) (ap (λ p. open_point p f u) unused ∙ open_point_lem ed.records f u)
      ∙ ap (λ t. set t 0 (pos (n + 1))) (with_new (point_numbers ed.records q))
      ∙ said (n + 1) (point_numbers ed.records q ++ past)
      ∙ ap₂ (λ m k. front m ++ (point_numbers ed.records q ++ (zeros_of (table_length - k) ++ rest))) (sym (snoc_length R.points q)) (sym ends)
      ∙ sym (cut ed R rest R.points q [])
    where
      q : Lists
      q = fresh_point f u

      ends : length (total ed R rest R.points q []) ≡ place_of ed n + stride ed
      ends =
          total_length ed R rest R.points q [] (few_more g (few_fresh ed.records f u))
          ∙ ap (place_of ed) (snoc_length R.points q ∙ add-one n)
          ∙ next (stride ed) (mul-suc (stride ed) n)
        where
          next : (s : ℕ) → s * suc n ≡ s * n + s → 8 + s * suc n ≡ 8 + s * n + s
          next s e = omega arith
