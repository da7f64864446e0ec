-- The answer table of an allocation, on bytes: room for 32 numbers is all that decides, and 32 are given.
use mathlib.Core.Path.{◌≡◌, refl, sym, ap, subst, ◌∙◌}
use mathlib.Core.Bool.{Bool, true, false, cond}
use mathlib.Core.List.{List, [], ◌∷◌, ◌++◌, append-nil}
use Prim.Native.Nat.{ℕ, suc, ◌*◌, ◌≤◌, min}
use native.Mathlib.Omega.{arith}
use lib.Dec.{leb, eqb}
use lib.IntN.{ℤ, pos}
use lib.ListN.{length, get_or, drop_of_length-le, replicate, length-append, length-map, length-replicate}
use borrow.Author.Tests.{leb-true, leb-false, le-leb, lt-leb, eqb-true, eqb-false}
use Rattle.numbers.specs.Naturals.{nat_of, same_z}
use Rattle.numbers.proofs.Naturals.{same_true}
use Rattle.daybook.specs.declared.AllocationQuery.{AllocationQuery}
use Rattle.daybook.specs.Notices.{Numbers}
use Rattle.daybook.specs.Queries.{allocation_in_range, weights, total, point_shares, allocate_rows, allocate}
use Rattle.daybook.specs.Editions.{editions}
use Rattle.lists.proofs.Splits.{split_length}
use Rattle.layout.specs.Layout.{edition_of, table_book}
use Rattle.layout.specs.Sound.{sound}
use Rattle.layout.specs.Calls.{of_edition, placed}
use Rattle.layout.proofs.Editions.{both_fit, edition_fits}
use Rattle.allocate.specs.Allocate.{allocate_call}
use Rattle.allocate.specs.InnerParts.{given_of}
use Rattle.allocate.proofs.Arrays.{points_few_lem}
use Rattle.allocate.proofs.Apportioned.{in_range_tells}
use Rattle.allocate.proofs.Call.{call_unsound, call_range, call_weightless, call_given}
use Rattle.buffers.specs.Buffers.{with_numbers, replied, written}

-- ---- room

room_cut : (r : ℕ) → leb 32 (min 32 r) ≡ leb 32 r
room_cut r = go (leb 32 r) refl
  where
    go : (b : Bool) → leb 32 r ≡ b → leb 32 (min 32 r) ≡ b
    go true e = le-leb 32 (min 32 r) (omega (arith, leb-true 32 r e))
    go false e = lt-leb 32 (min 32 r) (omega (arith, leb-false 32 r e))

pub call_cut : (t : List ℤ) (q : AllocationQuery) (r : ℕ) → allocate_call editions t q (min 32 r) ≡ allocate_call editions t q r
unfolding allocate_call allocate allocate_rows of_edition
call_cut t q r = rw (room_cut r)

-- ---- 32 numbers are given

given_32 : (t : List ℤ) → sound (edition_of t) t ≡ true → (q : AllocationQuery) → length (given_of q (table_book (edition_of t) t)).1 ≡ 32
unfolding given_of point_shares weights
given_32 t s q =
    let few : length (table_book (edition_of t) t).points ≤ 32 = points_few_lem (edition_of t) (edition_fits editions both_fit t) t s in
    simp (length-append, split_length, length-map, length-replicate) (omega arith)

-- where no row applies, all 32 places are there, and all are given
module _ (t : List ℤ) (q : AllocationQuery) (room : ℕ) where
  abbrev w : Numbers × List ℤ
  w = allocate_call editions t q room

  abbrev pub Taken : Numbers × List ℤ → Type 0
  Taken v = get_or v.0 0 (pos 0) ≡ pos 0 → (length v.1 ≡ 32) × (32 ≤ room)

  not_taken : (k : ℕ) (l : Numbers) → Taken (pos (suc k) ∷ l, [])
  not_taken k l z = absurd (omega (arith, ap nat_of z))

  pub taken_32 : Taken (allocate_call editions t q room)
  taken_32 = go (sound (edition_of t) t) (allocation_in_range q room) (eqb (total (weights q (table_book (edition_of t) t))) 0) refl refl refl
    where
      go : (s i z : Bool) → sound (edition_of t) t ≡ s → allocation_in_range q room ≡ i → eqb (total (weights q (table_book (edition_of t) t))) 0 ≡ z → Taken (allocate_call editions t q room)
      go false i z a b c = subst Taken (sym (call_unsound (edition_of t) t refl q room a)) (not_taken 0 (replicate 17 (pos 0)))
      go true false z a b c = subst Taken (sym (call_range (edition_of t) t refl q room a b)) (not_taken 1 (replicate 17 (pos 0)))
      go true true true a b c = subst Taken (sym (call_weightless (edition_of t) t refl q room a b (eqb-true (total (weights q (table_book (edition_of t) t))) 0 c))) (not_taken 14 (replicate 17 (pos 0)))
      go true true false a b c =
          subst Taken (sym (call_given (edition_of t) t refl q room a b (eqb-false (total (weights q (table_book (edition_of t) t))) 0 c))) (λ e. (given_32 t a q, (in_range_tells q room b).1))

  -- so that the answer table is what is given
  pub placed_all : (out : List ℤ) → length out ≡ min 32 room → get_or w.0 0 (pos 0) ≡ pos 0 → placed w.1 out ≡ w.1
  unfolding placed
  placed_all out e z =
      let h = taken_32 z in
      ap (λ l. w.1 ++ l) (drop_of_length-le out {i = length w.1} (omega (arith, h.0, h.1))) ∙ append-nil w.1

-- ---- numbers that are not written don't matter

pub written_where : (ns : Numbers) (xs ys : List ℤ) (buffer answer : List ℕ) → (get_or ns 0 (pos 0) ≡ pos 0 → xs ≡ ys)
    → written (ns, xs) buffer answer ≡ written (ns, ys) buffer answer
unfolding written replied
written_where ns xs ys buffer answer same = go (leb (8 * length ns) (length answer))
  where
    refusal : ℤ
    refusal = get_or ns 0 (pos 0)

    end : ℤ × List ℕ → List ℤ → ℤ × (List ℕ × List ℕ)
    end r l = (r.0, (cond (same_z r.0 (pos 0)) (with_numbers l buffer) buffer, r.1))

    full : (b : Bool) → same_z refusal (pos 0) ≡ b → cond b (with_numbers xs buffer) buffer ≡ cond b (with_numbers ys buffer) buffer
    full true e = ap (λ l. with_numbers l buffer) (same (same_true refusal (pos 0) e))
    full false e = refl

    short : (b : Bool) → end (cond b (pos 1) (pos 2), answer) xs ≡ end (cond b (pos 1) (pos 2), answer) ys
    short true = refl
    short false = refl

    go : (b : Bool)
        → end (cond b (refusal, with_numbers ns answer) (cond (same_z refusal (pos 1)) (pos 1) (pos 2), answer)) xs
        ≡ end (cond b (refusal, with_numbers ns answer) (cond (same_z refusal (pos 1)) (pos 1) (pos 2), answer)) ys
    go true = ap (λ b. (refusal, (b, with_numbers ns answer))) (full (same_z refusal (pos 0)) refl)
    go false = short (same_z refusal (pos 1))
