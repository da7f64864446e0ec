-- The rows of the journal's own lines. Assumes nothing.
use mathlib.Core.Path.{◌≡◌, refl, ap, ap₂, ◌∙◌}
use mathlib.Core.Bool.{true}
use mathlib.Core.List.{List, [], ◌∷◌, ◌++◌}
use mathlib.Core.Option.{none}
use Prim.Native.Nat.{ℕ, ◌+◌, ◌-◌, ◌*◌, ◌/◌, ◌≤◌, ◌<◌}
use native.Mathlib.Omega.{arith}
use borrow.Author.Tests.{ne_eqb, le-ltb, lt-ltb}
use lib.Dec.{ltb}
use lib.IntN.{ℤ, pos}
use lib.ListN.{length, take, drop, length-drop}
use lib.Seq.{take_all}
use Rattle.numbers.specs.Naturals.{nat_of}
use Rattle.numbers.proofs.Bools.{cond_same}
use Rattle.words.specs.Words.{with_word, bits_of}
use Rattle.words.specs.Sums.{sums_of}
use Rattle.daybook.specs.FromNumbers.{num}
use Rattle.daybook.specs.Editions.{editions}
use Rattle.table.specs.Lookup.{look_up}
use Rattle.buffers.specs.Buffers.{numbers_in}
use Rattle.printing.specs.Rows.{row_bytes, row_of}
use Rattle.lines.specs.Lines.{buffer_bytes, look_line, poke_line, table_line, Played}
use Rattle.lines.proofs.Outcomes.{something}

-- what follows the first k of a list, as the code lends it
pub rest : (xs : List ℤ) (k : ℕ) → take (length xs - k) (drop k xs) ≡ drop k xs
rest xs k = take_all (length xs - k) (drop k xs) (omega (arith, length-drop k xs))

module _ (b : List ℕ) (xs : List ℤ) where
  pub poke_miscounted : (length xs ≡ 2 → ⊥) → poke_line b xs ≡ none
  unfolding poke_line
  poke_miscounted h = rw (ne_eqb (length xs) 2 h) (cond_same (ltb (nat_of (num xs 0)) 7688) none)

  module _ (g : ℕ) (is : g ≡ nat_of (num xs 0)) where
    pub poke_outside : 7688 ≤ g → poke_line b xs ≡ none
    unfolding poke_line
    poke_outside l = rw (← is, le-ltb g 7688 l)

    pub poked : {out out' b' : List ℕ} → length xs ≡ 2 → g < 7688 → b' ≡ with_word b (8 * g) (num xs 1) → length out' ≤ length out + row_bytes → out' ≡ out ++ (row_of (pos 0 ∷ [])) → Played (poke_line b xs) b out b' out' true
    unfolding poke_line
    poked h l e m w = rw (← is, lt-ltb g 7688 l) (something 2 xs h e refl m w)

  pub looked : {out out' : List ℕ} (t part : List ℤ) (m : ℤ) (s1 s2 : ℕ) → length xs ≡ 1 → t ≡ numbers_in b (length b / 8) → m ≡ num xs 0 → part ≡ look_up editions t m → s1 ≡ (sums_of (bits_of part)).0 → s2 ≡ (sums_of (bits_of part)).1 → length out' ≤ length out + row_bytes → out' ≡ out ++ (row_of (pos (length part) ∷ pos s1 ∷ pos s2 ∷ [])) → Played (look_line b xs) b out b out' true
  unfolding look_line
  looked t part m s1 s2 h u e x y z l w =
      let is : part ≡ look_up editions (numbers_in b (length b / 8)) (num xs 0) = x ∙ ap₂ (look_up editions) u e in
      something 1 xs h refl (rw (y, z, is)) l w

  pub tabled : {out out' : List ℕ} (t front past : List ℤ) (s1 s2 t2 : ℕ) → length b ≡ buffer_bytes → length xs ≡ 0 → t ≡ numbers_in b 7704 → front ≡ take 7688 t → past ≡ take (length t - 7688) (drop 7688 t) → s1 ≡ (sums_of (bits_of front)).0 → s2 ≡ (sums_of (bits_of front)).1 → t2 ≡ (sums_of (bits_of past)).1 → length out' ≤ length out + row_bytes → out' ≡ out ++ (row_of (pos 0 ∷ pos s1 ∷ pos s2 ∷ pos t2 ∷ [])) → Played (table_line b xs) b out b out' true
  unfolding table_line
  tabled t front past s1 s2 t2 k h u x y p q z l w =
      let all : t ≡ numbers_in b (length b / 8) = u ∙ ap (numbers_in b) (omega arith) in
      let behind : past ≡ drop 7688 t = y ∙ rest t 7688 in
      something 0 xs h refl (rw (p, q, z, x, behind, all)) l w
