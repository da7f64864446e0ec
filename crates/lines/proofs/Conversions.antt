-- From a conversion into a second table to the outcome of its line. Assumes nothing.
use mathlib.Core.Path.{◌≡◌, refl, sym, ap, ◌∙◌}
use mathlib.Core.Bool.{Bool, true, false, not}
use mathlib.Core.List.{List, [], ◌∷◌, ◌++◌}
use mathlib.Core.Option.{none}
use Prim.Native.Nat.{ℕ, zero, suc, ◌+◌, ◌-◌, ◌*◌, ◌≤◌}
use native.Mathlib.Nat.{sub-zero}
use native.Mathlib.Omega.{arith}
use borrow.Author.Tests.{ne_eqb, leb-true, not-true}
use mir.Facts.{to_z-of_z}
use mir.Syntax.{w64}
use mir.Val.{to_z, of_z, SFits}
use lib.Dec.{eqb, leb}
use lib.IntN.{ℤ, pos, negsuc}
use lib.ListN.{length, take, replicate}
use Rattle.numbers.specs.Naturals.{nat_of, same_z}
use Rattle.numbers.proofs.Bools.{both}
use Rattle.daybook.specs.FromNumbers.{num}
use Rattle.daybook.specs.Editions.{editions}
use Rattle.conversion.specs.Conversion.{convert_call}
use Rattle.buffers.specs.Buffers.{with_numbers, table_in, written}
use Rattle.printing.specs.Rows.{row_bytes, row_of}
use Rattle.lending.specs.Lending.{bytes_of}
use Rattle.lending.proofs.Bytes.{filled_in_zeros}
use Rattle.lines.specs.Lines.{buffer_numbers, buffer_bytes, convertible, taken_over, convert_line, Played}

-- the result, tested by its bits
pub same_zero : (z : ℤ) → SFits w64 z → of_z w64 z ≡ 0 → same_z z (pos 0) ≡ true
same_zero z f e = ap (λ (y : ℤ). same_z y (pos 0)) (sym (to_z-of_z f) ∙ ap (to_z w64) e)

pub not_zero : (z : ℤ) → (of_z w64 z ≡ 0 → ⊥) → same_z z (pos 0) ≡ false
not_zero (pos zero) h = absurd (h refl)
not_zero (pos (suc n)) h = ne_eqb (suc n) 0 (λ (e : suc n ≡ 0). omega arith)
not_zero (negsuc n) h = refl

module _ (xs : List ℤ) (t : Bool) (test : t ≡ convertible xs) where
  pub length_fits : t ≡ true → nat_of (num xs 0) ≤ buffer_numbers
  length_fits z =
      leb-true (nat_of (num xs 0)) buffer_numbers
      (both (eqb (length xs) 1) (leb (nat_of (num xs 0)) buffer_numbers) (rw test at z)).1

  pub not_converted : (b : List ℕ) (lent : ℕ) → not t ≡ true → convert_line b lent xs ≡ none
  unfolding convert_line
  not_converted b lent z = rw (← test, not-true t z)

  -- the second table is made in zeros
  pub converted : {out out' b' : List ℕ} (b : List ℕ) (lent n : ℕ) (second u answer : List ℕ) (result : ℤ)
      → t ≡ true → n ≡ nat_of (num xs 0)
      → second ≡ with_numbers (replicate n (negsuc 4)) (take (8 * n) (replicate buffer_bytes 0))
      → (result, (u, answer)) ≡ written (convert_call editions (table_in (take (8 * lent - 0) b)) (table_in second)) second (replicate 8 0)
      → b' ≡ taken_over result u b
      → length out' ≤ length out + row_bytes → out' ≡ out ++ (row_of (result ∷ []))
      → Played (convert_line b lent xs) b out b' out' true
  unfolding convert_line
  converted b lent n second u answer result z n-is second_is made after h w =
      let fits : 8 * n ≤ buffer_bytes = omega (arith, length_fits z) in
      let s : second ≡ bytes_of (replicate (nat_of (num xs 0)) (negsuc 4)) =
      rw (← n-is) (second_is ∙ filled_in_zeros n buffer_bytes (negsuc 4) fits) in
      let m = rw (sub-zero (8 * lent), s) at made in
      rw (← test, z, ← m) (record { room = h; left = after; text = w; call = refl })
