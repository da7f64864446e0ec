-- The end of an exported function: from the bits of the numbers that it has to what the call gives.
use mathlib.Core.Path.{◌≡◌, refl, sym, ap, ap₂, ◌∙◌}
use mathlib.Core.List.{List, map}
use Prim.Native.Nat.{ℕ, zero, suc, ◌+◌, ◌*◌, ◌≤◌}
use native.Mathlib.Omega.{arith}
use lib.IntN.{ℤ, pos}
use lib.ListN.{length, get_or, length-map, get_or-map}
use mir.Syntax.{w64}
use mir.Val.{to_z, of_z, SFits}
use mir.Facts.{to_z-of_z}
use Rattle.numbers.specs.Naturals.{nat_of}
use Rattle.numbers.proofs.Naturals.{nat_of_is}
use Rattle.words.specs.Words.{with_number, with_word}
use Rattle.words.specs.Tables.{encoded_into}
use Rattle.daybook.specs.Notices.{Numbers, highest_refusal}
use Rattle.words.specs.Words.{bits_of}
use Rattle.buffers.specs.Buffers.{with_numbers, replied, written}

abbrev pub refusal_of : Numbers → ℕ
refusal_of ns = nat_of (get_or ns 0 (pos 0))

-- ---- bytes are those of a number's bits

bits_at : (xs : List ℤ) (i : ℕ) → get_or (map pos (bits_of xs)) i (pos 0) ≡ pos (of_z w64 (get_or xs i (pos 0)))
bits_at xs i = get_or-map pos (bits_of xs) i 0 ∙ ap pos (get_or-map (of_z w64) xs i (pos 0))

encoded_bits : (b : List ℕ) (xs : List ℤ) (n : ℕ) → encoded_into b 0 (map pos (bits_of xs)) 0 n ≡ encoded_into b 0 xs 0 n
unfolding encoded_into with_word
encoded_bits b xs zero = refl
encoded_bits b xs (suc n) =
    ap₂ (λ (u : List ℕ) (x : ℕ). with_number u (0 + 8 * n) 8 x) (encoded_bits b xs n) (ap (of_z w64) (bits_at xs (0 + n)))

bits_length : (xs : List ℤ) → length (map pos (bits_of xs)) ≡ length xs
bits_length xs = length-map (bits_of xs) pos ∙ length-map xs (of_z w64)

module _ (xs : Numbers) (h : refusal_of xs ≤ highest_refusal) where
  bits_first : get_or (map pos (bits_of xs)) 0 (pos 0) ≡ get_or xs 0 (pos 0)
  bits_first = let e : get_or xs 0 (pos 0) ≡ pos (refusal_of xs) = nat_of_is (get_or xs 0 (pos 0)) (omega arith) in bits_at xs 0 ∙ ap (λ z. pos (of_z w64 z)) e ∙ sym e

  replied_bits : (answer : List ℕ) → replied (map pos (bits_of xs)) answer ≡ replied xs answer
  unfolding replied with_numbers
  replied_bits answer = rw (bits_first, bits_length xs, encoded_bits answer xs (length xs))

-- ---- the end

module _ (ns : List ℕ) (xs : Numbers) (p : ns ≡ bits_of xs) (h : refusal_of xs ≤ highest_refusal) where
  pub first_small : get_or ns 0 0 ≤ highest_refusal
  first_small =
      let e : get_or ns 0 0 ≡ refusal_of xs =
      ap (λ l. get_or l 0 0) p ∙ get_or-map (of_z w64) xs 0 (pos 0) ∙ ap (of_z w64) (nat_of_is (get_or xs 0 (pos 0)) (omega arith)) in
      omega arith

  pub ended_reply : (z : ℤ) → SFits w64 z → (r : ℕ) → z ≡ pos r → (answer answer' : List ℕ) → (pos r, answer') ≡ replied (map pos ns) answer
      → (to_z w64 (of_z w64 z), answer') ≡ replied xs answer
  ended_reply z f r q answer answer' e =
      ap (λ y. (y, answer')) (to_z-of_z f ∙ q) ∙ e ∙ ap (λ l. replied (map pos l) answer) p ∙ replied_bits xs h answer

  pub ended : (t u : List ℤ) → t ≡ u → (z : ℤ) → SFits w64 z → (buffer answer buffer' answer' : List ℕ)
      → (z, (buffer', answer')) ≡ written (map pos ns, t) buffer answer → (to_z w64 (of_z w64 z), (buffer', answer')) ≡ written (xs, u) buffer answer
  unfolding written
  ended t u q z f buffer answer buffer' answer' e =
      ap (λ y. (y, (buffer', answer'))) (to_z-of_z f) ∙ e ∙ rw (p, q, replied_bits xs h answer)
