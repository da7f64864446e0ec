-- One notice tried: its place in the batch, its answer written, and the table after it. Assumes nothing.
use mathlib.Core.Path.{◌≡◌, refl, sym, ◌∙◌, ap, subst}
use mathlib.Core.Bool.{true}
use mathlib.Core.List.{List, map}
use Prim.Native.Nat.{ℕ, ◌≤◌, ◌<◌}
use native.Mathlib.Omega.{arith}
use lib.IntN.{ℤ, pos, negsuc}
use lib.ListN.{length, get_or}
use Rattle.std.specs.Int.{w64, cast_signed}
use Rattle.std.proofs.lemmas.Int.{to_z-of_z}
use Rattle.std.proofs.lemmas.List.{ext_get_or, get_or-map}
use mir.Val.{of_z}
use Rattle.numbers.specs.Naturals.{nat_of}
use Rattle.std.specs.Prelude.{Result, Ok, Err}
use Rattle.refusals.specs.declared.Refusal.{Refusal}
use Rattle.daybook.specs.declared.Settlement.TheVariants.{Registered, Lapsed, Unsettled}
use Rattle.daybook.specs.declared.EnergyEntry.{EnergyEntry}
use Rattle.daybook.specs.declared.EnergyEntry.TheVariants.{Append, Replacement, Recut}
use Rattle.daybook.specs.declared.Edition.{Edition}
use Rattle.daybook.specs.declared.EnergyNotice.{EnergyNotice}
use Rattle.daybook.specs.Notices.{Numbers, energy}
use Rattle.daybook.specs.Calls.{energy_numbers, energy!, noted}
use Rattle.daybook.specs.Trials.{removed_in}
use Rattle.layout.specs.Layout.{table_length, Fits, table_book}
use Rattle.layout.specs.Sound.{sound}
use Rattle.layout.specs.Calls.{answer_and_table, on_edition}
use Rattle.layout.proofs.Notices.{Holds, notice_holds}
use Rattle.energy.specs.InnerParts.{energy_in}
use Rattle.trial.specs.InnerTrial.{SmallNumbers, Tried}
use Rattle.trial.proofs.Answers.{energy_small}

-- an answer has five numbers
pub five_numbers : (a : Result EnergyEntry Refusal) → length (energy_numbers a) ≡ 5
five_numbers (Ok (Append (Registered user))) = refl
five_numbers (Ok (Append Lapsed)) = refl
five_numbers (Ok (Append Unsettled)) = refl
five_numbers (Ok Replacement) = refl
five_numbers (Ok (Recut removed)) = refl
five_numbers (Err r) = refl

-- a small number is that of its bits
small_bits : (z : ℤ) → nat_of z ≤ table_length → cast_signed w64 (of_z w64 z) ≡ z
small_bits (pos n) h = to_z-of_z w64 (pos n) (omega arith)
small_bits (negsuc n) h = absurd (omega arith)

small_natural : (z : ℤ) → nat_of z ≤ table_length → pos (of_z w64 z) ≡ z
small_natural (pos n) h = refl
small_natural (negsuc n) h = absurd (omega arith)

pub removed_back : (xs : List ℤ) → SmallNumbers xs → length xs ≡ 5 → pos (get_or (map (of_z w64) xs) 2 0) ≡ removed_in xs
removed_back xs small l = ap pos (get_or-map (of_z w64) xs 2 (pos 0) 0 (omega arith)) ∙ small_natural (get_or xs 2 (pos 0)) (small 2)

-- five numbers, each of the bits of one of an answer
pub numbers_back : (xs ys : List ℤ) → SmallNumbers xs → length xs ≡ 5 → length ys ≡ 5
    → ((i : ℕ) → i < 5 → get_or ys i (pos 0) ≡ cast_signed w64 (get_or (map (of_z w64) xs) i 0)) → ys ≡ xs
numbers_back xs ys small l k each =
    ext_get_or (pos 0) ys xs (k ∙ sym l)
    (λ i h. each i (omega arith) ∙ ap (cast_signed w64) (get_or-map (of_z w64) xs i (pos 0) 0 (omega arith)) ∙ small_bits (get_or xs i (pos 0)) (small i))

module _ (ed : Edition) (fits : Fits ed) (t : List ℤ) (s : sound ed t ≡ true) (n : EnergyNotice) where
  -- on a sound table the call is the book's step
  is : energy_in ed t n ≡ answer_and_table ed t (energy ed n (table_book ed t))
  unfolding on_edition
  is = rw s

  module _ {ns : Numbers} (e : ns ≡ (energy_in ed t n).0) where
    pub answer_is : ns ≡ (energy ed n (table_book ed t)).0
    answer_is = e ∙ ap (λ w. w.0) is

    pub answer_small : SmallNumbers ns
    answer_small = subst SmallNumbers (sym answer_is) (energy_small ed fits t s n)

    pub tried : {u five : List ℤ} {r : ℕ} → u ≡ (energy_in ed t n).1 → five ≡ ns → pos r ≡ removed_in ns → Tried ed n (table_book ed t) u five r
    unfolding noted
    tried {u} {five} {r} f g k =
        let left : u ≡ (answer_and_table ed t (energy ed n (table_book ed t))).1 = f ∙ ap (λ w. w.1) is in
        let h : Holds ed fits (answer_and_table ed t (energy ed n (table_book ed t))).1 (energy ed n (table_book ed t)).1 = notice_holds ed fits t s (energy! n) in
        record {
          is_sound = ap (sound ed) left ∙ h.is_sound;
          book = ap (table_book ed) left ∙ h.book;
          answered = g ∙ answer_is;
          removed_is = k ∙ ap removed_in answer_is;
          few = omega (arith, ap nat_of k, answer_small 2);
        }
