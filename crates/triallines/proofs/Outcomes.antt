-- From a trial to the outcome of its line. Assumes nothing.
use mathlib.Core.Path.{◌≡◌, refl, ◌∙◌}
use mathlib.Core.Bool.{Bool, true, not, ◌&&◌}
use mathlib.Core.List.{List, ◌++◌}
use mathlib.Core.Option.{none}
use Prim.Native.Nat.{ℕ, ◌+◌, ◌-◌, ◌*◌, ◌/◌, ◌≤◌}
use native.Mathlib.Nat.{sub-zero}
use native.Mathlib.Omega.{arith}
use borrow.Author.Tests.{leb-true, not-true}
use lib.Dec.{leb}
use lib.IntN.{ℤ, negsuc}
use lib.ListN.{length, take, drop, replicate, length-drop}
use Rattle.numbers.proofs.Bools.{both}
use Rattle.daybook.specs.FromNumbers.{num}
use Rattle.daybook.specs.Editions.{editions}
use Rattle.trial.specs.Trial.{trial_call}
use Rattle.buffers.specs.Buffers.{with_numbers, table_in, numbers_held, written}
use Rattle.printing.specs.Rows.{row_bytes, row_of}
use Rattle.lending.specs.Lending.{bytes_of}
use Rattle.lending.proofs.Bytes.{in_zeros, filled_in_zeros}
use Rattle.lines.specs.Lines.{size, Played}
use Rattle.lines.proofs.Rows.{rest}
use Rattle.triallines.specs.TrialLines.{most_numbers, most_room, tryable, blank, trial_line}

-- what the test of a line says of its numbers
pub record Tried (xs : List ℤ) : Type 0 where
  pub own : 2 ≤ length xs
  pub few : length xs ≤ most_numbers
  pub room : size xs 1 ≤ most_room

pub tried : (xs : List ℤ) (t : Bool) → t ≡ tryable xs → t ≡ true → Tried xs
tried xs t test z =
    let a = leb (length xs) most_numbers in
    let b = leb (size xs 1) most_room in
    let first = both (leb 2 (length xs)) (a && b) (rw test at z) in
    let second = both a b first.1 in
    record {
      own = leb-true 2 (length xs) first.0;
      few = leb-true (length xs) most_numbers second.0;
      room = leb-true (size xs 1) most_room second.1;
    }

module _ (xs : List ℤ) (t : Bool) (test : t ≡ tryable xs) where
  pub not_tried : (b : List ℕ) (lent : ℕ) → not t ≡ true → trial_line b lent xs ≡ none
  unfolding trial_line
  not_tried b lent z = rw (← test, not-true t z)

  -- its buffers are made in zeros, and its answers of numbers -7
  pub trial_made : {out out' : List ℕ} (b : List ℕ) (lent room : ℕ) (notices answers u answer : List ℕ) (result count : ℤ)
      → t ≡ true → room ≡ size xs 1 → count ≡ num xs 0
      → notices ≡ with_numbers (take (length xs - 2) (drop 2 xs)) (take (8 * length (take (length xs - 2) (drop 2 xs))) (replicate 4848 0))
      → answers ≡ with_numbers (replicate room (negsuc 6)) (take (8 * room) (replicate 4096 0))
      → (result, (u, answer)) ≡ written (trial_call editions (table_in (take (8 * lent - 0) b)) count (numbers_held notices) (length answers / 8)) answers blank
      → length out' ≤ length out + row_bytes → out' ≡ out ++ (row_of (numbers_held answer ++ numbers_held u))
      → Played (trial_line b lent xs) b out b out' true
  unfolding trial_line
  trial_made b lent room notices answers u answer result count z room_is count_is_lem notices-is answers-is made h w =
      let holds : Tried xs = tried xs t test z in
      let few : 8 * length (drop 2 xs) ≤ 4848 = omega (arith, length-drop 2 xs) in
      let l : notices ≡ bytes_of (drop 2 xs) = rw (rest xs 2, in_zeros (drop 2 xs) 4848 few) at notices-is in
      let s : answers ≡ bytes_of (replicate (size xs 1) (negsuc 6)) = rw (← room_is) (answers-is ∙ filled_in_zeros room 4096 (negsuc 6) (omega arith)) in
      let m = rw (sub-zero (8 * lent), count_is_lem, l, s) at made in
      rw (← test, z, ← m) (record { room = h; left = refl; text = w; call = refl })
