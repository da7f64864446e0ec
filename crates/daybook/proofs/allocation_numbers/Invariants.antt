use Rattle.std.proofs.Common.{◌≡◌, ◌+◌, length, get_or}
use Rattle.std.specs.Prelude.{[], ◌∷◌}
use Rattle.words.specs.Words.{bits_of}
use Rattle.daybook.proofs.Arrays.{Filled}
use Rattle.daybook.proofs.allocation_numbers.Given as goal

abbrev pub invariant-loop-k : goal.invariant-loop-k
invariant-loop-k l =
    (length l.numbers ≡ 18) × Filled (0 ∷ get_or l.initial.numbers 1 0 ∷ []) (bits_of l.given.totals) (2 + l.k) l.numbers
