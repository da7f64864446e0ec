use Rattle.std.specs.Prelude.{map, length, ◌≡◌, ◌+◌, [], ◌∷◌}
use mir.Val.{bool_byte}
use Rattle.daybook.proofs.Arrays.{Filled}
use Rattle.daybook.proofs.correction_numbers.Given as goal

abbrev pub invariant-loop-k : goal.invariant-loop-k
invariant-loop-k l =
    (length l.numbers ≡ 17) × Filled (0 ∷ []) (map bool_byte l.affected) (1 + l.k) l.numbers
