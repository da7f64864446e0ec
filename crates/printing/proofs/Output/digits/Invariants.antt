use Rattle.std.proofs.Common.{◌++◌, ◌≡◌, ◌+◌, ◌*◌, length, drop}
use Rattle.printing.specs.Rows.{hex_digits}
use Rattle.printing.proofs.Output.digits.Given as goal

abbrev pub invariant-loop-b : goal.invariant-loop-b
invariant-loop-b g l =
    (length l.self-inside.bytes.items ≡ length l.initial.self-inside.bytes.items + 2 * l.b-index)
    × (l.self-inside.bytes.items ++ hex_digits (drop l.b-index l.bytes) ≡ l.initial.self-inside.bytes.items ++ hex_digits l.bytes)
