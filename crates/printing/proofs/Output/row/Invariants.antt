use Rattle.std.proofs.Common.{◌++◌, map, ◌≡◌, ◌+◌, ◌*◌, ◌≤◌, length, drop}
use Rattle.printing.specs.Rows.{row_of}
use Rattle.printing.proofs.Output.row.Given as goal

abbrev pub invariant-loop-i : goal.invariant-loop-i
invariant-loop-i g l =
    (length l.self-inside.bytes.items ≤ length l.initial.self-inside.bytes.items + 21 * l.i)
    × (l.self-inside.bytes.items ++ row_of (drop l.i (map g.T.Number.value l.xs)) ≡ l.initial.self-inside.bytes.items ++ row_of (map g.T.Number.value l.xs))
