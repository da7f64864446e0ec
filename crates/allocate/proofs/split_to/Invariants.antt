use mathlib.Core.Path.{◌≡◌}
use mathlib.Core.List.{◌++◌}
use Prim.Native.Nat.{◌*◌, ◌/◌}
use lib.ListN.{length, take, drop}
use Rattle.daybook.specs.Queries.{total, split}
use Rattle.allocate.proofs.split_to.Given as goal

abbrev pub invariant-loop-k : goal.invariant-loop-k
invariant-loop-k l =
    (length l.out ≡ length l.fn.out) × (l.sum ≡ total (take l.k l.ws)) × (l.low ≡ (l.load * l.sum) / l.s) × (l.out ≡ split l.load l.s 0 (take l.k l.ws) ++ drop l.k l.fn.out)
