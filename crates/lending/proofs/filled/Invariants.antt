use mathlib.Core.Path.{◌≡◌}
use lib.ListN.{replicate}
use Rattle.words.specs.Tables.{encoded_into}
use Rattle.lending.proofs.filled.Given as goal

abbrev pub invariant-loop-k : goal.invariant-loop-k
invariant-loop-k l = l.r ≡ encoded_into l.initial.r 0 (replicate l.n l.x) 0 l.k
