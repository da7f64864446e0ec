use Rattle.std.proofs.Common.{◌≡◌}
use Rattle.words.specs.Tables.{encoded_into}
use Rattle.words.proofs.encode.Given as goal

abbrev pub invariant-loop-k : goal.invariant-loop-k
invariant-loop-k l = l.b ≡ encoded_into l.initial.b l.at l.t l.from l.k
