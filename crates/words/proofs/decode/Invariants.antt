use Rattle.std.proofs.Common.{◌≡◌}
use Rattle.words.specs.Tables.{decoded_into}
use Rattle.words.proofs.decode.Given as goal

abbrev pub invariant-loop-i : goal.invariant-loop-i
invariant-loop-i l = l.t ≡ decoded_into l.initial.t l.to l.b l.at l.i
