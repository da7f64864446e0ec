use Rattle.std.proofs.Common.{◌≡◌}
use Rattle.images.specs.Blocks.{blocks_into}
use Rattle.images.proofs.take_blocks.Given as goal

abbrev pub invariant-loop-k : goal.invariant-loop-k
invariant-loop-k l = l.t ≡ blocks_into l.initial.t l.image l.k
