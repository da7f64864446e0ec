use Rattle.std.proofs.Common.{◌≡◌}
use Rattle.images.specs.Blocks.{with_blocks}
use Rattle.images.proofs.put_blocks.Given as goal

abbrev pub invariant-loop-k : goal.invariant-loop-k
invariant-loop-k l = l.image ≡ with_blocks l.state l.t l.initial.image l.k
