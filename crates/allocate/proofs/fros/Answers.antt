use Rattle.std.proofs.Common.{rules}
use Rattle.allocate.proofs.fros.Goals as goal

pub returns : goal.returns
returns c = (c.of_points.ensures (λ p. p.fro c.args.g) 16 (λ p r long said. search rules)).0
