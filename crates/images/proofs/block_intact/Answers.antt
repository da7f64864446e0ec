use Rattle.std.proofs.Common.{◌&&◌, eqb, ap, ap₂}
use Rattle.images.specs.Blocks.{intact_at}
use Rattle.images.proofs.block_intact.Goals as goal

pub returns : goal.returns
unfolding intact_at
returns c =
    ap₂ ◌&&◌ (ap₂ eqb c.number.ensures.0 c.check.ensures)
    (ap (λ x. eqb x c.args.k) c.number-2.ensures.0)
