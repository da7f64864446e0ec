use mathlib.Core.Path.{ap₂, ◌∙◌}
use mathlib.Core.Bool.{not, ◌&&◌}
use lib.Dec.{leb}
use Rattle.readings.proofs.Users.{active_is}
use Rattle.readings.proofs.active.Goals as goal

pub returns : goal.returns
returns c =
    ap₂ (λ n off. leb n c.args.g && not off) c.install.ensures.0 c.off_on.ensures ∙ active_is c.args.part.now.numbers.now c.args.g
