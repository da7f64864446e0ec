use mathlib.Core.Path.{ap, ◌∙◌}
use mathlib.Core.Bool.{not}
use Rattle.point.specs.InnerTests.{no_off}
use Rattle.readings.proofs.Users.{off_is}
use Rattle.readings.proofs.off_on.Goals as goal

pub returns : goal.returns
returns c =
    ap not (c.no_off.ensures ∙ ap (λ n. no_off c.args.part.now.numbers.now n c.args.g c.args.g) c.spans-n.ensures.0)
    ∙ off_is c.args.part.now.is_sound c.args.g c.requires
