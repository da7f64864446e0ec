use mathlib.Core.Path.{◌∙◌}
use Rattle.layout.proofs.Cells.{place_install}
use Rattle.layout.proofs.SoundParts.{lays}
use Rattle.status.proofs.cannot_switch.Goals as goal

pub returns-then-on : goal.returns-then-on
returns-then-on c = rw c.if-on.true c.cannot_on.ensures

pub returns : goal.returns
returns c =
    let l = lays c.args.part.now.is_sound in
    rw (c.if-on.false, c.cannot_off.ensures, c.filled_from.ensures, c.install.ensures.0 ∙ place_install l.0 l.1)
