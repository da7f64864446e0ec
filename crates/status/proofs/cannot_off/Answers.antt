use Rattle.layout.proofs.SoundParts.{lays}
use Rattle.status.proofs.Part.{off_unswitched, off_switched}
use Rattle.status.proofs.cannot_off.Goals as goal

pub returns-then-n-eq0 : goal.returns-then-n-eq0
returns-then-n-eq0 c =
    let l = lays c.args.part.now.is_sound in
    off_unswitched l.0 l.1 c.args.day _ c.spans-n.ensures.0 c.if-n-eq0.true

pub returns : goal.returns
returns c =
    let l = lays c.args.part.now.is_sound in
    off_switched l.0 l.1 c.args.day _ c.spans-n.ensures.0 c.if-n-eq0.false _ c.on_day.ensures.0 c.requires
