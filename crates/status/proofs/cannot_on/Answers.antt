use Rattle.layout.proofs.SoundParts.{lays}
use Rattle.status.proofs.Part.{on_unswitched, on_switched}
use Rattle.status.proofs.cannot_on.Goals as goal

pub returns-then-n-eq0 : goal.returns-then-n-eq0
returns-then-n-eq0 c =
    let l = lays c.args.part.now.is_sound in
    on_unswitched l.0 l.1 c.args.day _ c.spans-n.ensures.0 c.if-n-eq0.true

pub returns : goal.returns
returns c =
    let l = lays c.args.part.now.is_sound in
    on_switched l.0 l.1 c.args.day _ c.spans-n.ensures.0 c.if-n-eq0.false _ _ c.on_day.ensures.0 c.off_day.ensures.0
