use Rattle.layout.proofs.SoundParts.{lays}
use Rattle.status.proofs.Part.{unfilled, filled_to_lem}
use Rattle.status.proofs.filled_from.Goals as goal

pub returns-then-n-eq0 : goal.returns-then-n-eq0
returns-then-n-eq0 c =
    let l = lays c.args.part.now.is_sound in
    unfilled l.0 l.1 c.args.day _ c.records-n.ensures.0 c.if-n-eq0.true

pub returns : goal.returns
returns c =
    let l = lays c.args.part.now.is_sound in
    filled_to_lem l.0 l.1 c.args.day _ c.records-n.ensures.0 c.if-n-eq0.false _ c.rec_end.ensures.0
