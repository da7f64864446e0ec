use Rattle.table.proofs.Laws.{part_is_lem}
use Rattle.table.proofs.part.Goals as goal

pub returns : goal.returns
returns c =
    part_is_lem c.args.ed c.requires.0 c.args.t.now c.args.i _ _ c.place-a.ensures.0 c.place-b.ensures.0
