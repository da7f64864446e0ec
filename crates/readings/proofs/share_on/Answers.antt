use Rattle.readings.proofs.Shares.{one_share}
use Rattle.readings.proofs.share_on.Goals as goal

pub overflow_sub-result : goal.overflow_sub-result
overflow_sub-result c = (one_share c.args.part.now.is_sound c.args.d c.energy_between.result c.energy_between.ensures.0).0

pub returns : goal.returns
returns c = (one_share c.args.part.now.is_sound c.args.d c.energy_between.result c.energy_between.ensures.0).1
