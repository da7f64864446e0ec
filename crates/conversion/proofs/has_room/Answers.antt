use Rattle.conversion.proofs.Room.{has_room_is}
use Rattle.conversion.proofs.has_room.Goals as goal

pub returns : goal.returns
returns c =
    let r = c.args.register.now in
    has_room_is r.edition c.args.to r.table.now _ _ _ c.points-n.ensures.0 c.all_unfilled-reserved.ensures.0 c.most_records.ensures
