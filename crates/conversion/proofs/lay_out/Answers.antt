use mathlib.Core.Path.{◌∙◌, ap}
use native.Mathlib.Omega.{arith}
use Rattle.layout.specs.Layout.{place_of}
use Rattle.table.proofs.Registers.{register_long}
use Rattle.conversion.proofs.Room.{points_fit}
use Rattle.conversion.proofs.LaidOut.{laid_out}
use Rattle.conversion.proofs.lay_out.Goals as goal

pub place-end-requires : goal.place-end-requires
place-end-requires c =
    (c.requires.other, omega (arith, c.points.ensures.0, points_fit c.args.register.now.edition c.args.to c.args.register.now.table.now c.requires.room))

pub copy_first-requires : goal.copy_first-requires
copy_first-requires c = (omega arith, omega (arith, register_long c.args.register.now))

pub returns : goal.returns
returns c =
    let a = c.args in
    let r = a.register.now in
    c.clear.ensures
    ∙ laid_out r.edition a.to r.fits c.requires.other r.table.now r.is_sound c.requires.room a.second.now c.requires.long
    _ _ _ _ c.copy_parts.ensures c.copy_first.ensures c.put.ensures
    (c.place-end.ensures.0 ∙ ap (place_of a.to) c.points.ensures.0)
