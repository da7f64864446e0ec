use Rattle.std.proofs.Common.{arith, sym, subst}
use Rattle.layout.specs.InnerParts.{SoundPart}
use Rattle.table.proofs.Registers.{register_long, register_few, register_part}
use Rattle.table.proofs.register.Register.part.Goals as goal

pub part-requires : goal.part-requires
part-requires c =
    let r = c.args.self.now in (r.fits, omega (arith, c.requires, register_few r), register_long r)

pub returns-clause-sound : goal.returns-clause-sound
returns-clause-sound c = subst SoundPart (sym c.part.ensures) (register_part c.args.self.now c.args.i c.requires)
