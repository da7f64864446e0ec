use Rattle.std.proofs.Common.{arith}
use Rattle.table.proofs.Registers.{register_long, register_few}
use Rattle.table.proofs.register.Register.points.Goals as goal

pub points-requires : goal.points-requires
points-requires c = omega (arith, register_long c.args.self.now)

pub returns : goal.returns
returns c = (c.points.ensures.0, omega (arith, c.points.ensures.0, register_few c.args.self.now))
