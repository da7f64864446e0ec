use Rattle.table.proofs.Registers.{register_long, register_few}
use Rattle.table.proofs.register.Register.index_of.Goals as goal

pub index_of-requires : goal.index_of-requires
index_of-requires c = let r = c.args.self.now in (r.fits, register_long r, register_few r)
