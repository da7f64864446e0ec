use native.Mathlib.Omega.{arith}
use Rattle.numbers.proofs.Shares.{turned_back}
use Rattle.numbers.proofs.partial_energy.Goals as goal

pub returns : goal.returns
returns c =
    let part = c.floor_part.ensures in
    (turned_back c.args.u c.args.n c.args.k _ c.requires.0 part.1 part.0, omega arith)
