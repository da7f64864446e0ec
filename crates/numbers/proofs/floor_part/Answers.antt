use native.Mathlib.Omega.{arith}
use Rattle.numbers.proofs.Shares.{raised_fits, floored_small, floored_part_lem}
use Rattle.numbers.proofs.floor_part.Goals as goal

pub overflow_mul-result : goal.overflow_mul-result
overflow_mul-result c =
    omega (arith, raised_fits c.args.u c.args.n c.args.k c.requires.0 c.requires.2 c.requires.3)

pub overflow_add-result : goal.overflow_add-result
overflow_add-result c =
    omega (arith, raised_fits c.args.u c.args.n c.args.k c.requires.0 c.requires.2 c.requires.3)

pub returns : goal.returns
returns c =
    (floored_part_lem c.args.u c.args.n c.args.k c.requires.1 c.requires.3, floored_small c.args.u c.args.n c.args.k c.requires.0 c.requires.3)
