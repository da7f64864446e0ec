use Prim.Native.Nat.{◌+◌, ◌*◌}
use native.Mathlib.Omega.{arith}
use Rattle.std.proofs.Common.{rules}
use Rattle.daybook.specs.Queries.{weight}
use Rattle.layout.specs.Layout.{stride}
use Rattle.table.specs.InnerRegisters.{number_of_points}
use Rattle.table.proofs.Laws.{place_small}
use Rattle.table.proofs.Registers.{register_few}
use Rattle.allocate.proofs.Arrays.{spread}
use Rattle.allocate.proofs.weights.Goals as goal

pub returns : goal.returns
returns c =
    let r = c.args.register.now in
    let n = number_of_points r in
    let ws = c.of_points.ensures (weight c.args.g c.args.a c.args.b) (4000000 + 250000 * stride r.edition) (λ p r long said. search rules) in
    (ws.0, omega (arith, ws.1, spread (stride r.edition) n, register_few r, r.fits.few, place_small r.edition r.fits n (register_few r)))
