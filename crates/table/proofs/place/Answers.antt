use mathlib.Core.Path.{◌≡◌, ap}
use Prim.Native.Nat.{◌+◌, ◌*◌, ◌≤◌}
use Rattle.layout.specs.Layout.{table_length, place_of}
use Rattle.table.proofs.Laws.{place_small}
use Rattle.table.proofs.place.Goals as goal

pub returns : goal.returns
returns c =
    let is : 8 + c.stride.result * c.args.i ≡ place_of c.args.ed c.args.i = ap (λ s. 8 + s * c.args.i) c.stride.ensures.0 in
    let small : place_of c.args.ed c.args.i ≤ table_length = place_small c.args.ed c.requires.0 c.args.i c.requires.1 in
    (is, rw is small)
