use Prim.Native.Nat.{◌+◌, ◌/◌}
use native.Mathlib.Omega.{arith}
use mathlib.Core.List.{map-id}
use lib.ListN.{length, take}
use Rattle.lending.proofs.Bytes.{both_read}
use Rattle.lending.proofs.print_row.Goals as goal

pub returns-clause-text : goal.returns-clause-text
returns-clause-text g c =
    let a = c.args in
    let n = length a.answer.now / 8 in
    let m = length a.table.now / 8 in
    let v = c.decode-2.new.t in
    rw (map-id (take (n + m) v), both_read a.answer.now a.table.now _ _ v n m (omega (arith, c.requires)) c.decode.ensures c.decode-2.ensures) at c.row.ensures.text
