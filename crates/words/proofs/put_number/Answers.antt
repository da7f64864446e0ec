use Rattle.std.proofs.Common.{◌≡◌, ◌∙◌, ◌+◌, ◌-◌, take, ap, arith}
use Rattle.words.proofs.Numbers.{number_eight}
use Rattle.words.proofs.put_number.Goals as goal

pub returns : goal.returns
returns g c =
    let n = g.row.N in
    let at = c.args.at in
    let k : at + n - at ≡ n = omega arith in
    number_eight c.args.b.now _ at n _ c.args.n c.requires.0 c.requires.1 k (c.copy_from_slice.ensures.after ∙ ap (take n) c.to_le_bytes-bytes.ensures)
