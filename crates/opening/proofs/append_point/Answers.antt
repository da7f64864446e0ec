use Rattle.std.proofs.Common.{◌∙◌, rules}
use Rattle.numbers.proofs.Naturals.{natural_read}
use Rattle.opening.proofs.CallNumbers.{append_is}
use Rattle.opening.proofs.append_point.Goals as goal

pub returns : goal.returns
returns c =
    let user = c.natural.ensures.0 ∙ natural_read c.args.n.user (search rules) in
    c.put.ensures
    ∙ append_is c.args.ed c.requires.0 c.args.t.now c.args.i _ _ c.place-a.ensures.0 c.place-b.ensures.0 c.args.n
    c.facts_of.ensures user c.open_point.ensures
