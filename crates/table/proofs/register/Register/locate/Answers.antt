use Rattle.std.proofs.Common.{ap, ◌∙◌}
use Rattle.numbers.proofs.Naturals.{natural_read}
use Rattle.table.specs.Lookup.{index_of}
use Rattle.table.proofs.Locating.{given_none, given_place, place_within}
use Rattle.table.proofs.register.Register.locate.Goals as goal

pub returns-in_default-clause-is : goal.returns-in_default-clause-is
returns-in_default-clause-is c =
    let r = c.args.self.now in
    given_none _ _ _ (c.in_default.ensures.is ∙ ap (index_of r.edition r.table.now) (c.natural.ensures.0 ∙ natural_read c.args.mirn c.ranges.mirn))

pub returns-clause-is : goal.returns-clause-is
returns-clause-is c =
    let r = c.args.self.now in
    given_place _ _ _
    (c.in-Some.ensures.is ∙ ap (index_of r.edition r.table.now) (c.natural.ensures.0 ∙ natural_read c.args.mirn c.ranges.mirn))
    c.place.ensures.0 c.place-2.ensures.0

pub returns-clause-ok : goal.returns-clause-ok
returns-clause-ok c =
    let r = c.args.self.now in
    place_within _ _ r.fits r.is_sound c.in-Some.ensures.some c.place.ensures.0 c.place-2.ensures.0
