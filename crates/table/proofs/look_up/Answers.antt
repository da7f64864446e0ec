use Rattle.std.proofs.Common.{refl, ap, ◌∙◌}
use Rattle.daybook.specs.Editions.{editions}
use Rattle.table.specs.Lookup.{look_up}
use Rattle.table.proofs.Locating.{nothing_sound, nothing_known, part_found, looked_up}
use Rattle.table.proofs.Registers.{own_edition}
use Rattle.table.proofs.look_up.Goals as goal

pub returns-in_default : goal.returns-in_default
returns-in_default c = nothing_sound _ _ c.in_default.ensures.is

pub returns-in_default-locate : goal.returns-in_default-locate
returns-in_default-locate c =
    let r = c.in-Ok.register in
    let ok = c.in-Ok.ensures.ok in
    nothing_known _ _ _ c.ranges.m (own_edition r ok) r.is_sound c.in_default-locate.ensures.is
    ∙ ap (λ t. look_up editions t c.args.m) ok.0

pub returns : goal.returns
returns c =
    let r = c.in-Ok.register in
    let ok = c.in-Ok.ensures.ok in
    looked_up r.fits (part_found _ _ _ c.ranges.m r.is_sound refl c.in-Ok-locate.ensures.is) (own_edition r ok)
    ∙ ap (λ t. look_up editions t c.args.m) ok.0
