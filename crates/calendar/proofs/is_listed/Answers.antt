use Rattle.std.proofs.Common.{◌≡◌, ◌∙◌, pos, ap, to_z, of_z, w64, to_z-of_z, int_eq}
use borrow.Author.Rules.{sfits_of}
use Rattle.std.specs.List.{list_any}
use Rattle.calendar.proofs.Business.{listed_contains}
use Rattle.calendar.proofs.is_listed.Goals as goal

pub returns : goal.returns
returns c =
    let read : to_z w64 (of_z w64 c.integer.result) ≡ pos c.args.d.0 = to_z-of_z {w = w64} (sfits_of c.integer.type_inv) ∙ c.integer.ensures in
    c.contains.ensures.value ∙ ap (λ z. list_any (λ h. int_eq h z) c.args.hs.now) read ∙ listed_contains c.args.hs.now c.args.d.0
