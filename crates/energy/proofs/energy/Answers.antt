use Rattle.std.proofs.Common.{◌≡◌, Err, refl, ◌∙◌, ap, rules}
use Rattle.energy.proofs.Call.{own_edition, energy_unsound}
use Rattle.energy.proofs.energy.Goals as goal

pub returns-in_err-edition : goal.returns-in_err-edition
returns-in_err-edition c =
    let gone : c.from_residual.result ≡ Err c.in_err-edition.field-0.0 = search rules in
    let w = energy_unsound c.args.t.now c.args.n _ c.in_err-edition.ensures.is in rw gone (w.0, w.1, refl)

pub returns : goal.returns
returns c =
    let is = own_edition _ c.args.t.now c.in_ok-edition.ensures.ok.1 c.args.n in
    let d = c.enter_in_sound.ensures in
    (d.0 ∙ ap (λ w. w.0) is, d.1 ∙ ap (λ w. w.1) is, d.2)
