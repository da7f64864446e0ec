use Rattle.std.proofs.Common.{sym, ap₂, ◌∙◌, arith, rules}
use Rattle.layout.specs.Layout.{point_from}
use Rattle.layout.specs.InnerWrites.{append_registration, cut_registrations}
use Rattle.correction.proofs.Walks.{last_before, adds_one}
use Rattle.correction.proofs.Points.{kept_is, added_is}
use Rattle.correction.proofs.register_from.Goals as goal

pub append_registration-requires : goal.append_registration-requires
append_registration-requires c =
    let a = c.args in
    let last = c.is_last-repeats.ensures ∙ last_before a.day a.user (point_from a.p.now).regs _ c.started-k.ensures.0 in
    let more = adds_one a.day a.user (point_from a.p.now).regs (sym last ∙ c.if-not-repeats.true) in
    (omega (arith, more, c.started-k.ensures.0, c.requires.4), search rules, search rules, search rules)

pub returns-then-not-repeats : goal.returns-then-not-repeats
returns-then-not-repeats c =
    let s = c.requires in
    let a = c.args in
    let last = c.is_last-repeats.ensures ∙ last_before a.day a.user (point_from a.p.now).regs _ c.started-k.ensures.0 in
    let cut = c.cut_registrations.ensures ∙ ap₂ (cut_registrations a.p.now) c.started-k.ensures.0 c.registrations-n.ensures.0 in
    c.append_registration.ensures
    ∙ ap₂ (λ p k. append_registration p k a.day a.user) cut c.started-k.ensures.0
    ∙ added_is s.0 a.user a.day s.1 s.2 s.3 s.4 (sym last ∙ c.if-not-repeats.true)

pub returns-else-not-repeats : goal.returns-else-not-repeats
returns-else-not-repeats c =
    let s = c.requires in
    let a = c.args in
    let last = c.is_last-repeats.ensures ∙ last_before a.day a.user (point_from a.p.now).regs _ c.started-k.ensures.0 in
    let cut = c.cut_registrations.ensures ∙ ap₂ (cut_registrations a.p.now) c.started-k.ensures.0 c.registrations-n.ensures.0 in
    cut ∙ kept_is s.0 a.user a.day s.1 s.2 s.3 (sym last ∙ c.if-not-repeats.false)
