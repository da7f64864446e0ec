use Rattle.std.proofs.Common.{sym, ap, ◌∙◌, ◌+◌, length}
use Rattle.point.specs.InnerParts.{lists_of}
use Rattle.correction.proofs.Walks.{last_before, repeats, adds_one}
use Rattle.correction.proofs.left.Goals as goal

pub returns-then-is_last : goal.returns-then-is_last
returns-then-is_last c =
    let a = c.args in
    let regs = (lists_of a.part.now).regs in
    let last = c.is_last.ensures ∙ last_before a.day a.user regs _ c.started-k.ensures.0 in
    c.started-k.ensures.0 ∙ sym (ap length (repeats a.day a.user regs (sym last ∙ c.if-is_last.true)))

pub returns : goal.returns
returns c =
    let a = c.args in
    let regs = (lists_of a.part.now).regs in
    let last = c.is_last.ensures ∙ last_before a.day a.user regs _ c.started-k.ensures.0 in
    ap (λ k. k + 1) c.started-k.ensures.0 ∙ sym (adds_one a.day a.user regs (sym last ∙ c.if-is_last.false))
