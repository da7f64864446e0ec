use mathlib.Core.Path.{◌∙◌, sym, ap}
use mathlib.Core.Bool.{not, ◌&&◌}
use lib.Dec.{leb}
use Rattle.layout.specs.Layout.{point_from}
use Rattle.layout.proofs.Cells.{place_offs}
use Rattle.layout.proofs.SoundParts.{lays}
use Rattle.status.proofs.Part.{row_fourteen, row_sixteen, row_none}
use Rattle.status.proofs.refusal.Goals as goal

pub returns-then-cannot_switch : goal.returns-then-cannot_switch
returns-then-cannot_switch c =
    row_fourteen _ _ (point_from c.args.part.now.numbers.now) _ c.cannot_switch.ensures c.if-cannot_switch.true

pub returns-then-on-spans : goal.returns-then-on-spans
returns-then-on-spans c =
    let l = lays c.args.part.now.is_sound in
    row_sixteen _ _ (point_from c.args.part.now.numbers.now) _ c.cannot_switch.ensures c.if-cannot_switch.false (ap (λ n. not c.args.on && leb 8 n) (sym (c.spans.ensures.0 ∙ place_offs l.0 l.1)) ∙ c.if-on-spans.true)

pub returns : goal.returns
returns c =
    let l = lays c.args.part.now.is_sound in
    row_none _ _ (point_from c.args.part.now.numbers.now) _ c.cannot_switch.ensures c.if-cannot_switch.false (ap (λ n. not c.args.on && leb 8 n) (sym (c.spans.ensures.0 ∙ place_offs l.0 l.1)) ∙ c.if-on-spans.false)
