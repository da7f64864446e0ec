use mathlib.Core.Path.{◌∙◌}
use native.Mathlib.Omega.{arith}
use Rattle.layout.specs.Layout.{point_from}
use Rattle.layout.proofs.Cells.{place_offs}
use Rattle.layout.proofs.SoundParts.{lays}
use Rattle.status.proofs.Part.{open_is, close_is, room_to_open, span_to_close}
use borrow.Author.Rules.{rules}
use Rattle.status.proofs.switch.Goals as goal

pub overflow_sub-n : goal.overflow_sub-n
overflow_sub-n c =
    let l = lays c.requires.0 in
    let e = place_offs l.0 l.1 in
    let h = span_to_close _ (point_from c.args.p.now) (rw c.if-on.true at c.requires.2) in
    search rules

pub open_span-requires : goal.open_span-requires
open_span-requires c =
    let l = lays c.requires.0 in
    let e = place_offs l.0 l.1 in
    let h = room_to_open _ (point_from c.args.p.now) (rw c.if-on.false at c.requires.2) in
    search rules

pub returns-then-on : goal.returns-then-on
returns-then-on c =
    let s = c.before in
    let l = lays s.requires.0 in
    let g = c.spans-n.ensures.0 in
    let e = place_offs l.0 l.1 in
    let h = span_to_close _ (point_from s.args.p.now) (rw c.if-on.true at s.requires.2) in
    rw c.if-on.true (c.close_span.ensures ∙ close_is l.0 l.1 s.args.day _ g (omega arith))

pub returns-else-on : goal.returns-else-on
returns-else-on c =
    let s = c.before in
    let l = lays s.requires.0 in
    let g = c.spans-n.ensures.0 in
    let e = place_offs l.0 l.1 in
    let h = room_to_open _ (point_from s.args.p.now) (rw c.if-on.false at s.requires.2) in
    rw c.if-on.false (c.open_span.ensures ∙ open_is l.0 l.1 s.args.day _ g (omega arith))
