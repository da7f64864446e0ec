use Rattle.std.proofs.Common.{sym, ap, ◌∙◌, rules}
use Rattle.std.proofs.lemmas.Result.{err_from_is_err_and}
use Rattle.layout.specs.InnerWrites.{clear_pending}
use Rattle.correction.proofs.Points.{room_left, own_left, others_left, part_back, part_done}
use Rattle.correction.proofs.correct_at.Goals as goal

pub returns-in_err-point_row : goal.returns-in_err-point_row
returns-in_err-point_row c =
    let s = c.requires in
    let a = c.args in
    let p = err_from_is_err_and c.from_residual.result c.from_residual.ensures.1 in
    rw (p.1, p.2) (part_back s.0 a.user a.day s.1 s.2 s.3 a.notice _ c.in_err-point_row.ensures)

pub register_from-requires : goal.register_from-requires
register_from-requires c =
    let s = c.requires in
    let a = c.args in
    let h = room_left s.0 a.user a.day s.1 s.2 s.3 a.notice (sym c.in_ok-point_row.ensures) in
    search rules

pub returns-then-pending-user : goal.returns-then-pending-user
returns-then-pending-user c =
    let s = c.requires in
    let a = c.args in
    let none = sym c.in_ok-point_row.ensures in
    let fits = room_left s.0 a.user a.day s.1 s.2 s.3 a.notice none in
    let own = sym c.pending_user-pending.ensures.0 ∙ c.if-pending-user.true in
    part_done s.0 a.user a.day s.1 s.2 s.3 a.notice none _ c.flags-affected.ensures _
    (c.clear_pending.ensures ∙ ap clear_pending c.register_from.ensures ∙ own_left s.0 a.user a.day s.1 s.2 s.3 fits own)

pub returns-else-pending-user : goal.returns-else-pending-user
returns-else-pending-user c =
    let s = c.requires in
    let a = c.args in
    part_done s.0 a.user a.day s.1 s.2 s.3 a.notice (sym c.in_ok-point_row.ensures) _ c.flags-affected.ensures _
    (c.register_from.ensures ∙ others_left s.0 a.user a.day s.1 s.2 s.3 (λ e. c.if-pending-user.false (c.pending_user-pending.ensures.0 ∙ e)))
