use Rattle.std.proofs.Common.{arith}
use Rattle.entering.proofs.Settling.{reads, reg_room, registered, lapsed, stayed}
use Rattle.entering.proofs.settle_request.Goals as goal

pub append_registration-requires : goal.append_registration-requires
append_registration-requires c =
    let is =
    reads c.registrations-n.ensures.0 c.pending_user-user.ensures.0 c.pending_first-first.ensures.0 c.pending_last-last.ensures.0 c.reg_start-latest.ensures.0 c.section-section.ensures.0 in
    let h = reg_room c.requires.0 c.args.x is _ c.if-timely-section.true in (h.0, omega arith, omega arith, omega arith)

pub returns-then-timely-section : goal.returns-then-timely-section
returns-then-timely-section c =
    let is =
    reads c.registrations-n.ensures.0 c.pending_user-user.ensures.0 c.pending_first-first.ensures.0 c.pending_last-last.ensures.0 c.reg_start-latest.ensures.0 c.section-section.ensures.0 in
    registered c.requires.0 c.args.x is c.if-timely-section.true c.append_registration.ensures c.clear_pending.ensures

pub returns-then-user-end : goal.returns-then-user-end
returns-then-user-end c =
    let is =
    reads c.registrations-n.ensures.0 c.pending_user-user.ensures.0 c.pending_first-first.ensures.0 c.pending_last-last.ensures.0 c.reg_start-latest.ensures.0 c.section-section.ensures.0 in
    stayed c.requires.0 c.args.x is c.if-timely-section.false c.if-user-end.true

pub returns : goal.returns
returns c =
    let is =
    reads c.registrations-n.ensures.0 c.pending_user-user.ensures.0 c.pending_first-first.ensures.0 c.pending_last-last.ensures.0 c.reg_start-latest.ensures.0 c.section-section.ensures.0 in
    lapsed c.requires.0 c.args.x is c.if-timely-section.false c.if-user-end.false c.clear_pending-2.ensures
