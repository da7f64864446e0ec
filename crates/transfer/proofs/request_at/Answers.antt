use Rattle.std.proofs.Common.{sym, ap, ◌∙◌, ◌-◌, arith}
use Rattle.calendar.specs.Calendar.{allowable_period}
use Rattle.calendar.proofs.Business.{period_bound}
use Rattle.point.specs.InnerTests.{reg_user}
use Rattle.table.proofs.Calls.{gives}
use Rattle.transfer.proofs.Points.{request_waiting, request_same, request_outside, request_full, request_entered}
use Rattle.transfer.proofs.request_at.Goals as goal

pub returns-then-pending_user-ne0 : goal.returns-then-pending_user-ne0
returns-then-pending_user-ne0 c =
    let d = allowable_period c.args.holidays.now c.args.proposed.0 c.args.nochange in
    gives (request_waiting c.requires.0 c.args.user d (λ e. c.if-pending_user-ne0.true (c.pending_user.ensures.0 ∙ e)))

pub returns-then-reg_user-user : goal.returns-then-reg_user-user
returns-then-reg_user-user c =
    let d = allowable_period c.args.holidays.now c.args.proposed.0 c.args.nochange in
    let idle = sym c.pending_user.ensures.0 ∙ c.if-pending_user-ne0.false in
    let latest = c.reg_user.ensures.0 ∙ ap (λ k. reg_user c.args.p.now (k - 1)) c.registrations-count.ensures.0 in
    gives (request_same c.requires.0 c.args.user d idle (sym latest ∙ c.if-reg_user-user.true))

pub returns-in_default : goal.returns-in_default
returns-in_default c =
    let d = allowable_period c.args.holidays.now c.args.proposed.0 c.args.nochange in
    let idle = sym c.pending_user.ensures.0 ∙ c.if-pending_user-ne0.false in
    let latest = c.reg_user.ensures.0 ∙ ap (λ k. reg_user c.args.p.now (k - 1)) c.registrations-count.ensures.0 in
    gives (request_outside c.requires.0 c.args.user d idle (λ h. c.if-reg_user-user.false (latest ∙ h)) (sym c.in_default.ensures))

pub returns-then-count-ge8 : goal.returns-then-count-ge8
returns-then-count-ge8 c =
    let d = allowable_period c.args.holidays.now c.args.proposed.0 c.args.nochange in
    let idle = sym c.pending_user.ensures.0 ∙ c.if-pending_user-ne0.false in
    let latest = c.reg_user.ensures.0 ∙ ap (λ k. reg_user c.args.p.now (k - 1)) c.registrations-count.ensures.0 in
    gives (request_full c.requires.0 c.args.user d idle (λ h. c.if-reg_user-user.false (latest ∙ h)) _ _ (sym c.in-Some.ensures) (omega (arith, c.registrations-count.ensures.0)))

pub set_pending-requires : goal.set_pending-requires
set_pending-requires c =
    let b = period_bound c.args.holidays.now c.args.proposed.0 c.args.nochange _ _ (sym c.in-Some.ensures) c.requires.2 in
    (omega arith, omega arith, omega arith, omega arith)

pub returns : goal.returns
returns c =
    let d = allowable_period c.args.holidays.now c.args.proposed.0 c.args.nochange in
    let idle = sym c.pending_user.ensures.0 ∙ c.if-pending_user-ne0.false in
    let latest = c.reg_user.ensures.0 ∙ ap (λ k. reg_user c.args.p.now (k - 1)) c.registrations-count.ensures.0 in
    let w = gives (request_entered c.requires.0 c.args.user d idle (λ h. c.if-reg_user-user.false (latest ∙ h)) _ _ (sym c.in-Some.ensures) (omega (arith, c.registrations-count.ensures.0))) in
    (w.0, c.set_pending.ensures ∙ w.1)
