use Rattle.std.proofs.Common.{rules, tests}
use Rattle.correction.proofs.Points.{rows_read}
use Rattle.correction.proofs.point_row.Goals as goal

pub returns-then-outside : goal.returns-then-outside
returns-then-outside c =
    let s = c.requires in
    let a = c.args in
    let r = rows_read a.part.now.is_sound a.user a.day s.0 s.1 s.2 a.notice c.install.ensures.0 c.registrations-last.ensures.0
    c.permitted-outside.ensures c.reg_start.ensures.0 c.reg_user.ensures.0 c.most.ensures c.left.ensures in
    search (rules, tests)

pub returns-then-unchanged : goal.returns-then-unchanged
returns-then-unchanged c =
    let s = c.requires in
    let a = c.args in
    let r = rows_read a.part.now.is_sound a.user a.day s.0 s.1 s.2 a.notice c.install.ensures.0 c.registrations-last.ensures.0
    c.permitted-outside.ensures c.reg_start.ensures.0 c.reg_user.ensures.0 c.most.ensures c.left.ensures in
    search (rules, tests)

pub returns-then-full : goal.returns-then-full
returns-then-full c =
    let s = c.requires in
    let a = c.args in
    let r = rows_read a.part.now.is_sound a.user a.day s.0 s.1 s.2 a.notice c.install.ensures.0 c.registrations-last.ensures.0
    c.permitted-outside.ensures c.reg_start.ensures.0 c.reg_user.ensures.0 c.most.ensures c.left.ensures in
    search (rules, tests)

pub returns : goal.returns
returns c =
    let s = c.requires in
    let a = c.args in
    let r = rows_read a.part.now.is_sound a.user a.day s.0 s.1 s.2 a.notice c.install.ensures.0 c.registrations-last.ensures.0
    c.permitted-outside.ensures c.reg_start.ensures.0 c.reg_user.ensures.0 c.most.ensures c.left.ensures in
    search (rules, tests)
