use Rattle.std.proofs.Common.{◌≡◌, Err, refl, sym, rules}
use Rattle.energy.proofs.Entered.{refused, may, then_sound, replaced, recut_lem, entered, named}
use Rattle.energy.proofs.enter.Goals as goal

pub returns-in_err-check : goal.returns-in_err-check
returns-in_err-check c =
    let s = c.args in
    let gone : c.from_residual.result ≡ Err c.in_err-check.field-0.0 = search rules in
    let w = refused c.requires.0 s.x c.requires.1 s.nondaily s.daily _ c.in_err-check.ensures in rw gone (w.0, w.1, refl)

pub enter_record-requires : goal.enter_record-requires
enter_record-requires c =
    let s = c.args in
    (c.requires.0, c.requires.1, may c.requires.0 s.x c.requires.1 s.nondaily s.daily (sym c.in_ok-check.ensures))

pub settle_request-requires : goal.settle_request-requires
settle_request-requires c =
    let s = c.args in
    (then_sound c.requires.0 s.x c.requires.1 s.nondaily s.daily (sym c.in_ok-check.ensures) c.enter_record.ensures, c.requires.1)

pub returns-in-Appended : goal.returns-in-Appended
returns-in-Appended c =
    let s = c.args in
    let clear = sym c.in_ok-check.ensures in
    let w = entered c.requires.0 s.x c.requires.1 s.nondaily s.daily clear c.enter_record.ensures (sym c.in-Appended.is) _ c.settle_request.ensures in
    (w.0, w.1, named (then_sound c.requires.0 s.x c.requires.1 s.nondaily s.daily clear c.enter_record.ensures) _ c.settle_request.ensures)

pub returns-in-Replaced : goal.returns-in-Replaced
returns-in-Replaced c =
    let s = c.args in
    let w = replaced c.requires.0 s.x c.requires.1 s.nondaily s.daily (sym c.in_ok-check.ensures) c.enter_record.ensures (sym c.in-Replaced.is) in
    (w.0, w.1, refl)

pub returns-in-Recut : goal.returns-in-Recut
returns-in-Recut c =
    let s = c.args in
    let w = recut_lem c.requires.0 s.x c.requires.1 s.nondaily s.daily (sym c.in_ok-check.ensures) c.enter_record.ensures (sym c.in-Recut.is) in
    (w.0, w.1, refl)
