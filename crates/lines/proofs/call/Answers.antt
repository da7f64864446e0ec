use mathlib.Core.Bool.{not}
use mathlib.Core.Path.{refl, ap}
use native.Mathlib.Omega.{arith}
use Rattle.lines.proofs.Outcomes.{nothing}
use Rattle.lines.proofs.Calls.{acted_is, not_counted, own_fits, call_made}
use Rattle.lines.proofs.call.Goals as goal

pub returns-then-not-counted : goal.returns-then-not-counted
returns-then-not-counted g c =
    let f = c.form_of-f in
    nothing _ _ (not_counted c.args.call c.args.nums.now f.result c.counted.result f.ensures.is c.counted.ensures c.args.register.now c.args.room (ap not c.if-not-counted.true))

pub returns : goal.returns
returns g c =
    let a = c.args in
    let f = c.form_of-f in
    let counted = c.if-not-counted.false in
    let own = c.own_numbers-own in
    let shares = c.table_room-shares in
    let row = c.print_row.ensures in
    let fits = own_fits a.call a.nums.now f.result c.counted.result f.ensures.is c.counted.ensures own.result own.ensures.0 counted in
    call_made a.call a.nums.now f.result c.counted.result f.ensures.is c.counted.ensures a.register.now _ _ _ own.result a.room shares.result _ counted own.ensures.0 fits c.requires.1 c.bytes_of-days.ensures.0 shares.ensures.0 (omega (arith, shares.ensures.1, c.requires.0)) c.filled-given.ensures.0 refl (omega (arith, f.ensures.short)) refl (acted_is c.invoke.ensures row.room row.text)
