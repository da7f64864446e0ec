use Prim.Native.Nat.{◌≤◌}
use mathlib.Core.Bool.{not}
use mathlib.Core.Path.{refl, ap, ◌∙◌}
use native.Mathlib.Omega.{arith}
use mir.Facts.{to_z-of_z}
use mir.Syntax.{w64}
use borrow.Author.Rules.{rules}
use Rattle.lines.specs.Lines.{most_bytes, table_room}
use Rattle.lines.proofs.Outcomes.{nothing}
use Rattle.lines.proofs.Calls.{showed_is, lent, not_lent, hub_made}
use Rattle.lines.proofs.on_bytes.Goals as goal

pub returns-then-not-lendable : goal.returns-then-not-lendable
returns-then-not-lendable g c =
    let a = c.args in
    let f = c.form_of-f in
    nothing _ _ (not_lent a.call a.nums.now f.result c.lendable.result f.ensures.is c.lendable.ensures a.register.now (ap not c.if-not-lendable.true))

pub returns : goal.returns
returns g c =
    let a = c.args in
    let f = c.form_of-f in
    let lendable = c.if-not-lendable.false in
    let from = c.lengths-from in
    let n = c.natural-n in
    let m = c.natural-m in
    let k = c.table_room-k.ensures.0 ∙ ap (table_room f.result) c.natural.ensures.0 in
    let h = lent f.result a.nums.now c.lendable.result c.lendable.ensures lendable in
    let answer_fits : m.result ≤ most_bytes = omega (arith, h.answer, m.ensures.0) in
    let table_fits : c.table_room-k.result ≤ most_bytes = omega (arith, h.table, k) in
    let text = rw (to_z-of_z {w = w64} {z = c.invoke-result.result} (search rules)) at c.print_bytes.ensures.text in
    hub_made a.call a.nums.now f.result c.lendable.result f.ensures.is c.lendable.ensures a.register.now _ _ from.result n.result m.result c.table_room-k.result lendable from.ensures.0 n.ensures.0 m.ensures.0 answer_fits k table_fits refl refl (showed_is c.invoke-result.ensures c.print_bytes.ensures.room f.result text)
