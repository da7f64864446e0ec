use Prim.Native.Nat.{◌*◌}
use native.Mathlib.Nat.{sub-zero}
use Rattle.lines.proofs.Outcomes.{nothing, no_line, on_lent_lem, on_lent_kept}
use Rattle.lines.proofs.answer.Goals as goal

pub returns-in-Call : goal.returns-in-Call
returns-in-Call g c =
    let told = c.before in
    let a = told.args in
    rw (told.in-Call.is, sub-zero (8 * a.lent)) (on_lent_lem a.register.now _ (8 * a.lent) _ (rw (sub-zero (8 * a.lent)) at c.call.ensures))

pub returns-in-Look : goal.returns-in-Look
returns-in-Look g c =
    let told = c.before in
    let a = told.args in
    rw told.in-Look.is (on_lent_kept a.register.now (8 * a.lent) _ (rw (sub-zero (8 * a.lent)) at c.look.ensures))

pub returns-in-Table : goal.returns-in-Table
returns-in-Table g c =
    rw c.in-Table.is c.table.ensures

pub returns-in-Poke : goal.returns-in-Poke
returns-in-Poke g c =
    rw c.in-Poke.is c.poke.ensures

pub returns-in-Convert : goal.returns-in-Convert
returns-in-Convert g c =
    rw c.in-Convert.is c.convert.ensures

pub returns-in_default : goal.returns-in_default
returns-in_default g c =
    let a = c.args in
    let d = c.in_default in
    nothing _ _ (no_line a.command a.register.now a.lent a.room a.nums.now d.not-Call d.not-Look d.not-Table d.not-Poke d.not-Convert)
