use Prim.Native.Nat.{◌*◌}
use native.Mathlib.Nat.{sub-zero}
use Rattle.lines.proofs.Outcomes.{on_lent_lem}
use Rattle.imagelines.proofs.Outcomes.{on_images_lem, on_register_lem}
use Rattle.imagelines.proofs.answer.Goals as goal

pub returns-in-Save : goal.returns-in-Save
returns-in-Save g c =
    let told = c.before in
    let a = told.args in
    rw told.in-Save.is (on_images_lem a.register.now _ (rw (sub-zero (8 * a.lent)) at c.save.ensures))

pub returns-in-Restore : goal.returns-in-Restore
returns-in-Restore g c =
    let told = c.before in
    let a = told.args in
    rw (told.in-Restore.is, sub-zero (8 * a.lent)) (on_register_lem a.images.now _ (on_lent_lem a.register.now _ (8 * a.lent) _ (rw (sub-zero (8 * a.lent)) at c.restore.ensures)))

pub returns-in-Poke : goal.returns-in-Poke
returns-in-Poke g c =
    let told = c.before in
    rw told.in-Poke.is (on_images_lem _ _ c.poke.ensures)

pub returns-in-Sums : goal.returns-in-Sums
returns-in-Sums g c =
    let told = c.before in
    rw told.in-Sums.is (on_images_lem _ _ c.sums.ensures)
