use mathlib.Core.Path.{sym, ◌∙◌, ap}
use native.Mathlib.Omega.{arith}
use lib.ListN.{length}
use Rattle.numbers.proofs.Rows.{all_none, all_more, all_fails, all_done}
use Rattle.layout.specs.Sound.{part_sound}
use Rattle.layout.proofs.SoundParts.{part_length}
use Rattle.table.proofs.parts_sound.Goals as goal

pub loop-i-init : goal.loop-i-init
loop-i-init c = all_none _

pub part_sound-requires : goal.part_sound-requires
part_sound-requires c =
    let s = c.before in
    let e = ap length c.part.ensures ∙ part_length s.args.ed s.requires.0 s.args.t.now c.loop-i.i (omega arith) s.requires.2 in
    (omega arith, omega arith)

pub returns-then-not-part_sound : goal.returns-then-not-part_sound
returns-then-not-part_sound c =
    sym (all_fails _ c.loop-i.i _ (omega arith) (sym (c.part_sound.ensures ∙ ap part_sound c.part.ensures) ∙ c.if-not-part_sound.true))

pub loop-i-preserved : goal.loop-i-preserved
loop-i-preserved c =
    all_more _ _ c.loop-i.invariant (sym (c.part_sound.ensures ∙ ap part_sound c.part.ensures) ∙ c.if-not-part_sound.false)

pub returns : goal.returns
returns c = all_done _ _ _ c.loop-i.invariant (omega arith)
