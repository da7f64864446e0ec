use mathlib.Core.Path.{◌≡◌, ◌∙◌, ap}
use native.Mathlib.Omega.{arith}
use lib.ListN.{length}
use Rattle.layout.specs.Layout.{stride, num_at}
use Rattle.table.specs.InnerRegisters.{number_of_points}
use Rattle.table.proofs.Laws.{lent}
use Rattle.conversion.specs.InnerConversion.{parts_into}
use Rattle.conversion.proofs.Room.{points_fit, records_fit}
use Rattle.conversion.proofs.CopiedParts.{lent_length, part_copied, parts_none}
use Rattle.conversion.proofs.copy_parts.Goals as goal

pub loop-i-init : goal.loop-i-init
loop-i-init c =
    let a = c.args in
    let r = a.register.now in (
      c.points-i-end.ensures.0,
      omega (arith, c.points-i-end.ensures.0, points_fit r.edition a.to r.table.now c.requires.room),
      parts_none r.edition a.to r.table.now _,
    )

pub copy_part-requires : goal.copy_part-requires
copy_part-requires c =
    let a = c.args in
    let l = c.loop-i in
    let n : length (lent l.second c.place-a.result c.place-b.result) ≡ stride a.to =
    lent_length a.to c.requires.other l.second l.i _ _ (omega arith) (omega arith) c.place-a.ensures.0 c.place-b.ensures.0 in
    let r = a.register.now in
    let h = records_fit r.edition a.to r.fits r.table.now r.is_sound c.requires.room l.i (omega arith) in (
      omega (arith, ap (λ p. num_at p 6) c.part.ensures.is),
      omega arith,
    )

pub loop-i-preserved : goal.loop-i-preserved
loop-i-preserved c =
    let a = c.args in
    let l = c.loop-i in (
      l.invariant.0,
      l.invariant.1,
      part_copied a.to c.requires.other l.second l.i _ _ (omega arith) (omega arith) c.place-a.ensures.0 c.place-b.ensures.0
          a.register.now.edition a.register.now.table.now a.second.now _ _ c.part.ensures.is l.invariant.2 c.copy_part.ensures,
    )

pub returns : goal.returns
returns c =
    let l = c.loop-i in
    let a = c.args in
    let r = a.register.now in
    let e : l.i ≡ number_of_points r = omega (arith, l.invariant.0) in
    l.invariant.2 ∙ ap (parts_into r.edition a.to r.table.now a.second.now) e
