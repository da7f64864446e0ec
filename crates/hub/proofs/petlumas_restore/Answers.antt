-- The state number is read back from its bits.
use mathlib.Core.Path.{ap, ◌∙◌}
use mir.Facts.{to_z-of_z}
use borrow.Author.Rules.{rules}
use Rattle.words.specs.Words.{bits_of}
use Rattle.buffers.proofs.Ends.{first_small, ended}
use Rattle.buffers.proofs.Images.{image_lent}
use Rattle.hub.proofs.Refusals.{restore_small}
use Rattle.hub.proofs.petlumas_restore.Goals as goal

pub finish-requires : goal.finish-requires
finish-requires c =
    let e = rw (to_z-of_z c.ranges.state, c.table_in-table.ensures.0, image_lent c.args.image.now c.args.answer.now _ c.image_room-n.ensures.0) at c.restore-a.ensures in
    (search rules, search rules, search rules, first_small _ _ (c.notice_numbers-numbers.ensures ∙ ap bits_of e.0) (restore_small _ _ _))

pub returns : goal.returns
returns c =
    let e = rw (to_z-of_z c.ranges.state, c.table_in-table.ensures.0, image_lent c.args.image.now c.args.answer.now _ c.image_room-n.ensures.0) at c.restore-a.ensures in
    ended _ _ (c.notice_numbers-numbers.ensures ∙ ap bits_of e.0) (restore_small _ _ _) _ _ e.1 _ (search rules) _ _ _ _ c.finish.ensures
