-- Each number of the notice is read back from its bits.
use mathlib.Core.Path.{ap, ◌∙◌}
use mir.Facts.{to_z-of_z}
use borrow.Author.Rules.{rules}
use Rattle.words.specs.Words.{bits_of}
use Rattle.buffers.proofs.Ends.{first_small, ended}
use Rattle.hub.proofs.Refusals.{fresh_small}
use Rattle.hub.proofs.petlumas_fresh.Goals as goal

pub finish-requires : goal.finish-requires
finish-requires c =
    let f = c.ranges in
    let e = rw (to_z-of_z f.nondaily, to_z-of_z f.daily, to_z-of_z f.edition, c.table_in-table.ensures.0) at c.fresh-a.ensures in
    (search rules, search rules, search rules, first_small _ _ (c.notice_numbers-numbers.ensures ∙ ap bits_of e.0) (fresh_small _ _))

pub returns : goal.returns
returns c =
    let f = c.ranges in
    let e = rw (to_z-of_z f.nondaily, to_z-of_z f.daily, to_z-of_z f.edition, c.table_in-table.ensures.0) at c.fresh-a.ensures in
    ended _ _ (c.notice_numbers-numbers.ensures ∙ ap bits_of e.0) (fresh_small _ _) _ _ e.1 _ (search rules) _ _ _ _ c.finish.ensures
