-- Each number of the notice is read back from its bits.
use mathlib.Core.Path.{ap, ◌∙◌}
use mir.Facts.{to_z-of_z}
use borrow.Author.Rules.{rules}
use Rattle.words.specs.Words.{bits_of}
use Rattle.buffers.proofs.Ends.{first_small, ended}
use Rattle.hub.proofs.Refusals.{request_small}
use Rattle.hub.proofs.Holidays.{first_513}
use Rattle.hub.proofs.petlumas_request.Goals as goal

pub finish-requires : goal.finish-requires
finish-requires c =
    let f = c.ranges in
    let e = rw (to_z-of_z f.mirn, to_z-of_z f.user, to_z-of_z f.proposed, to_z-of_z f.nochange, c.table_in-table.ensures.0, c.list_in-days.ensures, first_513) at c.request-a.ensures in
    (search rules, search rules, search rules, first_small _ _ (c.request_numbers-numbers.ensures ∙ ap bits_of e.0) (request_small _ _ _))

pub returns : goal.returns
returns c =
    let f = c.ranges in
    let e = rw (to_z-of_z f.mirn, to_z-of_z f.user, to_z-of_z f.proposed, to_z-of_z f.nochange, c.table_in-table.ensures.0, c.list_in-days.ensures, first_513) at c.request-a.ensures in
    ended _ _ (c.request_numbers-numbers.ensures ∙ ap bits_of e.0) (request_small _ _ _) _ _ e.1 _ (search rules) _ _ _ _ c.finish.ensures
