-- Each number of the query is read back from its bits.
use mathlib.Core.Path.{ap, ◌∙◌}
use mir.Facts.{to_z-of_z}
use borrow.Author.Rules.{rules}
use Rattle.words.specs.Words.{bits_of}
use Rattle.buffers.proofs.Ends.{first_small, ended_reply}
use Rattle.hub.proofs.Refusals.{date_small}
use Rattle.hub.proofs.petlumas_date.Goals as goal

pub reply-requires : goal.reply-requires
reply-requires c =
    let f = c.ranges in
    let numbers = c.date_numbers-numbers.ensures ∙ ap bits_of (rw (to_z-of_z f.year, to_z-of_z f.month, to_z-of_z f.day) at c.date-a.ensures) in
    (search rules, search rules, first_small _ _ numbers (date_small _ _ _))

pub returns : goal.returns
returns c =
    let f = c.ranges in
    let numbers = c.date_numbers-numbers.ensures ∙ ap bits_of (rw (to_z-of_z f.year, to_z-of_z f.month, to_z-of_z f.day) at c.date-a.ensures) in
    ended_reply _ _ numbers (date_small _ _ _) _ (search rules) _ c.integer.ensures _ _ c.reply.ensures.0
