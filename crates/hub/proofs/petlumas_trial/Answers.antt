-- The count is read back from its bits.
use mathlib.Core.Path.{ap, ap₂, ◌∙◌}
use mathlib.Core.List.{List}
use Prim.Native.Nat.{◌*◌, ◌/◌}
use native.Mathlib.Omega.{arith}
use lib.IntN.{ℤ}
use lib.ListN.{length, take}
use mir.Facts.{to_z-of_z}
use borrow.Author.Rules.{rules}
use Rattle.numbers.specs.Naturals.{nat_of}
use Rattle.daybook.specs.Notices.{Numbers}
use Rattle.layout.specs.Calls.{placed}
use Rattle.words.specs.Words.{bits_of}
use Rattle.buffers.specs.Buffers.{table_in}
use Rattle.buffers.proofs.Ends.{first_small, ended}
use Rattle.hub.proofs.Refusals.{trial_small}
use Rattle.hub.proofs.Shares.{written_where}
use Rattle.hub.proofs.Batches.{as_lent, first_given}
use Rattle.hub.proofs.petlumas_trial.Goals as goal

pub finish-requires : goal.finish-requires
finish-requires c =
    let a = c.args in
    let count = to_z-of_z c.ranges.count in
    let is = as_lent (table_in a.register.now) a.count a.notices.now (length a.answers.now / 8) c.table_in-table.ensures.0 count c.list_in-list.ensures c.room_in-room.ensures.0 in
    let numbers = c.trial_numbers-numbers.ensures ∙ ap bits_of (c.trial-a.ensures.0 ∙ ap (λ (w : Numbers × List ℤ). w.0) is) in
    (omega (arith, c.answers_in-given.ensures.1, c.room_in-room.ensures.1, c.trial-a.auto), search rules, search rules, first_small _ _ numbers (trial_small _ _ _ _))

pub returns : goal.returns
returns c =
    let a = c.args in
    let count = to_z-of_z c.ranges.count in
    let is = as_lent (table_in a.register.now) a.count a.notices.now (length a.answers.now / 8) c.table_in-table.ensures.0 count c.list_in-list.ensures c.room_in-room.ensures.0 in
    let numbers = c.trial_numbers-numbers.ensures ∙ ap bits_of (c.trial-a.ensures.0 ∙ ap (λ (w : Numbers × List ℤ). w.0) is) in
    let out = c.room_in-room.result.now in
    let given = c.answers_in-given.ensures.0 ∙ ap₂ (λ (z : ℤ) (l : List ℤ). take (5 * nat_of z) l) count (c.trial-a.ensures.1 ∙ ap (λ (w : Numbers × List ℤ). placed w.1 out) is) in
    ended _ _ numbers (trial_small _ _ _ _) _ _ given _ (search rules) _ _ _ _ c.finish.ensures
    ∙ written_where _ _ _ a.answers.now a.answer.now (first_given (table_in a.register.now) a.count a.notices.now (length a.answers.now / 8) out)
