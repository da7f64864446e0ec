-- Each number of the query is read back from its bits.
use mathlib.Core.Path.{ap, ◌∙◌}
use Prim.Native.Nat.{◌/◌}
use lib.ListN.{length}
use mir.Facts.{to_z-of_z}
use borrow.Author.Rules.{rules}
use Rattle.words.specs.Words.{bits_of}
use Rattle.buffers.specs.Buffers.{table_in}
use Rattle.buffers.proofs.Ends.{first_small, ended}
use Rattle.hub.proofs.Refusals.{allocate_small}
use Rattle.hub.proofs.Shares.{call_cut, placed_all, written_where}
use Rattle.hub.proofs.petlumas_allocate.Goals as goal

pub finish-requires : goal.finish-requires
finish-requires c =
    let f = c.ranges in
    let e = rw (to_z-of_z f.gasday, to_z-of_z f.from, to_z-of_z f.to, to_z-of_z f.tdq, to_z-of_z f.uag, to_z-of_z f.clp, c.table_in-table.ensures.0, c.room_in-room.ensures.0, call_cut) at c.allocate-a.ensures in
    (search rules, search rules, search rules, first_small _ _ (c.allocation_numbers-numbers.ensures ∙ ap bits_of e.0) (allocate_small _ _ _))

pub returns : goal.returns
returns c =
    let a = c.args in
    let room = c.room_in-room in
    let f = c.ranges in
    let e = rw (to_z-of_z f.gasday, to_z-of_z f.from, to_z-of_z f.to, to_z-of_z f.tdq, to_z-of_z f.uag, to_z-of_z f.clp, c.table_in-table.ensures.0, c.room_in-room.ensures.0, call_cut) at c.allocate-a.ensures in
    ended _ _ (c.allocation_numbers-numbers.ensures ∙ ap bits_of e.0) (allocate_small _ _ _) _ _ e.1 _ (search rules) _ _ _ _ c.finish.ensures
    ∙ written_where _ _ _ a.shares.now a.answer.now (placed_all (table_in a.register.now) _ (length a.shares.now / 8) room.result.now room.ensures.0)
