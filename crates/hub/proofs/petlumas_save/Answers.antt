-- The state number is read back from its bits.
use mathlib.Core.Path.{ap, ◌∙◌}
use mathlib.Core.List.{List, ◌++◌}
use Prim.Native.Nat.{ℕ}
use lib.IntN.{ℤ}
use lib.ListN.{take, drop}
use mir.Facts.{to_z-of_z}
use mir.Syntax.{w64}
use mir.Val.{to_z, of_z}
use borrow.Author.Rules.{rules}
use Rattle.daybook.specs.Notices.{Numbers}
use Rattle.daybook.specs.Editions.{editions}
use Rattle.images.specs.Images.{save_call}
use Rattle.images.proofs.Calls.{save_kept, save_length}
use Rattle.words.specs.Words.{bits_of}
use Rattle.buffers.specs.Buffers.{table_in, replied, image_in}
use Rattle.buffers.proofs.Ends.{first_small, ended_reply}
use Rattle.buffers.proofs.Images.{image_lent, image_left}
use Rattle.hub.proofs.Refusals.{save_small}
use Rattle.hub.proofs.petlumas_save.Goals as goal

pub reply-requires : goal.reply-requires
reply-requires c =
    let a = c.args in
    let lent : List ℕ = take c.image_room-n.result a.image.now in
    let same =
    ap (λ (u : List ℤ). save_call editions u (to_z w64 (of_z w64 a.state)) lent) c.table_in-table.ensures.0
    ∙ ap (λ (n : ℤ). save_call editions (table_in a.register.now) n lent) (to_z-of_z c.ranges.state)
    ∙ ap (save_call editions (table_in a.register.now) a.state) (image_lent a.image.now a.answer.now _ c.image_room-n.ensures.0) in
    let numbers = c.notice_numbers-numbers.ensures ∙ ap bits_of (c.save-a.ensures.0 ∙ ap (λ (w : Numbers × List ℕ). w.0) same) in
    (search rules, search rules, first_small _ _ numbers (save_small _ _ _))

pub returns : goal.returns
returns c =
    let a = c.args in
    let lent : List ℕ = take c.image_room-n.result a.image.now in
    let same =
    ap (λ (u : List ℤ). save_call editions u (to_z w64 (of_z w64 a.state)) lent) c.table_in-table.ensures.0
    ∙ ap (λ (n : ℤ). save_call editions (table_in a.register.now) n lent) (to_z-of_z c.ranges.state)
    ∙ ap (save_call editions (table_in a.register.now) a.state) (image_lent a.image.now a.answer.now _ c.image_room-n.ensures.0) in
    let numbers = c.notice_numbers-numbers.ensures ∙ ap bits_of (c.save-a.ensures.0 ∙ ap (λ (w : Numbers × List ℕ). w.0) same) in
    let n = c.image_room-n.result in
    let w : Numbers × List ℕ = save_call editions (table_in a.register.now) a.state (image_in a.image.now a.answer.now) in
    let replies = ended_reply _ w.0 numbers (save_small _ _ _) _ (search rules) _ c.integer.ensures _ _ c.reply.ensures.0 in
    let left = ap (λ b. b ++ drop n a.image.now) (c.save-a.ensures.1 ∙ ap (λ (w : Numbers × List ℕ). w.1) same)
    ∙ image_left (save_call editions (table_in a.register.now) a.state) (save_kept _ _ _) (save_length _ _ _) a.image.now a.answer.now n c.image_room-n.ensures.0 in
    ap (λ (p : ℤ × List ℕ). (p.0, (c.save-a.new.image ++ drop n a.image.now, p.1))) replies
    ∙ ap (λ (i : List ℕ). ((replied w.0 a.answer.now).0, (i, (replied w.0 a.answer.now).1))) left
