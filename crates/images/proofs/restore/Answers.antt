use Rattle.std.proofs.Common.{◌≡◌, ℕ, Bool, List, ◌++◌, take, drop, ℤ, refl, sym, ap, ◌∙◌, take_at, w64, rules}
use mir.ValLaws.{to_z-of_z}
use Rattle.std.proofs.lemmas.Result.{err_from_is_err_and}
use Rattle.daybook.specs.declared.Edition.{Edition}
use Rattle.daybook.specs.States.{first_row}
use Rattle.daybook.specs.Editions.{editions}
use Rattle.layout.specs.Layout.{table_length, edition_of}
use Rattle.layout.specs.Sound.{sound}
use Rattle.layout.proofs.Editions.{both_fit, edition_fits, edition_take}
use Rattle.layout.proofs.Notices.{front_sound}
use Rattle.table.proofs.Registers.{table_passes}
use Rattle.table.proofs.Calls.{gives}
use Rattle.table.proofs.Locating.{not_sound}
use Rattle.images.specs.Blocks.{image_numbers}
use Rattle.images.proofs.Saved.{length_numbers}
use Rattle.images.proofs.Calls.{image_rows, image_enough, restore_short, restore_sent, restore_unsound, restore_entered}
use Rattle.images.proofs.restore.Goals as goal

-- the image's numbers are as sound as those that were taken
held_sound : (image : List ℕ) {u : List ℤ} (v : List ℤ) {ed : Edition} {b : Bool} → u ≡ image_numbers image ++ v → ed ≡ edition_of u → sound ed u ≡ b
    → sound (edition_of (image_numbers image)) (image_numbers image) ≡ b
held_sound image {u} v taken is e =
    sym
    (front_sound (edition_of u) (edition_fits editions both_fit u) u
    ∙ ap (λ ed. sound ed (take table_length u)) (edition_take editions u)
    ∙ ap (λ u. sound (edition_of u) u) (ap (take table_length) taken ∙ take_at (image_numbers image) v table_length (length_numbers image)))
    ∙ ap (λ ed. sound ed u) (sym is) ∙ e

pub returns-then-t-lt-TABLE_LENGTH : goal.returns-then-t-lt-TABLE_LENGTH
returns-then-t-lt-TABLE_LENGTH c = gives (restore_short editions _ _ _ c.if-t-lt-TABLE_LENGTH.true)

pub returns-in_err-image_row : goal.returns-in_err-image_row
returns-in_err-image_row c =
    let a = c.args in
    let p = err_from_is_err_and c.from_residual.result c.from_residual.ensures.1 in
    let row_is = c.in_err-image_row.ensures ∙ ap (λ z. first_row (image_rows z a.image.now)) (to_z-of_z w64 a.state c.ranges.state) in
    rw (p.1, p.2)
    (gives (restore_sent editions a.t.now a.state a.image.now c.if-t-lt-TABLE_LENGTH.false _ row_is))

pub take_blocks-requires : goal.take_blocks-requires
take_blocks-requires c =
    let a = c.args in
    let row_is = c.in_ok-image_row.ensures ∙ ap (λ z. first_row (image_rows z a.image.now)) (to_z-of_z w64 a.state c.ranges.state) in
    (image_enough a.state a.image.now (sym row_is), search rules)

pub returns-in_err-register : goal.returns-in_err-register
returns-in_err-register c =
    let a = c.args in
    let row_is = c.in_ok-image_row.ensures ∙ ap (λ z. first_row (image_rows z a.image.now)) (to_z-of_z w64 a.state c.ranges.state) in
    let p = err_from_is_err_and c.from_residual-in_err-register.result c.from_residual-in_err-register.ensures.1 in
    let w = not_sound _ c.in_err-register.ensures.is in
    rw (p.1, p.2, w.0)
    (gives (restore_unsound editions a.t.now a.state a.image.now c.if-t-lt-TABLE_LENGTH.false (sym row_is) (held_sound _ _ c.take_blocks.ensures refl w.1)))

pub returns : goal.returns
returns c =
    let a = c.args in
    let ed = table_passes c.in_ok-register.register c.in_ok-register.ensures.ok in
    let row_is = c.in_ok-image_row.ensures ∙ ap (λ z. first_row (image_rows z a.image.now)) (to_z-of_z w64 a.state c.ranges.state) in
    let sound_is = held_sound _ _ c.take_blocks.ensures ed.1 ed.2 in
    let held_is = ap (take table_length) (c.in_ok-register.ensures.ok.0 ∙ c.take_blocks.ensures) ∙ take_at (image_numbers a.image.now) _ table_length (length_numbers _) in
    let w = gives (restore_entered editions a.t.now a.state a.image.now c.if-t-lt-TABLE_LENGTH.false (sym row_is) sound_is) in (
      w.0,
      c.copy_first.ensures ∙ ap (λ u. u ++ drop table_length a.t.now) held_is ∙ w.1,
    )
