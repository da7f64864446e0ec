use Rattle.std.proofs.Common.{◌&&◌, leb, length, sym, ap, ap₂, ◌∙◌, leb-true}
use Rattle.std.proofs.lemmas.Result.{err_from_is_err_and}
use Rattle.numbers.proofs.Bools.{both}
use Rattle.numbers.proofs.Naturals.{test_read, natural_read}
use Rattle.daybook.specs.States.{is_state, image_length}
use Rattle.daybook.specs.Editions.{editions}
use Rattle.layout.specs.Sound.{sound}
use Rattle.table.proofs.Registers.{register_long, table_passes}
use Rattle.table.proofs.Calls.{gives}
use Rattle.table.proofs.Locating.{not_sound}
use Rattle.images.specs.Blocks.{with_image}
use Rattle.images.proofs.Calls.{save_unsound, save_out, save_entered}
use Rattle.images.proofs.save.Goals as goal

pub returns-in_err-register : goal.returns-in_err-register
returns-in_err-register c =
    let p = err_from_is_err_and c.from_residual.result c.from_residual.ensures.1 in
    let w = not_sound _ c.in_err-register.ensures.is in
    rw (p.1, p.2, w.0) (gives (save_unsound editions _ _ _ w.1))

pub returns-then-not-in_range : goal.returns-then-not-in_range
returns-then-not-in_range c =
    let a = c.args in
    let ed = table_passes c.in_ok-register.register c.in_ok-register.ensures.ok in
    let asked_is = c.in_range.ensures ∙ test_read a.state c.ranges.state (λ z. is_state z && leb image_length (length a.image.now)) in
    gives (save_out editions _ _ _ (ap (λ ed. sound ed a.t.now) (sym ed.1) ∙ ed.2) (sym asked_is ∙ c.if-not-in_range.true))

pub put_blocks-requires : goal.put_blocks-requires
put_blocks-requires c =
    let a = c.args in
    let asked_is = c.in_range.ensures ∙ test_read a.state c.ranges.state (λ z. is_state z && leb image_length (length a.image.now)) in (
      register_long c.in_ok-register.register,
      leb-true image_length (length a.image.now) (both (is_state a.state) (leb image_length (length a.image.now)) (sym asked_is ∙ c.if-not-in_range.false)).1,
    )

pub returns : goal.returns
returns c =
    let a = c.args in
    let ed = table_passes c.in_ok-register.register c.in_ok-register.ensures.ok in
    let asked_is = c.in_range.ensures ∙ test_read a.state c.ranges.state (λ z. is_state z && leb image_length (length a.image.now)) in
    let w = gives (save_entered editions a.t.now a.state a.image.now (ap (λ ed. sound ed a.t.now) (sym ed.1) ∙ ed.2) (sym asked_is ∙ c.if-not-in_range.false)) in (
      w.0,
      c.put_blocks.ensures ∙ ap₂ (λ n t. with_image n t a.image.now) (c.natural.ensures.0 ∙ natural_read a.state c.ranges.state) c.in_ok-register.ensures.ok.0 ∙ w.1,
    )
