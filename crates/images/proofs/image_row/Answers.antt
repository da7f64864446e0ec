use Rattle.std.proofs.Common.{◌&&◌, leb, length, sym, ap, ◌∙◌}
use Rattle.numbers.proofs.Naturals.{test_read, natural_read}
use Rattle.daybook.specs.States.{is_state, image_length}
use Rattle.images.specs.Blocks.{of_state}
use Rattle.images.proofs.Calls.{image_out, image_broken, image_other, image_clear}
use Rattle.images.proofs.image_row.Goals as goal

pub returns-then-not-in_range : goal.returns-then-not-in_range
returns-then-not-in_range c =
    let a = c.args in
    let asked_is = c.in_range.ensures ∙ test_read a.state c.ranges.state (λ z. is_state z && leb image_length (length a.image.now)) in
    sym (image_out a.state a.image.now (sym asked_is ∙ c.if-not-in_range.true))

pub returns-then-not-whole : goal.returns-then-not-whole
returns-then-not-whole c =
    let a = c.args in
    let asked_is = c.in_range.ensures ∙ test_read a.state c.ranges.state (λ z. is_state z && leb image_length (length a.image.now)) in
    sym (image_broken a.state a.image.now (sym asked_is ∙ c.if-not-in_range.false) (sym c.intact-whole.ensures ∙ c.if-not-whole.true))

pub returns-then-not-named : goal.returns-then-not-named
returns-then-not-named c =
    let a = c.args in
    let asked_is = c.in_range.ensures ∙ test_read a.state c.ranges.state (λ z. is_state z && leb image_length (length a.image.now)) in
    let named_is = c.of_state-named.ensures ∙ ap (λ n. of_state n a.image.now) (c.natural.ensures.0 ∙ natural_read a.state c.ranges.state) in
    sym
    (image_other a.state a.image.now (sym asked_is ∙ c.if-not-in_range.false) (sym c.intact-whole.ensures ∙ c.if-not-whole.false) (sym named_is ∙ c.if-not-named.true))

pub returns : goal.returns
returns c =
    let a = c.args in
    let asked_is = c.in_range.ensures ∙ test_read a.state c.ranges.state (λ z. is_state z && leb image_length (length a.image.now)) in
    let named_is = c.of_state-named.ensures ∙ ap (λ n. of_state n a.image.now) (c.natural.ensures.0 ∙ natural_read a.state c.ranges.state) in
    sym
    (image_clear a.state a.image.now (sym asked_is ∙ c.if-not-in_range.false) (sym c.intact-whole.ensures ∙ c.if-not-whole.false) (sym named_is ∙ c.if-not-named.false))
