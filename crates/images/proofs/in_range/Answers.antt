use Rattle.std.proofs.Common.{◌&&◌, leb, length, ap, ◌∙◌}
use Rattle.numbers.proofs.Naturals.{test_read}
use Rattle.daybook.specs.States.{is_state, image_length}
use Rattle.images.proofs.in_range.Goals as goal

pub returns : goal.returns
returns c =
    ap (λ b. b && leb image_length (length c.args.image.now)) (c.is_state.ensures ∙ test_read c.args.state c.ranges.state is_state)
