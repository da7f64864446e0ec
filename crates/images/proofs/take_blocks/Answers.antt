use Rattle.std.proofs.Common.{◌≡◌, ap, ◌∙◌, arith}
use Rattle.images.specs.Blocks.{block_count, blocks_into}
use Rattle.images.proofs.Saved.{blocks_whole}
use Rattle.images.proofs.take_blocks.Goals as goal

pub returns : goal.returns
returns c =
    let a = c.args in
    let e : c.loop-k.k ≡ block_count = omega arith in
    c.loop-k.invariant ∙ ap (blocks_into a.t.now a.image.now) e ∙ blocks_whole a.t.now a.image.now c.requires.1
