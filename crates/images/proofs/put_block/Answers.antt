use Rattle.images.proofs.Blocks.{block_put}
use Rattle.images.proofs.put_block.Goals as goal

pub returns : goal.returns
returns c =
    block_put _ _ _ _ _ _ _ _ _ c.encode.ensures c.put_number.ensures c.put_number-2.ensures c.check-sum.ensures c.put_number-3.ensures
