use Rattle.std.proofs.Common.{rules, ◌+◌, pos}
use Rattle.allocate.specs.InnerParts.{total_to}
use Rattle.allocate.proofs.Arrays.{made_by}
use Rattle.allocate.proofs.totals.Goals as goal

pub returns : goal.returns
returns c =
    made_by _ _ (λ k. pos (total_to c.args.us.now c.args.xs.now (k + 1) 32)) (λ k y q called. search rules) _ 16 (pos 0) c.from_fn.ensures.items
