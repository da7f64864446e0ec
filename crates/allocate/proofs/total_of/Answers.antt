use Rattle.std.proofs.Common.{rules}
use mathlib.Core.Path.{◌≡◌, ap, sym, ◌∙◌}
use native.Mathlib.Omega.{arith}
use lib.Dec.{eqb}
use lib.IntN.{pos}
use lib.ListN.{get_or}
use Rattle.numbers.proofs.Bools.{cond_small}
use Rattle.numbers.proofs.Integers.{pos_same}
use Rattle.layout.specs.Layout.{num_at}
use Rattle.readings.proofs.Chains.{unraised, chain_sum, chain_fits}
use Rattle.allocate.proofs.UserTotals.{share_to, shares_sum}
use Rattle.allocate.proofs.total_of.Goals as goal

pub sum-requires-clause-fits : goal.sum-requires-clause-fits
sum-requires-clause-fits c =
    chain_fits _ _ 32 (λ k. pos (share_to c.args.us.now c.args.xs.now c.args.u k)) 0 3032000000
    (λ k r q l h.
    let is : r ≡ share_to c.args.us.now c.args.xs.now c.args.u k = search rules in
    let few = cond_small (eqb (get_or c.args.us.now k 0) c.args.u) (num_at c.args.xs.now k) 0 3032000000 (c.requires.2 k l) (omega arith) in
    (search rules, unraised r 0 (omega arith) ∙ ap pos is, omega (arith, is, few)))
    _ c.map.ensures.closure c.map.ensures.source (omega arith)

pub returns : goal.returns
returns c =
    let sum = chain_sum _ _ 32 (λ k. pos (share_to c.args.us.now c.args.xs.now c.args.u k)) 0 3032000000
    (λ k r q l h.
    let is : r ≡ share_to c.args.us.now c.args.xs.now c.args.u k = search rules in
    let few = cond_small (eqb (get_or c.args.us.now k 0) c.args.u) (num_at c.args.xs.now k) 0 3032000000 (c.requires.2 k l) (omega arith) in
    (search rules, unraised r 0 (omega arith) ∙ ap pos is, omega (arith, is, few)))
    _ c.map.ensures.closure c.map.ensures.source _ c.sum.ensures.ran in
    (pos_same (sym (unraised _ _ (omega arith)) ∙ sum.0 ∙ shares_sum c.args.us.now c.args.xs.now c.args.u 32), omega (arith, sum.1))
