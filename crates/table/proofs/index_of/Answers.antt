use Rattle.std.proofs.Common.{◌≡◌, rules, tests, true, false}
use Rattle.std.proofs.lemmas.Iterator.{first_from_Range}
use Rattle.table.proofs.Laws.{mirn_at, index_found}
use Rattle.table.proofs.index_of.Goals as goal

pub returns-clause-is : goal.returns-clause-is
returns-clause-is c =
    let p = mirn_at c.args.ed c.args.t.now c.args.m in
    index_found c.args.ed c.args.t.now c.args.m _ c.points-used.ensures.0 c.find.result
    (first_from_Range _ _ _ _ (λ k. p k ≡ true) (λ k. p k ≡ false) c.find.ensures.ran (λ x q k. search (rules, tests)) (λ x q k. search (rules, tests)))
