use Rattle.std.proofs.Common.{arith, rules, tests}
use Rattle.std.proofs.lemmas.Iterator.{first_from_Range}
use Rattle.correction.proofs.Walks.{StartsBy, started_found}
use Rattle.correction.proofs.started.Goals as goal

pub returns : goal.returns
returns c =
    let n = c.registrations-n in
    let s = c.args.part.now.is_sound in
    let day = c.args.day in
    rw c.unwrap_or.ensures (started_found s day n.result n.ensures.0 c.find.result
    (first_from_Range _ _ _ _ (StartsBy s day n.result n.ensures.0) (λ k. StartsBy s day n.result n.ensures.0 k → ⊥) c.find.ensures.ran
    (λ x q k. grind (arith, tests))
    (λ x q k. (search rules, grind (arith, tests)))))
