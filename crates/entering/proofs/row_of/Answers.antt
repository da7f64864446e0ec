use Rattle.std.proofs.Common.{arith, rules, tests}
use Rattle.std.proofs.lemmas.Iterator.{first_from_Range}
use Rattle.entering.proofs.StartRows.{Starts, row_found}
use Rattle.entering.proofs.row_of.Goals as goal

pub returns : goal.returns
returns c =
    let a = c.args in
    let ok = a.part.now.is_sound in
    let n = c.records-n in
    rw c.unwrap_or.ensures (row_found ok a.start n.result n.ensures.0 c.find.result
    (first_from_Range _ _ _ _ (Starts ok a.start n.result n.ensures.0) (λ k. Starts ok a.start n.result n.ensures.0 k → ⊥) c.find.ensures.ran
    (λ x q k. grind (arith, tests))
    (λ x q k. (search rules, grind (arith, tests)))))
