use Rattle.std.proofs.Common.{true, false, arith, rules, tests}
use Rattle.std.proofs.lemmas.Iterator.{cases_from_any, YieldsList-from_range}
use Rattle.correction.proofs.Walks.{HasDay, has_found}
use Rattle.correction.proofs.has_days.Goals as goal

pub returns : goal.returns
returns c =
    let n = c.registrations-n in
    let a = c.args in
    let s = a.part.now.is_sound in
    let has = HasDay s a.day n.result n.ensures.0 a.user in
    has_found s a.day n.result n.ensures.0 a.user c.any.result
    (cases_from_any _ _ _ (has true) (has false) c.any.ensures.ran (YieldsList-from_range 0 n.result n.result (cc) (omega arith))
    (λ x q k. search (rules, tests))
    (λ x q k. (search rules, search (rules, tests))))
