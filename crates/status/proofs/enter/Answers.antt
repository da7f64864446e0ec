use Rattle.std.proofs.lemmas.Result.{err_from_is_err_and}
use Rattle.status.proofs.Call.{part_back, part_done}
use Rattle.status.proofs.enter.Goals as goal

pub returns-in_err-refusal : goal.returns-in_err-refusal
returns-in_err-refusal c =
    let p = err_from_is_err_and c.from_residual.result c.from_residual.ensures.1 in
    rw (p.1, p.2) (part_back _ _ _ _ c.in_err-refusal.ensures)

pub returns : goal.returns
returns c = part_done _ _ _ _ c.in_ok-refusal.ensures c.switch.ensures
