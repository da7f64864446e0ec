use borrow.Author.Rules.{rules}
use Rattle.daybook.specs.FromNumbers.{num}
use Rattle.calls.proofs.Calls.{back}
use Rattle.calls.proofs.transfer.Goals as goal

pub returns-in-Request : goal.returns-in-Request
returns-in-Request c =
    let told = c.before in
    let a = told.args.a in
    rw (told.in-Request.is, back c.petlumas_request.result (search rules)) (rw (back (num a 0) (search rules), back (num a 1) (search rules), back (num a 2) (search rules), back (num a 3) (search rules)) at c.petlumas_request.ensures)

pub returns-in-Withdraw : goal.returns-in-Withdraw
returns-in-Withdraw c =
    let told = c.before in
    let a = told.args.a in
    rw (told.in-Withdraw.is, back c.petlumas_withdraw.result (search rules)) (rw (back (num a 0) (search rules), back (num a 1) (search rules)) at c.petlumas_withdraw.ensures)

pub returns-in-Correct : goal.returns-in-Correct
returns-in-Correct c =
    let told = c.before in
    let a = told.args.a in
    rw (told.in-Correct.is, back c.petlumas_correct.result (search rules)) (rw (back (num a 0) (search rules), back (num a 1) (search rules), back (num a 2) (search rules), back (num a 3) (search rules)) at c.petlumas_correct.ensures)
