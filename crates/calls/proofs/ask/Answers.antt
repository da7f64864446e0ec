use borrow.Author.Rules.{rules}
use Rattle.daybook.specs.FromNumbers.{num}
use Rattle.calls.proofs.Calls.{back, table_kept}
use Rattle.calls.proofs.ask.Goals as goal

pub returns-in-Account : goal.returns-in-Account
returns-in-Account c =
    let told = c.before in
    let a = told.args.a in
    rw (told.in-Account.is, back c.petlumas_account.result (search rules)) (table_kept _ _ _ _ _ (rw (back (num a 0) (search rules), back (num a 1) (search rules), back (num a 2) (search rules)) at c.petlumas_account.ensures))

pub returns-in-Allocate : goal.returns-in-Allocate
returns-in-Allocate c =
    let told = c.before in
    let a = told.args.a in
    rw (told.in-Allocate.is, back c.petlumas_allocate.result (search rules)) (rw (back (num a 0) (search rules), back (num a 1) (search rules), back (num a 2) (search rules), back (num a 3) (search rules), back (num a 4) (search rules), back (num a 5) (search rules)) at c.petlumas_allocate.ensures)

pub returns-in-Date : goal.returns-in-Date
returns-in-Date c =
    let told = c.before in
    let a = told.args.a in
    rw (told.in-Date.is, back c.petlumas_date.result (search rules)) (table_kept _ _ _ _ _ (rw (back (num a 0) (search rules), back (num a 1) (search rules), back (num a 2) (search rules)) at c.petlumas_date.ensures))
