use borrow.Author.Rules.{rules}
use Rattle.daybook.specs.FromNumbers.{num}
use Rattle.calls.proofs.Calls.{back}
use Rattle.calls.proofs.notify.Goals as goal

pub returns-in-Fresh : goal.returns-in-Fresh
returns-in-Fresh c =
    let told = c.before in
    let a = told.args.a in
    rw (told.in-Fresh.is, back c.petlumas_fresh.result (search rules)) (rw (back (num a 0) (search rules), back (num a 1) (search rules), back (num a 2) (search rules)) at c.petlumas_fresh.ensures)

pub returns-in-Open : goal.returns-in-Open
returns-in-Open c =
    let told = c.before in
    let a = told.args.a in
    rw (told.in-Open.is, back c.petlumas_open.result (search rules)) (rw (back (num a 0) (search rules), back (num a 1) (search rules), back (num a 2) (search rules), back (num a 3) (search rules), back (num a 4) (search rules), back (num a 5) (search rules), back (num a 6) (search rules)) at c.petlumas_open.ensures)

pub returns-in-Energy : goal.returns-in-Energy
returns-in-Energy c =
    let told = c.before in
    let a = told.args.a in
    rw (told.in-Energy.is, back c.petlumas_energy.result (search rules)) (rw (back (num a 0) (search rules), back (num a 1) (search rules), back (num a 2) (search rules), back (num a 3) (search rules), back (num a 4) (search rules), back (num a 5) (search rules)) at c.petlumas_energy.ensures)

pub returns-in-Status : goal.returns-in-Status
returns-in-Status c =
    let told = c.before in
    let a = told.args.a in
    rw (told.in-Status.is, back c.petlumas_status.result (search rules)) (rw (back (num a 0) (search rules), back (num a 1) (search rules), back (num a 2) (search rules)) at c.petlumas_status.ensures)

pub returns-in-Transfer : goal.returns-in-Transfer
returns-in-Transfer c =
    let told = c.before in
    rw (told.in-Transfer.is, back c.transfer.result (search rules)) c.transfer.ensures
