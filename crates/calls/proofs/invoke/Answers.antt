use borrow.Author.Rules.{rules}
use Rattle.calls.proofs.Calls.{back, notice_left, query_left}
use Rattle.calls.proofs.invoke.Goals as goal

pub returns-in-Notice : goal.returns-in-Notice
returns-in-Notice c =
    let told = c.before in
    let given = told.first_seven-a in
    let a = told.args in
    rw (back c.notify.result (search rules)) (notice_left a.nums.now _ a.list.now a.register.now a.answer.now a.table.now given.ensures told.in-Notice.is c.notify.ensures)

pub returns-in-Query : goal.returns-in-Query
returns-in-Query c =
    let told = c.before in
    let given = told.first_seven-a in
    let a = told.args in
    rw (back c.ask.result (search rules)) (query_left a.nums.now _ a.list.now a.register.now a.answer.now a.table.now given.ensures told.in-Query.is c.ask.ensures)
