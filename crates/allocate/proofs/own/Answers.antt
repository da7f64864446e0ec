use borrow.Author.Tests.{eq-eqb, ne_eqb}
use Rattle.allocate.proofs.own.Goals as goal

pub returns-then-fro-user : goal.returns-then-fro-user
returns-then-fro-user c = rw (eq-eqb c.args.fro c.args.user c.if-fro-user.true)

pub returns : goal.returns
returns c = rw (ne_eqb c.args.fro c.args.user c.if-fro-user.false)
