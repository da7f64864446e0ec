use borrow.Author.Tests.{eq-eqb, ne_eqb}
use Rattle.daybook.specs.Editions.{edition_no}
use Rattle.layout.proofs.Editions.{both_fit}
use Rattle.table.proofs.edition_of.Goals as goal

pub returns-then-number-eq1 : goal.returns-then-number-eq1
unfolding edition_no
returns-then-number-eq1 c = (rw (eq-eqb _ _ c.if-number-eq1.true), both_fit.long)

pub returns : goal.returns
unfolding edition_no
returns c = (rw (ne_eqb _ _ c.if-number-eq1.false), both_fit.standard)
