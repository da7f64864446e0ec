use mir.Facts.{to_z-of_z}
use mir.Syntax.{w64}
use borrow.Author.Rules.{rules}
use Rattle.imagelines.proofs.print_answer.Goals as goal

pub returns-clause-text : goal.returns-clause-text
returns-clause-text g c = rw (to_z-of_z {w = w64} {z = c.word.result} (search rules), c.word.ensures) at c.row.ensures.text
