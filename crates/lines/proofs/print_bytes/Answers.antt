use mathlib.Core.List.{[], ◌∷◌, ◌++◌}
use mir.Facts.{to_z-of_z}
use mir.Syntax.{w64}
use borrow.Author.Rules.{rules}
use Rattle.printing.specs.Rows.{text_of, hex_of}
use Rattle.lines.specs.Lines.{shown}
use Rattle.lines.proofs.Calls.{joined}
use Rattle.lines.proofs.print_bytes.Goals as goal

pub returns-then-f-clause-text : goal.returns-then-f-clause-text
unfolding shown
returns-then-f-clause-text g c =
    let a = c.args in
    let p = rw (to_z-of_z {w = w64} {z = a.res} (search rules)) at c.put.ensures.text in
    let ends = hex_of a.table.now ++ (10 ∷ []) in
    rw c.if-f.true (joined a.out.now (text_of a.res) (hex_of a.answer.now ++ (32 ∷ ends)) 32 p (joined _ (hex_of a.answer.now) ends 32 c.put_bytes.ensures.text c.put_bytes-then-f.ensures.text))

pub returns-else-f-clause-text : goal.returns-else-f-clause-text
unfolding shown
returns-else-f-clause-text g c =
    let a = c.args in
    let p = rw (to_z-of_z {w = w64} {z = a.res} (search rules)) at c.put.ensures.text in
    rw c.if-f.false (joined a.out.now (text_of a.res) (hex_of a.answer.now ++ (10 ∷ [])) 32 p c.put_bytes-else-f.ensures.text)
