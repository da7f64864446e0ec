-- convert on two lent tables.
use Rattle.std.specs.Prelude.{not, List, [], ◌∷◌, ℤ, length}
use Rattle.daybook.specs.declared.Edition.{Edition}
use Rattle.daybook.specs.Book.{Book}
use Rattle.daybook.specs.Notices.{least, Numbers, decide}
use Rattle.daybook.specs.Editions.{Editions, other_than, convert_rows}
use Rattle.layout.specs.Layout.{edition_in, table_book, with_new_book}
use Rattle.layout.specs.Sound.{sound}

-- The answer, and the second table after it: the register of the table t in the other edition, where the two are E. The
-- first table is only read.
unfoldable pub convert_call : Editions → List ℤ → List ℤ → Numbers × List ℤ
convert_call E t second =
    let ed : Edition = edition_in E t in
    let to : Edition = other_than E ed in
    let B : Book = table_book ed t in
    decide (least ((1, not (sound ed t)) ∷ convert_rows to (length second) B)) 0 second ([], with_new_book to second B)
