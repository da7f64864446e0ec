-- fresh and open on a lent table.
use Rattle.std.specs.Prelude.{List, [], ◌∷◌, ltb, ℤ, length}
use Rattle.numbers.specs.Naturals.{nat_of}
use Rattle.daybook.specs.declared.NewRegister.{NewRegister}
use Rattle.daybook.specs.declared.Opening.{Opening}
use Rattle.daybook.specs.Notices.{least, Numbers, decide, fresh_rows, fresh_book, opening}
use Rattle.daybook.specs.Editions.{table_length, Editions, edition_no}
use Rattle.layout.specs.Layout.{with_new_book}
use Rattle.layout.specs.Calls.{on_table}

-- fresh makes a register of any table that is long enough, sound or not: only a short one gets 1.
unfoldable pub fresh_call : Editions → List ℤ → NewRegister → Numbers × List ℤ
fresh_call E t n =
    decide (least ((1, ltb (length t) table_length) ∷ fresh_rows n)) 0 t
    ([], with_new_book (edition_no E (nat_of n.edition)) t (fresh_book n))

unfoldable pub open_call : Editions → List ℤ → Opening → Numbers × List ℤ
open_call E t n = on_table E 0 (λ ed. opening ed n) t
