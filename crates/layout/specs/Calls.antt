-- What a call does to a lent table, and what a query answers of it.
use Rattle.std.specs.Prelude.{cond, List, ◌∷◌, ◌++◌, ℕ, ℤ, pos, length, drop, replicate}
use Rattle.numbers.specs.Answers.{refused}
use Rattle.daybook.specs.declared.Edition.{Edition}
use Rattle.daybook.specs.Book.{Book}
use Rattle.daybook.specs.Notices.{Numbers}
use Rattle.daybook.specs.Editions.{Editions}
use Rattle.layout.specs.Layout.{edition_in, table_book, with_book}
use Rattle.layout.specs.Sound.{sound}

-- ---- on a table of an edition

-- The answer, and the table with the book after the call written over its register; a refusal leaves the table as found.
abbrev pub answer_and_table : Edition → List ℤ → Numbers × Book → Numbers × List ℤ
answer_and_table ed t w = let after : List ℤ = with_book ed t w.1 in (w.0, cond (refused w.0) t after)

-- A call with k fields gets 1 where the table is short or unsound; else it is the book's step on the table's book.
unfoldable pub on_edition : ℕ → (Book → Numbers × Book) → Edition → List ℤ → Numbers × List ℤ
on_edition k step ed t =
    let taken : Numbers × List ℤ = answer_and_table ed t (step (table_book ed t)) in
    cond (sound ed t) taken (pos 1 ∷ replicate k (pos 0), t)

-- A query is refused where the table is short or unsound; else the table's book answers it.
unfoldable pub of_edition : {A : Type 0} → A → (Book → A) → Edition → List ℤ → A
of_edition {A} refusal query ed t = let given : A = query (table_book ed t) in cond (sound ed t) given refusal

-- ---- on a table, in the one of two editions that its header names

-- The step goes by the edition too: how many points and records there is room for.
abbrev pub on_table : Editions → ℕ → (Edition → Book → Numbers × Book) → List ℤ → Numbers × List ℤ
on_table E k step t = on_edition k (step (edition_in E t)) (edition_in E t) t

abbrev pub of_table : {A : Type 0} → Editions → A → (Edition → Book → A) → List ℤ → A
of_table E refusal query t = of_edition refusal (query (edition_in E t)) (edition_in E t) t

-- ---- on an answer table that is lent beside it

-- The answer table with these numbers in its first places; all others are as they were.
unfoldable pub placed : List ℤ → List ℤ → List ℤ
placed xs out = xs ++ drop (length xs) out
