use mathlib.Core.Path.{ap, ap₂, ◌∙◌}
use mathlib.Core.List.{List}
use lib.IntN.{ℤ}
use borrow.Author.Rules.{rules}
use Rattle.daybook.specs.Notices.{Numbers}
use Rattle.daybook.specs.Editions.{editions}
use Rattle.conversion.specs.Conversion.{convert_call}
use Rattle.words.specs.Words.{bits_of}
use Rattle.buffers.proofs.Ends.{first_small, ended}
use Rattle.hub.proofs.Refusals.{convert_small}
use Rattle.hub.proofs.petlumas_convert.Goals as goal

pub finish-requires : goal.finish-requires
finish-requires c =
    let same = ap₂ (convert_call editions) c.table_in-table.ensures.0 c.table_in-second.ensures.0 in
    let numbers = c.notice_numbers-numbers.ensures ∙ ap bits_of (c.convert-a.ensures.0 ∙ ap (λ (w : Numbers × List ℤ). w.0) same) in
    (search rules, search rules, search rules, first_small _ _ numbers (convert_small _ _))

pub returns : goal.returns
returns c =
    let same = ap₂ (convert_call editions) c.table_in-table.ensures.0 c.table_in-second.ensures.0 in
    let numbers = c.notice_numbers-numbers.ensures ∙ ap bits_of (c.convert-a.ensures.0 ∙ ap (λ (w : Numbers × List ℤ). w.0) same) in
    ended _ _ numbers (convert_small _ _) _ _ (c.convert-a.ensures.1 ∙ ap (λ (w : Numbers × List ℤ). w.1) same) _ (search rules) _ _ _ _ c.finish.ensures
