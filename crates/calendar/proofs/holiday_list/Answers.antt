use Rattle.std.proofs.Common.{◌&&◌, ◌∙◌, ap₂, refl, rules, tests}
use Rattle.std.proofs.lemmas.Iterator.{YieldsList-from_slice}
use Rattle.std.proofs.lemmas.Iterator.Search.{all_from_yields_List}
use Rattle.std.proofs.lemmas.List.Sorted.{answers_always}
use Rattle.std.specs.Int.Signed.{lt_z}
use Rattle.calendar.specs.Calendar.{is_day, holiday_list}
use Rattle.calendar.proofs.Business.{all_rows, ascending_rows}
use Rattle.calendar.proofs.holiday_list.Goals as goal

pub returns : goal.returns
unfolding holiday_list
returns c =
    let hs = c.args.hs.now in
    let days =
    all_from_yields_List is_day _ _ c.all.result c.all.ensures.ran (YieldsList-from_slice hs cc) (λ x b q k. search (rules, tests))
    ∙ all_rows is_day hs
    in
    let sorted = ascending_rows hs _ (c.is_sorted_by.ensures.cases lt_z (answers_always _ _ _ (λ f a r q k. search (rules, tests)))) in
    ap₂ ◌&&◌ (ap₂ ◌&&◌ refl days) sorted
