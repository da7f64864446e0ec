use Rattle.std.proofs.Common.{◌≡◌, rules, tests}
use Rattle.std.specs.Prelude.{MatchOption, Some, None}
use Rattle.calendar.specs.Calendar.{business_day}
use Rattle.calendar.proofs.Business.{last_found, last_reached}
use Rattle.calendar.proofs.last_before.Goals as goal

pub returns : goal.returns
returns c =
    let given : MatchOption c.find.result (c.map.result ≡ None) (λ i. c.map.result ≡ Some (record { 0 = i })) = search rules in
    last_reached _ c.find.result
    (last_found _ (business_day c.args.hs.now) _ (λ x b q k. search (rules, tests)) _ _ _ _ c.rev.ensures.source c.find.ensures.ran)
    c.map.result given
