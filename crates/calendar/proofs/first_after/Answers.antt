use Rattle.std.proofs.Common.{◌≡◌, rules, tests, true, false}
use Rattle.std.specs.Prelude.{MatchOption, Some, None}
use Rattle.std.proofs.lemmas.Iterator.{first_from_Range}
use Rattle.calendar.specs.Calendar.{business_day}
use Rattle.calendar.proofs.Business.{first_reached}
use Rattle.calendar.proofs.first_after.Goals as goal

pub returns : goal.returns
returns c =
    let p = business_day c.args.hs.now in
    let given : MatchOption c.find.result (c.map.result ≡ None) (λ i. c.map.result ≡ Some (record { 0 = i })) = search rules in
    first_reached p c.args.d.0 c.find.result
    (first_from_Range _ _ _ _ (λ k. p k ≡ true) (λ k. p k ≡ false) c.find.ensures.ran (λ x q k. search (rules, tests)) (λ x q k. search (rules, tests)))
    c.map.result given c.requires
