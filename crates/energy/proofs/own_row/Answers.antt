use Rattle.std.proofs.Common.{sym, ◌∙◌, rules}
use Rattle.energy.proofs.Call.{range_read, energy_passed, energy_range}
use Rattle.energy.proofs.own_row.Goals as goal

pub returns-then-is_mirn-is_day : goal.returns-then-is_mirn-is_day
returns-then-is_mirn-is_day c =
    let tested =
    range_read c.args.n c.is_mirn.result c.is_day.result c.is_day-2.result c.contains.result c.contains-2.result c.is_flag.result (search rules) (search rules) (search rules) (search rules) (search rules) (search rules) in
    energy_passed _ (sym tested ∙ c.if-is_mirn-is_day.true)

pub returns : goal.returns
returns c =
    let tested =
    range_read c.args.n c.is_mirn.result c.is_day.result c.is_day-2.result c.contains.result c.contains-2.result c.is_flag.result (search rules) (search rules) (search rules) (search rules) (search rules) (search rules) in
    energy_range _ (sym tested ∙ c.if-is_mirn-is_day.false)
