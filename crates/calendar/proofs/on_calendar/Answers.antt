use Rattle.std.proofs.Common.{◌≡◌, ◌&&◌, ◌∙◌, ap, ap₂, arith, leb}
use Rattle.std.proofs.lemmas.Grind.{common_steps}
use Rattle.calendar.proofs.on_calendar.Goals as goal

pub returns : goal.returns
returns c =
    let d = c.args.day in
    let last = c.month_length-last in
    let year : c.contains.result ≡ (leb 1970 c.args.year && leb c.args.year 2079) = grind (arith, common_steps) in
    let month : c.contains-2.result ≡ (leb 1 c.args.month && leb c.args.month 12) = grind (arith, common_steps) in
    let day : c.contains-3.result ≡ (leb 1 d && leb d last.result) = grind (arith, common_steps) in
    ap₂ ◌&&◌ (ap₂ ◌&&◌ year month) (day ∙ ap (λ l. leb 1 d && leb d l) last.ensures)
