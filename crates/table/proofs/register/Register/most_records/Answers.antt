use Rattle.std.proofs.Common.{◌≡◌, List, ℕ, ℤ, length, refl, sym, ◌∙◌, ap, ap₂, max, arith}
use Rattle.daybook.specs.Book.{records}
use Rattle.daybook.specs.Editions.{largest, most_records}
use Rattle.lists.specs.Lists.{point_of}
use Rattle.layout.specs.Layout.{num_at, point_from}
use Rattle.point.proofs.Rows.{rows_at}
use Rattle.table.proofs.MostRecords.{most_next, part_records, point_at, points_at}
use Rattle.table.proofs.register.Register.most_records.Goals as goal

-- How many records the point of a part has.
abbrev records_of : List ℤ → ℕ
records_of p = length (records (point_of (point_from p)))

pub loop-i-init : goal.loop-i-init
unfolding rows_at most_records largest
loop-i-init c = refl

pub loop-i-preserved : goal.loop-i-preserved
loop-i-preserved c =
    let r = c.args.self.now in
    let is = c.records.ensures.0 ∙ part_records c.part.ensures.sound ∙ ap records_of c.part.ensures.is in
    c.max-most.ensures ∙ ap₂ max c.loop-i.invariant is ∙ most_next (point_at r.edition r.table.now) c.loop-i.i

pub returns : goal.returns
returns c =
    let r = c.args.self.now in
    let e : c.loop-i.i ≡ num_at r.table.now 0 = omega (arith, c.points-i-end.ensures.0) in
    c.loop-i.invariant ∙ ap (λ n. most_records (rows_at (point_at r.edition r.table.now) 0 n)) e
    ∙ ap most_records (sym (points_at r.edition r.table.now))
