use mathlib.Core.Path.{◌≡◌}
use Rattle.daybook.specs.Editions.{most_records}
use Rattle.point.proofs.Rows.{rows_at}
use Rattle.table.proofs.MostRecords.{point_at}
use Rattle.table.proofs.register.Register.most_records.Given as goal

abbrev pub invariant-loop-i : goal.invariant-loop-i
invariant-loop-i l = l.most ≡ most_records (rows_at (point_at l.self.edition l.self.table.now) 0 l.i)
