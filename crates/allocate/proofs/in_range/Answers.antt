use mir.Syntax.{w64}
use mir.ValLaws.{to_z-of_z}
use borrow.Author.Rules.{rules}
use Rattle.allocate.proofs.Loads.{window}
use Rattle.allocate.proofs.in_range.Goals as goal

pub returns : goal.returns
returns c =
    let n = c.args.n in
    rw (
      c.is_day.ensures,
      c.is_day-2.ensures,
      c.is_day-3.ensures,
      c.natural-a.ensures.0,
      c.natural-b.ensures.0,
      c.is_quantity.ensures,
      c.load_ok.ensures,
      c.load_ok-2.ensures,
      to_z-of_z w64 n.gasday (search rules),
      to_z-of_z w64 n.from (search rules),
      to_z-of_z w64 n.to (search rules),
      to_z-of_z w64 n.tdq (search rules),
      to_z-of_z w64 n.uag (search rules),
      to_z-of_z w64 n.clp (search rules),
      window n.gasday n.from n.to,
    )
