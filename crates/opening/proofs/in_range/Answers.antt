use Rattle.std.proofs.Common.{rules, w64}
use mir.ValLaws.{to_z-of_z}
use Rattle.opening.proofs.in_range.Goals as goal

pub returns : goal.returns
returns c =
    let n = c.args.n in
    rw (
      c.is_mirn.ensures,
      c.is_flag.ensures,
      c.is_user.ensures,
      c.is_day.ensures,
      c.is_base.ensures,
      c.is_section.ensures,
      c.is_operator.ensures,
      to_z-of_z w64 n.mirn (search rules),
      to_z-of_z w64 n.kind (search rules),
      to_z-of_z w64 n.user (search rules),
      to_z-of_z w64 n.install (search rules),
      to_z-of_z w64 n.base (search rules),
      to_z-of_z w64 n.section (search rules),
      to_z-of_z w64 n.operator (search rules),
    )
