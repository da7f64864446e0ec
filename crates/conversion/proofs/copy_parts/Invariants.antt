use mathlib.Core.Path.{◌≡◌}
use Prim.Native.Nat.{◌≤◌}
use Rattle.table.specs.InnerRegisters.{number_of_points}
use Rattle.conversion.specs.InnerConversion.{parts_into}
use Rattle.conversion.proofs.copy_parts.Given as goal

abbrev pub invariant-loop-i : goal.invariant-loop-i
invariant-loop-i l =
    (l.i-end ≡ number_of_points l.register) × (l.i-end ≤ l.to.points) × (l.second ≡ parts_into l.register.edition l.to l.register.table.now l.fn.second l.i)
