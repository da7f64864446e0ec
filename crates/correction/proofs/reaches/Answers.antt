use mathlib.Core.Path.{sym, ap, ◌∙◌}
use native.Mathlib.Omega.{arith}
use Prim.Native.Nat.{◌+◌, ◌<◌}
use lib.Dec.{ltb}
use lib.ListN.{length}
use Rattle.point.specs.InnerParts.{lists_of}
use Rattle.correction.proofs.Walks.{count_is_lem, start_at, next_none, next_at}
use Rattle.correction.proofs.reaches.Goals as goal

pub returns-then-next-registrations : goal.returns-then-next-registrations
returns-then-next-registrations c =
    sym (next_none c.args.day (lists_of c.args.part.now).regs (c.args.k + 1)
    (omega (arith, count_is_lem c.args.part.now.is_sound, c.registrations.ensures.0, c.if-next-registrations.true)))

pub returns : goal.returns
returns c =
    let regs = (lists_of c.args.part.now).regs in
    let next = c.args.k + 1 in
    let h : next < length regs =
    omega (arith, count_is_lem c.args.part.now.is_sound, c.registrations.ensures.0, c.if-next-registrations.false) in
    ap (ltb c.args.day) (c.reg_start.ensures.0 ∙ start_at c.args.part.now.is_sound next (omega arith))
    ∙ sym (next_at c.args.day regs next h)
