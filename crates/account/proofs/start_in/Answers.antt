use mathlib.Core.Path.{sym, ap, ◌∙◌}
use native.Mathlib.Omega.{arith}
use Rattle.account.specs.InnerRegistrations.{moved_into}
use Rattle.account.proofs.Registrations.{start_is, start_end}
use Rattle.account.proofs.start_in.Goals as goal

pub returns-then-n-j : goal.returns-then-n-j
returns-then-n-j c =
    sym (start_end c.args.part.now.numbers.now c.args.x c.args.y c.args.j (omega arith))

pub returns : goal.returns
unfolding moved_into
returns c =
    c.clamp.ensures ∙ ap (moved_into c.args.x c.args.y) c.reg_start.ensures.0
    ∙ sym (start_is c.args.part.now.numbers.now c.args.x c.args.y c.args.j (omega arith))
