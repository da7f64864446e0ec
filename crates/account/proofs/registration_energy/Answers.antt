use mathlib.Core.Path.{sym, ◌∙◌}
use native.Mathlib.Omega.{arith}
use Rattle.account.proofs.Registrations.{next_later, own_other, own_same}
use borrow.Author.Rules.{rules}
use Rattle.account.proofs.registration_energy.Goals as goal

pub returns-then-reg_user-user : goal.returns-then-reg_user-user
returns-then-reg_user-user c =
    (sym (own_other _ c.args.user c.args.part.now.numbers.now c.args.x c.args.y c.args.j (λ e. c.if-reg_user-user.true (c.reg_user.ensures.0 ∙ e))), search rules)

pub energy_between-requires : goal.energy_between-requires
energy_between-requires c =
    next_later c.args.part.now.is_sound c.args.x c.args.y c.requires.1 c.start_in-start.ensures c.start_in-next.ensures (omega arith)

pub returns : goal.returns
returns c =
    let same = sym c.reg_user.ensures.0 ∙ c.if-reg_user-user.false in (
      c.energy_between.ensures.0
          ∙ own_same _ c.args.user c.args.part.now.numbers.now c.args.x c.args.y c.args.j same c.start_in-start.ensures c.start_in-next.ensures,
      omega arith,
    )
