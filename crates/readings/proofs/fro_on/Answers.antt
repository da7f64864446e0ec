use mathlib.Core.Path.{refl, ◌∙◌}
use native.Mathlib.Omega.{arith}
use Rattle.std.proofs.Common.{rules}
use Rattle.std.proofs.lemmas.Iterator.{YieldsList-from_range}
use Rattle.std.proofs.lemmas.Iterator.Consumers.{fold_from_yields_List}
use Rattle.readings.proofs.Users.{user_then, user_fold, fro_few}
use Rattle.readings.proofs.fro_on.Goals as goal

pub returns : goal.returns
returns c =
    let user =
    fold_from_yields_List _ (user_then c.args.part.now.numbers.now c.args.g) 0 _ c.fold.ensures.ran (YieldsList-from_range 0 c.registrations.result c.registrations.result refl (omega arith)) (λ u j r q k. search rules)
    ∙ user_fold c.args.part.now.numbers.now c.args.g _ c.registrations.ensures.0 in
    (user, omega (arith, user, fro_few c.args.part.now.is_sound c.args.g))
