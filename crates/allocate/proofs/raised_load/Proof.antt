use mathlib.Core.Path.{◌≡◌, ap, ◌∙◌}
use native.Mathlib.Omega.{arith}
use lib.IntN.{pos, ◌+ℤ◌}
use mir.ValLaws.{to_z-of_z}
use mir.Syntax.{w64}
use Rattle.numbers.proofs.Naturals.{rd, pos_cast, pos_sfits}
use Rattle.allocate.proofs.Loads.{raised, load_raised, load_back, load_small}
use Rattle.allocate.proofs.raised_load.Statement.{statement}
use Rattle.allocate.proofs.raised_load.Tie as tie

sum_is : (c : tie.Start) → rd c.args.x +ℤ pos 1000000000 ≡ pos (raised c.args.x)
sum_is c = ap (λ z. z +ℤ pos 1000000000) (to_z-of_z w64 c.args.x c.ranges.x) ∙ load_raised c.args.x c.requires

add_result : tie.Need-overflow_add-result
add_result c = rw (sum_is c) (pos_sfits (omega (arith, load_small c.args.x c.requires)))

cast_result : tie.Need-overflow_cast-result
cast_result c = (pos_cast (sum_is c) (omega (arith, load_small c.args.x c.requires))).0

returns : tie.Need-returns
returns c =
    let is = (pos_cast (sum_is c) (omega (arith, load_small c.args.x c.requires))).1 in
    rw is (load_back c.args.x c.requires, load_small c.args.x c.requires)

pub raised_load_spec : {M : Type 1} → statement M
raised_load_spec = tie.close (tie.spec add_result cast_result returns)
