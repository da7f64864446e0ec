use mathlib.Core.Path.{◌≡◌, sym, ◌∙◌, ap}
use native.Mathlib.Omega.{arith}
use lib.IntN.{pos}
use lib.ListN.{get_or, get_or-eq_default}
use Rattle.numbers.specs.Naturals.{nat_of}
use Rattle.daybook.specs.Editions.{editions, edition_no}
use Rattle.layout.specs.Layout.{edition_in}
use Rattle.table.proofs.edition.Goals as goal

pub returns-then-t-le-EDITION : goal.returns-then-t-le-EDITION
unfolding edition_in
returns-then-t-le-EDITION c =
    let t = c.args.t.now in
    let none : get_or t 3 (pos 0) ≡ pos 0 = get_or-eq_default t (pos 0) (omega (arith, c.if-t-le-EDITION.true)) in
    (c.edition_of.ensures.0 ∙ ap (λ z. edition_no editions (nat_of z)) (sym none), c.edition_of.ensures.1)

pub returns : goal.returns
unfolding edition_in
returns c = (c.edition_of-2.ensures.0 ∙ ap (edition_no editions) c.get.ensures.0, c.edition_of-2.ensures.1)
