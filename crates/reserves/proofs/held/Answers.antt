use mathlib.Core.Path.{◌≡◌, refl, sym, ◌∙◌, ap, ap₂}
use mathlib.Core.Bool.{cond}
use Prim.Native.Nat.{◌+◌}
use native.Mathlib.Omega.{arith}
use lib.Dec.{eqb}
use Rattle.daybook.specs.Notices.{held}
use Rattle.lists.specs.Lists.{operator_of}
use Rattle.layout.specs.Layout.{num_at}
use Rattle.point.proofs.Rows.{rows_at}
use Rattle.table.specs.InnerRegisters.{number_of_points}
use Rattle.reserves.proofs.Holders.{operator_at, operators_at, held_next, as_number, at_most_one}
use Rattle.reserves.proofs.held.Goals as goal

pub loop-i-init : goal.loop-i-init
unfolding rows_at held
loop-i-init c = (omega arith, refl)

pub operator-requires : goal.operator-requires
operator-requires c = c.part.ensures.sound.long

pub loop-i-preserved : goal.loop-i-preserved
loop-i-preserved c =
    let l = c.loop-i in
    let one : c.from-count.result ≡ cond (eqb c.operator.result c.args.o) 1 0 = c.from-count.ensures ∙ as_number _ in
    let is = c.operator.ensures ∙ ap (λ p. operator_of (num_at p 11)) c.part.ensures.is in (
      omega (arith, c.from-count.ensures, at_most_one (eqb c.operator.result c.args.o)),
      ap₂ ◌+◌ l.invariant.1 (one ∙ ap (λ x. cond (eqb x c.args.o) 1 0) is)
          ∙ held_next (operator_at c.args.register.now) c.args.o l.i,
    )

pub returns : goal.returns
returns c =
    let l = c.loop-i in
    let e : l.i ≡ number_of_points c.args.register.now = omega (arith, c.points-i-end.ensures.0) in (
      l.invariant.1 ∙ ap (λ n. held (rows_at (operator_at c.args.register.now) 0 n) c.args.o) e
          ∙ ap (λ x. held x c.args.o) (sym (operators_at c.args.register.now)),
      omega arith,
    )
