use mathlib.Core.Path.{sym, ◌∙◌}
use mathlib.Core.Bool.{and-true}
use borrow.Author.Tests.{eq-eqb, ne_eqb}
use Rattle.layout.specs.Sound.{unused_zero}
use Rattle.soundness.proofs.unused_zero.Goals as goal

pub returns-then-pending_user-eq0 : goal.returns-then-pending_user-eq0
unfolding unused_zero
returns-then-pending_user-eq0 c =
    let after-zeros-in2 = c.before in
    rw (c.zeros_in-then-pending_user-eq0.ensures, c.zeros_in-4.ensures, c.zeros_in-3.ensures, after-zeros-in2.zeros_in-2.ensures, after-zeros-in2.zeros_in.ensures, after-zeros-in2.records.ensures.0, after-zeros-in2.spans.ensures.0, after-zeros-in2.registrations.ensures.0, eq-eqb _ 0 (sym c.pending_user.ensures.0 ∙ c.if-pending_user-eq0.true))

pub returns : goal.returns
unfolding unused_zero
returns c =
    let after-zeros-in2 = c.before in
    rw (c.zeros_in-4.ensures, c.zeros_in-3.ensures, after-zeros-in2.zeros_in-2.ensures, after-zeros-in2.zeros_in.ensures, after-zeros-in2.records.ensures.0, after-zeros-in2.spans.ensures.0, after-zeros-in2.registrations.ensures.0, ne_eqb _ 0 (λ z. c.if-pending_user-eq0.false (c.pending_user.ensures.0 ∙ z))) (sym (and-true _))
