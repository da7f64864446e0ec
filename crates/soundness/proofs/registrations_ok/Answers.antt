use native.Mathlib.Numerals.{add-one}
use mathlib.Core.Path.{◌≡◌, sym, ap, ap₂, ◌∙◌}
use Prim.Native.Nat.{ℕ, suc, ◌-◌}
use native.Mathlib.Omega.{arith}
use borrow.Author.Tests.{eq-eqb, ne_eqb}
use Rattle.point.specs.InnerTests.{regs_ok}
use Rattle.point.proofs.Loops.{rows_pass, rows_fail, rows_end, reg_same, reg_test_lem, small_start}
use borrow.Author.Rules.{rules}
use Rattle.soundness.proofs.registrations_ok.Goals as goal

pub returns-then-reg_start-install : goal.returns-then-reg_start-install
unfolding regs_ok
returns-then-reg_start-install c =
    rw (rw (c.reg_start.ensures.0, c.install-install.ensures.0) at (ne_eqb c.reg_start.result c.install-install.result c.if-reg_start-install.true))

pub loop-k-init : goal.loop-k-init
unfolding regs_ok
loop-k-init c =
    let z : c.args.n - 0 ≡ c.args.n = omega arith in
    rw (z, c.install-install.ensures.0, rw (c.reg_start.ensures.0, c.install-install.ensures.0) at (eq-eqb c.reg_start.result c.install-install.result c.if-reg_start-install.false))

-- the row is tested by the bits of its numbers
pub returns-then-not-lo-start : goal.returns-then-not-lo-start
returns-then-not-lo-start c =
    let l = c.loop-k in
    let tested = sym (reg_test_lem l.latest l.lo _ _ _ _ c.bits_at-start.ensures c.bits_at-user.ensures) in
    sym (rows_fail _ _ _ l.k _ (omega arith) (tested ∙ c.if-not-lo-start.true)) ∙ l.invariant

pub overflow_add-lo : goal.overflow_add-lo
overflow_add-lo c =
    let l = c.loop-k in
    let h = small_start l.latest l.lo c.bits_at-start.result c.bits_at-user.result c.if-not-lo-start.false in search rules

pub loop-k-preserved : goal.loop-k-preserved
loop-k-preserved c =
    let l = c.loop-k in
    let tested = sym (reg_test_lem l.latest l.lo _ _ _ _ c.bits_at-start.ensures c.bits_at-user.ensures) in
    let e = reg_same l.latest l.lo _ _ _ _ c.bits_at-start.ensures c.bits_at-user.ensures c.if-not-lo-start.false in
    sym (rows_pass _ _ _ l.k _ _ (omega arith) (tested ∙ c.if-not-lo-start.false) (ap₂ (λ (u s : ℕ). (u, s)) e.1 (add-one c.bits_at-start.result ∙ ap suc e.0))) ∙ l.invariant

pub returns : goal.returns
returns c = sym (rows_end _ _ _ c.loop-k.k _ (omega arith)) ∙ c.loop-k.invariant
