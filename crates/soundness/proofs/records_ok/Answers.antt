use mathlib.Core.Path.{◌≡◌, sym, ap, ◌∙◌}
use mathlib.Core.Bool.{true}
use Prim.Native.Nat.{suc, ◌+◌, ◌-◌}
use native.Mathlib.Omega.{arith}
use native.Mathlib.Numerals.{add-one}
use borrow.Author.Rules.{rules}
use Rattle.point.specs.InnerTests.{rec_end, rec_at, recs_ok}
use Rattle.soundness.specs.InnerPart.{rec_on}
use Rattle.point.proofs.Loops.{rows_pass, rows_fail, rows_end}
use Rattle.soundness.proofs.OnePass.{passes, Found, awaits_first, found_here, found_on, found_test, found_leaves}
use Rattle.soundness.proofs.records_ok.Goals as goal
use Rattle.soundness.proofs.records_ok.Goals.{then-off-day, else-off-day}

pub loop-k-init : goal.loop-k-init
unfolding recs_ok
loop-k-init c =
    let s = c.args in
    let z : s.n - 0 ≡ s.n = omega arith in
    (rw (z, c.install-day.ensures.0), rw (c.off_from-off.ensures, c.install-day.ensures.0) (awaits_first s.p.now s.m c.requires.3 c.requires.2))

-- by either way the cursor stands on the first day that is not off
pub record_ok-requires : goal.record_ok-requires
record_ok-requires c =
    let s = c.args in
    let l = c.loop-k in
    let found : Found s.p.now s.m l.day c.if-off-day.day c.if-off-day.j c.if-off-day.off =
    elim c.if-off-day.branch [
      | then-off-day w ↦
          rw
          (w.day-is, w.j-is, w.off-is, w.off_from-off-then-off-day.ensures, w.on_day-day.ensures.0, add-one l.j)
          (found_on s.p.now s.m c.requires.3 l.day l.j l.off l.invariant.1 w.if-off-day.true)
      | else-off-day w ↦
          rw (w.day-is, w.j-is, w.off-is) (found_here s.p.now s.m c.requires.3 l.day l.j l.off l.invariant.1 w.if-off-day.false)
    ]
    in
    (search rules, omega (arith, found.small))

-- the record is tested as if beside all spans
pub returns-then-not-record_ok : goal.returns-then-not-record_ok
returns-then-not-record_ok c =
    let s = c.args in
    let l = c.loop-k in
    let found : Found s.p.now s.m l.day c.if-off-day.day c.if-off-day.j c.if-off-day.off =
    elim c.if-off-day.branch [
      | then-off-day w ↦
          rw
          (w.day-is, w.j-is, w.off-is, w.off_from-off-then-off-day.ensures, w.on_day-day.ensures.0, add-one l.j)
          (found_on s.p.now s.m c.requires.3 l.day l.j l.off l.invariant.1 w.if-off-day.true)
      | else-off-day w ↦
          rw (w.day-is, w.j-is, w.off-is) (found_here s.p.now s.m c.requires.3 l.day l.j l.off l.invariant.1 w.if-off-day.false)
    ]
    in
    let tested : rec_at s.p.now s.m l.day l.k ≡ c.record_ok.result =
    found_test s.p.now s.m c.requires.3 _ _ _ _ l.k found ∙ sym (rw c.kind-kind.ensures.0 at c.record_ok.ensures)
    in
    sym (rows_fail _ _ _ l.k _ (omega arith) (tested ∙ c.if-not-record_ok.true)) ∙ l.invariant.0

-- its end, read once more
pub overflow_add-day : goal.overflow_add-day
overflow_add-day c =
    let s = c.args in
    let l = c.loop-k in
    let passed : rec_on s.p.now c.kind-kind.result l.k c.if-off-day.day c.if-off-day.off ≡ true =
    sym c.record_ok.ensures ∙ c.if-not-record_ok.false
    in
    let r = passes _ _ _ _ _ passed in
    let end : c.bits_at-day.result ≡ rec_end s.p.now l.k = c.bits_at-day.ensures.same (omega (arith, r.end)) in
    search rules

pub loop-k-preserved : goal.loop-k-preserved
loop-k-preserved c =
    let s = c.args in
    let l = c.loop-k in
    let found : Found s.p.now s.m l.day c.if-off-day.day c.if-off-day.j c.if-off-day.off =
    elim c.if-off-day.branch [
      | then-off-day w ↦
          rw
          (w.day-is, w.j-is, w.off-is, w.off_from-off-then-off-day.ensures, w.on_day-day.ensures.0, add-one l.j)
          (found_on s.p.now s.m c.requires.3 l.day l.j l.off l.invariant.1 w.if-off-day.true)
      | else-off-day w ↦
          rw (w.day-is, w.j-is, w.off-is) (found_here s.p.now s.m c.requires.3 l.day l.j l.off l.invariant.1 w.if-off-day.false)
    ]
    in
    let tested : rec_at s.p.now s.m l.day l.k ≡ c.record_ok.result =
    found_test s.p.now s.m c.requires.3 _ _ _ _ l.k found ∙ sym (rw c.kind-kind.ensures.0 at c.record_ok.ensures)
    in
    let passed : rec_on s.p.now c.kind-kind.result l.k c.if-off-day.day c.if-off-day.off ≡ true =
    sym c.record_ok.ensures ∙ c.if-not-record_ok.false
    in
    let r = passes _ _ _ _ _ passed in
    let end : c.bits_at-day.result ≡ rec_end s.p.now l.k = c.bits_at-day.ensures.same (omega (arith, r.end)) in
    let e : c.bits_at-day.result + 1 ≡ suc (rec_end s.p.now l.k) = add-one c.bits_at-day.result ∙ ap suc end in (
      sym (rows_pass _ _ _ l.k _ _ (omega arith) (tested ∙ c.if-not-record_ok.false) e) ∙ l.invariant.0,
      rw e (found_leaves s.p.now s.m c.requires.3 _ _ _ _ _ _ found passed),
    )

pub returns : goal.returns
returns c = sym (rows_end _ _ _ c.loop-k.k _ (omega arith)) ∙ c.loop-k.invariant.0
