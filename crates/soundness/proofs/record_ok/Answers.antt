use mathlib.Core.Path.{sym}
use borrow.Author.Tests.{eq-eqb, ne_eqb, lt-ltb, le-ltb}
use Rattle.soundness.proofs.OnePass.{rec_out, rec_beside, rec_fits}
use Rattle.soundness.proofs.record_ok.Goals as goal

pub returns-then-not-end-get_energy : goal.returns-then-not-end-get_energy
returns-then-not-end-get_energy c =
    let a = c.args in
    rec_out a.p.now a.k _ _ _ c.bits_at-end.ensures c.get_energy.ensures c.get.ensures.0 _ _ _ c.if-not-end-get_energy.true

pub returns-then-not-bits_at-day : goal.returns-then-not-bits_at-day
returns-then-not-bits_at-day c =
    let a = c.args in
    rec_beside a.p.now a.k _ _ _ c.bits_at-end.ensures c.get_energy.ensures c.get.ensures.0 _ _ _
    c.if-not-end-get_energy.false _ c.bits_at.ensures c.requires.1
    c.if-not-bits_at-day.true

-- a record in range that starts and ends beside the off day: its kind decides
pub returns-then-end-day : goal.returns-then-end-day
returns-then-end-day c =
    let a = c.args in
    let kind_decides =
    rec_fits a.p.now a.k _ _ _ c.bits_at-end.ensures c.get_energy.ensures c.get.ensures.0 a.kind a.day a.off
    c.if-not-end-get_energy.false _ c.bits_at.ensures c.requires.1
    c.if-not-bits_at-day.false
    in
    rw (eq-eqb _ 0 c.if-kind-eq0.true, le-ltb _ _ c.if-end-day.true) at kind_decides

pub returns-then-kind-eq0 : goal.returns-then-kind-eq0
returns-then-kind-eq0 c =
    let a = c.args in
    let kind_decides =
    rec_fits a.p.now a.k _ _ _ c.bits_at-end.ensures c.get_energy.ensures c.get.ensures.0 a.kind a.day a.off
    c.if-not-end-get_energy.false _ c.bits_at.ensures c.requires.1
    c.if-not-bits_at-day.false
    in
    rw (eq-eqb _ 0 c.if-kind-eq0.true, lt-ltb _ _ c.if-end-day.false) at kind_decides

pub returns-then-end-day-2 : goal.returns-then-end-day-2
returns-then-end-day-2 c =
    let a = c.args in
    let kind_decides =
    rec_fits a.p.now a.k _ _ _ c.bits_at-end.ensures c.get_energy.ensures c.get.ensures.0 a.kind a.day a.off
    c.if-not-end-get_energy.false _ c.bits_at.ensures c.requires.1
    c.if-not-bits_at-day.false
    in
    rw (ne_eqb _ 0 c.if-kind-eq0.false, ne_eqb _ _ (λ z. c.if-end-day-2.true (sym z))) at kind_decides

pub returns : goal.returns
returns c =
    let a = c.args in
    let kind_decides =
    rec_fits a.p.now a.k _ _ _ c.bits_at-end.ensures c.get_energy.ensures c.get.ensures.0 a.kind a.day a.off
    c.if-not-end-get_energy.false _ c.bits_at.ensures c.requires.1
    c.if-not-bits_at-day.false
    in
    rw (ne_eqb _ 0 c.if-kind-eq0.false, eq-eqb _ _ (sym c.if-end-day-2.false)) at kind_decides
