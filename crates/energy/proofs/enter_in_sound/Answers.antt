use Rattle.std.proofs.Common.{◌≡◌, Err, refl, sym, subst, arith, rules}
use Rattle.table.proofs.Laws.{sound_long}
use Rattle.table.proofs.Locating.{back_numbers, back_unknown, part_found}
use Rattle.table.proofs.OnPart.{lent_sound}
use Rattle.entering.specs.InnerEntering.{InRange}
use Rattle.energy.proofs.Raised.{in_range_tells}
use Rattle.energy.proofs.Call.{in_range_here, energy_back, ranges_small, energy_done}
use Rattle.energy.proofs.enter_in_sound.Goals as goal

pub returns-in_err-own_row : goal.returns-in_err-own_row
returns-in_err-own_row c =
    let s = c.args in
    let gone : c.from_residual.result ≡ Err c.in_err-own_row.field-0.0 = search rules in
    let w = energy_back _ c.requires.0 s.t.now s.n _ refl _ (back_numbers _ c.requires.1 c.in_err-own_row.ensures) in rw gone (w.0, w.1, refl)

pub returns-in_err-place : goal.returns-in_err-place
returns-in_err-place c =
    let s = c.args in
    let gone : c.from_residual-in_err-place.result ≡ Err c.in_err-place.field-0.0 = search rules in
    let w = energy_back _ c.requires.0 s.t.now s.n _ refl _ (back_unknown s.ed s.t.now s.n.mirn (search rules) c.requires.1 (sym c.in_ok-own_row.ensures) c.in_err-place.ensures.is) in rw gone (w.0, w.1, refl)

pub nondaily-nondaily-requires : goal.nondaily-nondaily-requires
nondaily-nondaily-requires c = omega (arith, (sound_long _ _ c.requires.1).0)

pub daily-daily-requires : goal.daily-daily-requires
daily-daily-requires c = omega (arith, (sound_long _ _ c.requires.1).0)

pub enter-requires : goal.enter-requires
enter-requires c =
    let s = c.args in
    let h = part_found s.ed s.t.now s.n.mirn (search rules) c.requires.1 (sym c.in_ok-own_row.ensures) c.in_ok-place.ensures.is in
    let small = ranges_small _ c.requires.0 s.t.now s.n _ refl h _ _ c.nondaily-nondaily.ensures c.daily-daily.ensures in
    (lent_sound c.requires.0 h, subst InRange (sym c.read.ensures) (in_range_tells s.n (in_range_here s.n h.passed)).1, small.0, small.1)

pub returns : goal.returns
returns c =
    let s = c.args in
    let h = part_found s.ed s.t.now s.n.mirn (search rules) c.requires.1 (sym c.in_ok-own_row.ensures) c.in_ok-place.ensures.is in
    let e = c.enter.ensures in
    let w = energy_done _ c.requires.0 s.t.now s.n _ refl h _ _ c.nondaily-nondaily.ensures c.daily-daily.ensures _ c.read.ensures _ _ (e.0, e.1) in
    (w.0, w.1, e.2)
