use Rattle.std.proofs.Common.{◌≡◌, refl, sym, arith, rules}
use Rattle.std.proofs.lemmas.Result.{err_from_is_err_and}
use Rattle.numbers.specs.Naturals.{nat_of}
use Rattle.table.proofs.Locating.{back_numbers, back_unknown, part_found}
use Rattle.table.proofs.OnPart.{lent_sound}
use Rattle.table.proofs.Registers.{table_passes, located_in}
use Rattle.status.proofs.Call.{status_read, status_unsound, status_back, status_done}
use Rattle.status.proofs.status.Goals as goal

pub returns-in_err-register : goal.returns-in_err-register
returns-in_err-register c =
    let p = err_from_is_err_and c.from_residual.result c.from_residual.ensures.1 in
    rw (p.1, p.2) (status_unsound c.args.t.now c.args.n _ c.in_err-register.ensures.is)

pub returns-in_err-own_row : goal.returns-in_err-own_row
returns-in_err-own_row c =
    let ed = table_passes c.in_ok-register.register c.in_ok-register.ensures.ok in
    let exit = c.from_residual-in_err-own_row in
    let p = err_from_is_err_and exit.result exit.ensures.1 in
    let back = back_numbers _ ed.2 c.in_err-own_row.ensures in
    rw (p.1, p.2) (status_back _ ed.0 _ ed.1 c.args.n _ refl _ back)

pub returns-in_err-place : goal.returns-in_err-place
returns-in_err-place c =
    let ed = table_passes c.in_ok-register.register c.in_ok-register.ensures.ok in
    let exit = c.from_residual-in_err-place in
    let p = err_from_is_err_and exit.result exit.ensures.1 in
    let passed = sym c.in_ok-own_row.ensures in
    let back = back_unknown _ _ _ (search rules) ed.2 passed (located_in c.in_ok-register.register c.in_ok-register.ensures.ok _ c.in_err-place.ensures.is) in
    rw (p.1, p.2) (status_back _ ed.0 _ ed.1 c.args.n _ refl _ back)

pub enter-requires : goal.enter-requires
enter-requires c =
    let n = c.args.n in
    let ed = table_passes c.in_ok-register.register c.in_ok-register.ensures.ok in
    let passed = sym c.in_ok-own_row.ensures in
    let h = part_found _ _ n.mirn (search rules) ed.2 passed (located_in c.in_ok-register.register c.in_ok-register.ensures.ok _ c.in_ok-place.ensures.is) in
    let day : c.natural.result ≡ nat_of n.day = search rules in
    (lent_sound ed.0 h, omega (arith, (status_read n passed).0))

pub returns : goal.returns
returns c =
    let n = c.args.n in
    let ed = table_passes c.in_ok-register.register c.in_ok-register.ensures.ok in
    let passed = sym c.in_ok-own_row.ensures in
    let h = part_found _ _ n.mirn (search rules) ed.2 passed (located_in c.in_ok-register.register c.in_ok-register.ensures.ok _ c.in_ok-place.ensures.is) in
    let day : c.natural.result ≡ nat_of n.day = search rules in
    status_done _ ed.0 c.args.t.now ed.1 n _ refl h _ _ (rw (day, (status_read n passed).1) at c.enter.ensures)
