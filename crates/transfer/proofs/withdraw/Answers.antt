use Rattle.std.proofs.Common.{◌≡◌, refl, sym, arith, rules}
use Rattle.std.proofs.lemmas.Result.{err_from_is_err_and}
use Rattle.numbers.specs.Naturals.{nat_of}
use Rattle.table.proofs.Locating.{back_numbers, back_unknown, part_found}
use Rattle.table.proofs.OnPart.{lent_sound}
use Rattle.table.proofs.Registers.{table_passes, located_in}
use Rattle.transfer.proofs.Withdrawals.{withdrawal_user, withdraw_unsound, withdraw_back, withdraw_done}
use Rattle.transfer.proofs.withdraw.Goals as goal

pub returns-in_err-register : goal.returns-in_err-register
returns-in_err-register c =
    let p = err_from_is_err_and c.from_residual.result c.from_residual.ensures.1 in
    rw (p.1, p.2) (withdraw_unsound c.args.t.now c.args.n _ c.in_err-register.ensures.is)

pub returns-in_err-withdrawal_row : goal.returns-in_err-withdrawal_row
returns-in_err-withdrawal_row c =
    let ed = table_passes c.in_ok-register.register c.in_ok-register.ensures.ok in
    let exit = c.from_residual-in_err-withdrawal_row in
    let p = err_from_is_err_and exit.result exit.ensures.1 in
    let back = back_numbers _ ed.2 c.in_err-withdrawal_row.ensures in
    rw (p.1, p.2) (withdraw_back _ ed.0 _ ed.1 c.args.n _ refl _ back)

pub returns-in_err-place : goal.returns-in_err-place
returns-in_err-place c =
    let ed = table_passes c.in_ok-register.register c.in_ok-register.ensures.ok in
    let exit = c.from_residual-in_err-place in
    let p = err_from_is_err_and exit.result exit.ensures.1 in
    let passed = sym c.in_ok-withdrawal_row.ensures in
    let back = back_unknown _ _ _ (search rules) ed.2 passed (located_in c.in_ok-register.register c.in_ok-register.ensures.ok _ c.in_err-place.ensures.is) in
    rw (p.1, p.2) (withdraw_back _ ed.0 _ ed.1 c.args.n _ refl _ back)

pub withdraw_at-requires : goal.withdraw_at-requires
withdraw_at-requires c =
    let n = c.args.n in
    let ed = table_passes c.in_ok-register.register c.in_ok-register.ensures.ok in
    let passed = sym c.in_ok-withdrawal_row.ensures in
    let h = part_found _ _ n.mirn (search rules) ed.2 passed (located_in c.in_ok-register.register c.in_ok-register.ensures.ok _ c.in_ok-place.ensures.is) in
    let user : c.natural.result ≡ nat_of n.user = search rules in
    (lent_sound ed.0 h, omega (arith, withdrawal_user n passed))

pub returns : goal.returns
returns c =
    let n = c.args.n in
    let ed = table_passes c.in_ok-register.register c.in_ok-register.ensures.ok in
    let h = part_found _ _ n.mirn (search rules) ed.2 (sym c.in_ok-withdrawal_row.ensures) (located_in c.in_ok-register.register c.in_ok-register.ensures.ok _ c.in_ok-place.ensures.is) in
    let user : c.natural.result ≡ nat_of n.user = search rules in
    withdraw_done _ ed.0 c.args.t.now ed.1 n _ refl h _ _ (rw user at c.withdraw_at.ensures)
