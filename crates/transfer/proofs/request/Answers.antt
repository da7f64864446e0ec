use Rattle.std.proofs.Common.{◌≡◌, refl, sym, arith, rules}
use Rattle.std.proofs.lemmas.Result.{err_from_is_err_and}
use Rattle.numbers.specs.Naturals.{nat_of}
use Rattle.table.proofs.Locating.{back_numbers, back_unknown, part_found}
use Rattle.table.proofs.OnPart.{lent_sound}
use Rattle.table.proofs.Registers.{table_passes, located_in}
use Rattle.transfer.proofs.Requests.{request_bounds, request_unsound, request_back, request_done}
use Rattle.transfer.proofs.request.Goals as goal

pub returns-in_err-register : goal.returns-in_err-register
returns-in_err-register c =
    let p = err_from_is_err_and c.from_residual.result c.from_residual.ensures.1 in
    rw (p.1, p.2) (request_unsound c.args.t.now c.args.n c.args.holidays.now _ c.in_err-register.ensures.is)

pub returns-in_err-request_row : goal.returns-in_err-request_row
returns-in_err-request_row c =
    let ed = table_passes c.in_ok-register.register c.in_ok-register.ensures.ok in
    let exit = c.from_residual-in_err-request_row in
    let p = err_from_is_err_and exit.result exit.ensures.1 in
    let back = back_numbers _ ed.2 c.in_err-request_row.ensures in
    rw (p.1, p.2) (request_back _ ed.0 _ ed.1 c.args.n c.args.holidays.now _ refl _ back)

pub returns-in_err-place : goal.returns-in_err-place
returns-in_err-place c =
    let ed = table_passes c.in_ok-register.register c.in_ok-register.ensures.ok in
    let exit = c.from_residual-in_err-place in
    let p = err_from_is_err_and exit.result exit.ensures.1 in
    let passed = sym c.in_ok-request_row.ensures in
    let back = back_unknown _ _ _ (search rules) ed.2 passed (located_in c.in_ok-register.register c.in_ok-register.ensures.ok _ c.in_err-place.ensures.is) in
    rw (p.1, p.2) (request_back _ ed.0 _ ed.1 c.args.n c.args.holidays.now _ refl _ back)

pub request_at-requires : goal.request_at-requires
request_at-requires c =
    let n = c.args.n in
    let ed = table_passes c.in_ok-register.register c.in_ok-register.ensures.ok in
    let passed = sym c.in_ok-request_row.ensures in
    let h = part_found _ _ n.mirn (search rules) ed.2 passed (located_in c.in_ok-register.register c.in_ok-register.ensures.ok _ c.in_ok-place.ensures.is) in
    let b = request_bounds n c.args.holidays.now passed in
    let user : c.natural-user.result ≡ nat_of n.user = search rules in
    let proposed : c.natural.result ≡ nat_of n.proposed = search rules in
    (lent_sound ed.0 h, omega (arith, b.0), omega (arith, b.1))

pub returns : goal.returns
returns c =
    let n = c.args.n in
    let ed = table_passes c.in_ok-register.register c.in_ok-register.ensures.ok in
    let h = part_found _ _ n.mirn (search rules) ed.2 (sym c.in_ok-request_row.ensures) (located_in c.in_ok-register.register c.in_ok-register.ensures.ok _ c.in_ok-place.ensures.is) in
    let user : c.natural-user.result ≡ nat_of n.user = search rules in
    let proposed : c.natural.result ≡ nat_of n.proposed = search rules in
    let nochange : c.natural-nochange.result ≡ nat_of n.nochange = search rules in
    request_done _ ed.0 c.args.t.now ed.1 n c.args.holidays.now _ refl h _ _ (rw (user, proposed, nochange) at c.request_at.ensures)
