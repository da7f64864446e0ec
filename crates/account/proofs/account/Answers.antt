use Rattle.std.proofs.Common.{◌≡◌, refl, sym, ap, ◌∙◌, [], ◌∷◌, pos, arith, rules, w64}
use mir.ValLaws.{to_z-of_z}
use borrow.Author.Rules.{sfits_of}
use Rattle.std.proofs.lemmas.Result.{err_from_is_err_and}
use Rattle.numbers.specs.Naturals.{nat_of}
use Rattle.daybook.specs.Queries.{account_of}
use Rattle.layout.specs.Layout.{table_book}
use Rattle.table.proofs.Locating.{not_sound}
use Rattle.table.proofs.Registers.{table_passes}
use Rattle.account.proofs.Call.{range_bounds, unsound_ends, range_ends, given_ends}
use Rattle.account.proofs.account.Goals as goal

pub returns-in_err-register : goal.returns-in_err-register
returns-in_err-register c =
    let p = err_from_is_err_and c.from_residual.result c.from_residual.ensures.1 in
    let w = not_sound _ c.in_err-register.ensures.is in
    rw (p.1, p.2, w.0) (unsound_ends _ _ refl _ w.1)

pub returns-then-not-in_range : goal.returns-then-not-in_range
returns-then-not-in_range c =
    let ed = table_passes c.in_ok-register.register c.in_ok-register.ensures.ok in
    range_ends _ _ ed.1 _ ed.2 (sym c.in_range.ensures ∙ c.if-not-in_range.true)

pub table_energy-requires : goal.table_energy-requires
table_energy-requires c =
    let n = c.args.n in
    let b = range_bounds n (sym c.in_range.ensures ∙ c.if-not-in_range.false) in
    let user : c.natural-user.result ≡ nat_of n.user = search rules in
    let from : c.natural-from.result ≡ nat_of n.from = search rules in
    let to : c.natural-to.result ≡ nat_of n.to = search rules in
    (omega (arith, b, user), omega (arith, b, from, to), omega (arith, b, to))

pub returns : goal.returns
returns c =
    let n = c.args.n in
    let ed = table_passes c.in_ok-register.register c.in_ok-register.ensures.ok in
    ap (λ z. pos 0 ∷ z ∷ []) (to_z-of_z w64 _ (sfits_of c.table_energy.type_inv) ∙ c.table_energy.ensures
    ∙ ap (λ t. account_of c.natural-user.result c.natural-from.result c.natural-to.result (table_book c.in_ok-register.register.edition t)) c.in_ok-register.ensures.ok.0)
    ∙ given_ends _ _ ed.1 n ed.2 (sym c.in_range.ensures ∙ c.if-not-in_range.false) _ _ _ (search rules) (search rules) (search rules)
