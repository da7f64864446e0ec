use Rattle.std.proofs.Common.{◌≡◌, refl, sym, ◌∙◌, ap, ap₂, arith, rules}
use Rattle.std.proofs.lemmas.Result.{err_from_is_err_and}
use Rattle.numbers.specs.Naturals.{nat_of}
use Rattle.numbers.specs.Search.{is_some}
use Rattle.daybook.specs.Notices.{facts_of, operators_in, others_unfilled}
use Rattle.lists.proofs.OpenStep.{facts_ok_lem}
use Rattle.lists.specs.InnerSteps.{find_lists}
use Rattle.layout.specs.Layout.{num_at, register_of, table_book}
use Rattle.layout.specs.InnerWrites.{append_point}
use Rattle.table.specs.Lookup.{index_of}
use Rattle.table.proofs.Laws.{sound_long}
use Rattle.table.proofs.Registers.{table_passes}
use Rattle.table.proofs.Calls.{gives}
use Rattle.table.proofs.Locating.{not_sound}
use Rattle.opening.proofs.OpenCall.{open_unsound, open_out, open_known, known_is, open_full, open_eats, open_entered, clear}
use Rattle.opening.proofs.open.Goals as goal
use Rattle.opening.proofs.open.Goals.{After-is_some-known, After-points-count, After-others_unfilled-reserved}

pub returns-in_err-register : goal.returns-in_err-register
returns-in_err-register c =
    let p = err_from_is_err_and c.from_residual.result c.from_residual.ensures.1 in
    let w = not_sound _ c.in_err-register.ensures.is in
    rw (p.1, p.2, w.0) (gives (open_unsound _ _ refl _ w.1))

pub returns-then-not-in_range : goal.returns-then-not-in_range
returns-then-not-in_range c =
    let ed = table_passes c.in_ok-register.register c.in_ok-register.ensures.ok in
    gives (open_out _ ed.0 _ ed.1 _ ed.2 (sym c.in_range.ensures ∙ c.if-not-in_range.true))

-- what the search by MIRN says of row 5
known_lem : (c : After-is_some-known) → c.is_some-known.result ≡ is_some (find_lists (nat_of c.args.n.mirn) (register_of c.in_ok-register.register.edition c.args.t.now).points)
known_lem c =
    let n = c.args.n in
    let ed = table_passes c.in_ok-register.register c.in_ok-register.ensures.ok in
    let mirn : c.natural.result ≡ nat_of n.mirn = search rules in
    c.is_some-known.ensures
    ∙ known_is _ ed.0 _ ed.1 n ed.2 _ (c.index_of.ensures.is ∙ ap₂ (index_of _) c.in_ok-register.ensures.ok.0 mirn)

count_lem : (c : After-points-count) → c.points-count.result ≡ num_at c.args.t.now 0
count_lem c = c.points-count.ensures.0 ∙ ap (λ t. num_at t 0) c.in_ok-register.ensures.ok.0

reserved_lem : (c : After-others_unfilled-reserved) → c.others_unfilled-reserved.result
    ≡ others_unfilled c.in_ok-register.register.edition (operators_in (table_book c.in_ok-register.register.edition c.args.t.now).points) (nat_of c.args.n.operator)
reserved_lem c =
    let ed = c.in_ok-register.register.edition in
    let operator : c.natural-2.result ≡ nat_of c.args.n.operator = search rules in
    c.others_unfilled-reserved.ensures
    ∙ ap₂ (λ t. others_unfilled ed (operators_in (table_book ed t).points)) c.in_ok-register.ensures.ok.0 operator

pub returns-then-known : goal.returns-then-known
returns-then-known c =
    let n = c.args.n in
    let ed = table_passes c.in_ok-register.register c.in_ok-register.ensures.ok in
    gives (open_known _ ed.0 _ ed.1 n ed.2 (sym c.in_range.ensures ∙ c.if-not-in_range.false) (sym (known_lem (goal.at.returns-then-known c).After-is_some-known) ∙ c.if-known.true))

pub returns-then-edition-count : goal.returns-then-edition-count
returns-then-edition-count c =
    let n = c.args.n in
    let ed = table_passes c.in_ok-register.register c.in_ok-register.ensures.ok in
    let count = count_lem (goal.at.returns-then-edition-count c).After-points-count in
    let known = sym (known_lem (goal.at.returns-then-edition-count c).After-is_some-known) ∙ c.if-known.false in
    gives (open_full _ ed.0 _ ed.1 n ed.2 (sym c.in_range.ensures ∙ c.if-not-in_range.false) known (omega (arith, count)))

pub returns-then-edition-count-2 : goal.returns-then-edition-count-2
returns-then-edition-count-2 c =
    let n = c.args.n in
    let ed = table_passes c.in_ok-register.register c.in_ok-register.ensures.ok in
    let count = count_lem (goal.at.returns-then-edition-count-2 c).After-points-count in
    let known = sym (known_lem (goal.at.returns-then-edition-count-2 c).After-is_some-known) ∙ c.if-known.false in
    let reserved = reserved_lem (goal.at.returns-then-edition-count-2 c).After-others_unfilled-reserved in
    gives (open_eats _ ed.0 _ ed.1 n ed.2 (sym c.in_range.ensures ∙ c.if-not-in_range.false) known (omega (arith, count)) _ reserved (omega (arith, count)))

pub append_point-requires : goal.append_point-requires
append_point-requires c =
    let n = c.args.n in
    let ed = table_passes c.in_ok-register.register c.in_ok-register.ensures.ok in
    let count = count_lem (goal.at.append_point-requires c).After-points-count in
    let known = sym (known_lem (goal.at.append_point-requires c).After-is_some-known) ∙ c.if-known.false in
    let reserved = reserved_lem (goal.at.append_point-requires c).After-others_unfilled-reserved in
    let k = clear _ ed.0 _ ed.1 n ed.2 (sym c.in_range.ensures ∙ c.if-not-in_range.false) known (omega (arith, count)) _ reserved (omega (arith, count)) in
    (ed.0, c.if-edition-count.false, (sound_long _ _ ed.2).0, facts_ok_lem k, omega (arith, k.user_high))

pub returns : goal.returns
returns c =
    let n = c.args.n in
    let ed = table_passes c.in_ok-register.register c.in_ok-register.ensures.ok in
    let count = count_lem (goal.at.returns c).After-points-count in
    let known = sym (known_lem (goal.at.returns c).After-is_some-known) ∙ c.if-known.false in
    let reserved = reserved_lem (goal.at.returns c).After-others_unfilled-reserved in
    let w = gives (open_entered _ ed.0 _ ed.1 n ed.2 (sym c.in_range.ensures ∙ c.if-not-in_range.false) known (omega (arith, count)) _ reserved (omega (arith, count))) in
    (w.0, c.append_point.ensures ∙ ap (λ k. append_point c.in_ok-register.register.edition c.args.t.now k (facts_of n) (nat_of n.user)) count ∙ w.1)
