use Rattle.std.proofs.Common.{◌≡◌, sym, ◌∙◌, ap₂, ◌&&◌, w64, rules}
use mir.ValLaws.{to_z-of_z}
use Rattle.numbers.proofs.Naturals.{test_read}
use Rattle.daybook.specs.Notices.{is_range, is_edition}
use Rattle.table.proofs.Calls.{gives}
use Rattle.opening.proofs.FreshCall.{fresh_short, fresh_out, fresh_entered}
use Rattle.opening.proofs.fresh.Goals as goal
use Rattle.opening.proofs.fresh.Goals.{After-is_edition}

pub returns-then-t-lt-TABLE_LENGTH : goal.returns-then-t-lt-TABLE_LENGTH
returns-then-t-lt-TABLE_LENGTH c = gives (fresh_short c.args.t.now c.args.n c.if-t-lt-TABLE_LENGTH.true)

tested : (c : After-is_edition)
    → (c.is_range.result && c.is_range-2.result && c.is_edition.result)
    ≡ (is_range c.args.n.nondaily && is_range c.args.n.daily && is_edition c.args.n.edition)
tested c =
    let n = c.args.n in
    ap₂ ◌&&◌
    (ap₂ ◌&&◌ (c.is_range.ensures ∙ test_read n.nondaily (search rules) is_range)
    (c.is_range-2.ensures ∙ test_read n.daily (search rules) is_range))
    (c.is_edition.ensures ∙ test_read n.edition (search rules) is_edition)

pub returns-then-not-ranges-is_edition : goal.returns-then-not-ranges-is_edition
returns-then-not-ranges-is_edition c =
    gives (fresh_out c.args.t.now c.args.n c.if-t-lt-TABLE_LENGTH.false (sym (tested c.before) ∙ c.if-not-ranges-is_edition.true))

pub returns : goal.returns
returns c =
    let n = c.args.n in
    let passed = sym (tested c.before.before.before.before) ∙ c.if-not-ranges-is_edition.false in
    let w = gives (fresh_entered c.args.t.now n c.if-t-lt-TABLE_LENGTH.false passed) in (
      w.0,
      rw (
        c.clear.ensures,
        to_z-of_z w64 n.nondaily (search rules),
        to_z-of_z w64 n.daily (search rules),
        to_z-of_z w64 n.edition (search rules),
      ) w.1,
    )
