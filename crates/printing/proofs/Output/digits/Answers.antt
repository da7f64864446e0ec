use Rattle.std.proofs.Common.{sym, ◌∙◌, ap, ◌++◌, length-append, arith}
use Rattle.printing.specs.Rows.{hex_digits}
use Rattle.printing.proofs.Rows.{digits_more, digits_end}
use Rattle.printing.proofs.Output.digits.Goals as goal

pub loop-b-preserved : goal.loop-b-preserved
loop-b-preserved g c =
    let l = c.loop-b in
    let high = c.push.ensures.items in
    let low = c.push-in-loop-b.ensures.items in (
      simp (low, high, length-append) (omega (arith, l.invariant.0)),
      digits_more c.args.bytes.now l.self-inside.bytes.items _ _ l.b-index _ _ c.loop-b-test.true c.digit.ensures c.digit-in-loop-b.ensures high low ∙ l.invariant.1,
    )

pub returns-clause-text : goal.returns-clause-text
returns-clause-text g c =
    let l = c.loop-b in
    sym (digits_end c.args.bytes.now l.self-inside.bytes.items l.b-index c.loop-b-test.false) ∙ l.invariant.1 ∙ ap (λ t. t ++ hex_digits c.args.bytes.now) c.self.view_is
