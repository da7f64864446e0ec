use mathlib.Core.Path.{sym, ◌∙◌}
use mathlib.Core.Bool.{and-true, and-false}
use Rattle.soundness.specs.InnerPart.{rows_ok}
use Rattle.soundness.proofs.rows_ok.Goals as goal

pub returns-then-not-spans_ok : goal.returns-then-not-spans_ok
unfolding rows_ok
returns-then-not-spans_ok c =
    rw (rw c.spans-spans.ensures.0 at (sym c.spans_ok.ensures ∙ c.if-not-spans_ok.true), and-false _)

pub returns : goal.returns
unfolding rows_ok
returns c =
    let s = rw c.spans-spans.ensures.0 at (sym c.spans_ok.ensures ∙ c.if-not-spans_ok.false) in
    rw (c.pending_ok.ensures, c.records_ok.ensures, c.registrations_ok.ensures, c.records-recs.ensures.0, c.spans-spans.ensures.0, c.registrations-regs.ensures.0, s, and-true _)
