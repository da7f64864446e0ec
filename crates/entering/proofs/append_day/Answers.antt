use Rattle.point.specs.InnerTests.{day_if}
use Rattle.entering.proofs.Laying.{append_first, append_next}
use mathlib.Core.Path.{◌∙◌, ap}
use Rattle.entering.proofs.append_day.Goals as goal

pub returns-then-recs-eq0 : goal.returns-then-recs-eq0
returns-then-recs-eq0 c =
    ap day_if c.first_on.ensures ∙ append_first c.args.part.now.is_sound _ _ _ c.spans-spans.ensures.0 c.records-recs.ensures.0 c.if-recs-eq0.true c.install-install.ensures.0

pub returns : goal.returns
returns c =
    ap day_if c.first_on-2.ensures ∙ append_next c.args.part.now.is_sound _ _ _ c.spans-spans.ensures.0 c.records-recs.ensures.0 c.if-recs-eq0.false c.rec_end-end.ensures.0
