use Rattle.std.proofs.Common.{◌∙◌, rules}
use Rattle.numbers.proofs.Naturals.{natural_read}
use Rattle.daybook.specs.Notices.{facts_of}
use Rattle.opening.proofs.facts_of.Goals as goal

pub returns : goal.returns
unfolding facts_of
returns c =
    let n = c.args.n in
    λ i. record {
      mirn = (c.natural.ensures.0 ∙ natural_read n.mirn (search rules)) i;
      kind = (c.natural-2.ensures.0 ∙ natural_read n.kind (search rules)) i;
      install = (c.natural-3.ensures.0 ∙ natural_read n.install (search rules)) i;
      base = c.base_load.ensures i;
      section = (c.natural-4.ensures.0 ∙ natural_read n.section (search rules)) i;
      operator = (c.natural-5.ensures.0 ∙ natural_read n.operator (search rules)) i;
    }
