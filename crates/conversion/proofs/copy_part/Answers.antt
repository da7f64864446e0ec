use mathlib.Core.Path.{◌∙◌}
use native.Mathlib.Omega.{arith}
use borrow.Author.Rules.{rules}
use Rattle.conversion.proofs.CopiedPart.{copied_is, operator_small}
use Rattle.conversion.proofs.copy_part.Goals as goal

pub put-requires : goal.put-requires
put-requires c = let o = operator_small c.args.part.now.is_sound in (search rules, omega arith)

pub returns : goal.returns
returns c =
    c.put.ensures
    ∙ copied_is c.args.part.now.is_sound c.args.q.now _ (omega (arith, c.records.ensures.0)) (omega (arith, c.records.ensures.0)) c.requires.1
    _ _ _ c.copy_first.ensures c.clear.ensures (search rules)
