use mathlib.Core.Path.{◌∙◌}
use mir.Facts.{to_z-of_z}
use mir.Syntax.{w64}
use borrow.Author.Rules.{rules}
use Rattle.buffers.proofs.Bytes.{written_none, written_all}
use Rattle.buffers.proofs.finish.Goals as goal

pub returns-then-refusal-eq0 : goal.returns-then-refusal-eq0
returns-then-refusal-eq0 c =
    written_all _ _ _ _ _ c.reply-refusal.ensures.0 _ (to_z-of_z {w = w64} (search rules) ∙ c.integer-result.ensures) c.if-refusal-eq0.true _ c.encode.ensures

pub returns-else-refusal-eq0 : goal.returns-else-refusal-eq0
returns-else-refusal-eq0 c =
    written_none _ _ _ _ _ c.reply-refusal.ensures.0 _ (to_z-of_z {w = w64} (search rules) ∙ c.integer-result.ensures) c.if-refusal-eq0.false
