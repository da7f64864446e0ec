use borrow.Author.Rules.{rules}
use Rattle.daybook.specs.Notices.{others_unfilled}
use Rattle.reserves.proofs.others_unfilled.Goals as goal

pub returns : goal.returns
unfolding others_unfilled
returns c = search rules
