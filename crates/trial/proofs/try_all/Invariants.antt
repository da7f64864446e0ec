use Rattle.layout.specs.Layout.{table_book}
use Rattle.trial.proofs.Batch.{SoFar}
use Rattle.trial.proofs.try_all.Given as goal

abbrev pub invariant-loop-k : goal.invariant-loop-k
invariant-loop-k l =
    SoFar l.ed l.count l.notices (table_book l.ed l.fn.t) l.fn.answers l.k l.t l.answers l.most l.removed
