use Rattle.trial.proofs.Tried.{answer_small, tried}
use Rattle.trial.proofs.try_one.Goals as goal

pub put_answer-requires : goal.put_answer-requires
put_answer-requires c =
    (c.requires.2, answer_small c.args.ed c.requires.0 c.args.t.now c.requires.1 c.args.n c.enter_in_sound-a.ensures.0)

pub returns : goal.returns
returns c =
    tried c.args.ed c.requires.0 c.args.t.now c.requires.1 c.args.n c.enter_in_sound-a.ensures.0 c.enter_in_sound-a.ensures.1 c.put_answer.ensures.0 c.put_answer.ensures.1
