use borrow.Author.Rules.{rules}
use Rattle.buffers.proofs.Bytes.{replied_room, replied_one, replied_two}
use Rattle.buffers.proofs.reply.Goals as goal

pub returns-then-refusal-eq1 : goal.returns-then-refusal-eq1
returns-then-refusal-eq1 c = (replied_one c.args.numbers.now _ c.if-answer-numbers.true c.if-refusal-eq1.true, search rules)

pub returns-else-refusal-eq1 : goal.returns-else-refusal-eq1
returns-else-refusal-eq1 c = (replied_two c.args.numbers.now _ c.if-answer-numbers.true c.if-refusal-eq1.false, search rules)

pub returns : goal.returns
returns c =
    (replied_room c.args.numbers.now _ _ c.if-answer-numbers.false c.put_numbers.ensures, search rules)
