use mathlib.Core.Path.{◌∙◌}
use native.Mathlib.Omega.{arith}
use borrow.Author.Rules.{rules}
use Rattle.buffers.proofs.Bytes.{table_short, table_long}
use Rattle.buffers.proofs.table_in.Goals as goal

pub returns-then-register-lt-REGISTER_BYTES : goal.returns-then-register-lt-REGISTER_BYTES
returns-then-register-lt-REGISTER_BYTES c =
    (c.numbers_in.ensures.0 ∙ table_short c.args.register.now (omega arith), search rules)

pub returns : goal.returns
returns c = (c.numbers_in-2.ensures.0 ∙ table_long c.args.register.now (omega arith), search rules)
