use Rattle.std.proofs.Common.{refl}
use lib.Chars.{codes}
use Rattle.journal.specs.Names.{named_on_bytes}
use Rattle.journal.proofs.Names.{same_bytes_no_text}
use Rattle.journal.proofs.named_on_bytes.Goals as goal

pub returns-in_default : goal.returns-in_default
unfolding named_on_bytes
returns-in_default c =
    let other = same_bytes_no_text c.args.w.now c.in_default.ensures.cases.0 in
    rw (other (codes "energy") refl, other (codes "allocate") refl, other (codes "account") refl)
