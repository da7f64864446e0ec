use Rattle.std.proofs.Common.{refl}
use lib.Chars.{codes}
use Rattle.journal.specs.Names.{command_named}
use Rattle.journal.proofs.Names.{same_bytes_no_text}
use Rattle.journal.proofs.named.Goals as goal

pub returns-in_default : goal.returns-in_default
unfolding command_named
returns-in_default c =
    let other = same_bytes_no_text c.args.w.now c.in_default.ensures.cases.0 in
    rw (other (codes "correct") refl, other (codes "withdraw") refl, other (codes "request") refl, other (codes "status") refl, other (codes "energy") refl, other (codes "open") refl, other (codes "fresh") refl, other (codes "date") refl, other (codes "allocate") refl, other (codes "account") refl, other (codes "image") refl, other (codes "imgpoke") refl, other (codes "restore") refl, other (codes "save") refl, other (codes "trial") refl, other (codes "convert") refl, other (codes "hub") refl, other (codes "alen") refl, other (codes "tlen") refl, other (codes "poke") refl, other (codes "table") refl, other (codes "look") refl)
