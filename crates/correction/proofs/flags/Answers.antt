use Rattle.std.proofs.Common.{ℕ, ◌+◌, Bool, rules}
use Rattle.point.specs.InnerParts.{lists_of}
use Rattle.correction.specs.InnerParts.{loses_day}
use Rattle.correction.proofs.Made.{made_is}
use Rattle.correction.proofs.flags.Goals as goal

pub returns : goal.returns
returns c =
    let a = c.args in
    let mark : ℕ → Bool = λ k. loses_day a.user a.day (lists_of a.part.now).regs (k + 1) in
    made_is _ mark _ (λ k y q h. (search rules, search rules)) c.from_fn.result 16 c.from_fn.ensures.items
