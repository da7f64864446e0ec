use mathlib.Core.Path.{◌≡◌, sym, ap, ◌∙◌}
use Prim.Native.Nat.{◌*◌}
use native.Mathlib.Omega.{arith}
use lib.IntN.{pos}
use mir.ValLaws.{to_z-of_z}
use mir.Syntax.{w64}
use borrow.Author.Rules.{rules}
use Rattle.numbers.specs.Naturals.{nat_of}
use Rattle.numbers.proofs.Naturals.{natural_read}
use Rattle.lists.proofs.Bounds.{within_bounds, within_pos}
use Rattle.allocate.proofs.Loads.{net_load}
use Rattle.allocate.proofs.net_load.Goals as goal

pub returns : goal.returns
returns c =
    let q = c.args.q in
    let is : c.natural.result ≡ nat_of q.tdq = c.natural.ensures.0 ∙ natural_read q.tdq (search rules) in
    let few = (within_bounds 0 1000000000 q.tdq c.requires.0).1 in (
      c.saturating_sub.ensures
          ∙ net_load q c.natural.result c.args.tdm (1000000 * c.args.n) c.raised_load.result c.raised_load-2.result
          (within_pos 0 1000000000 q.tdq c.requires.0 ∙ ap pos (sym is))
          (c.raised_load.ensures.0 ∙ to_z-of_z w64 q.uag (search rules))
          (c.raised_load-2.ensures.0 ∙ to_z-of_z w64 q.clp (search rules)),
      omega (arith, c.saturating_sub.ensures, is, few),
    )
