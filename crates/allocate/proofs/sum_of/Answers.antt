use mathlib.Core.Path.{◌∙◌, sym}
use Prim.Native.Nat.{◌^◌}
use native.Mathlib.Omega.{arith}
use Rattle.std.proofs.lemmas.Iterator.{YieldsList-from_slice}
use Rattle.std.proofs.lemmas.Iterator.Consumers.{sum_from_yields_List, fits_from_yields_list}
use Rattle.allocate.proofs.Splits.{total_sum}
use Rattle.allocate.proofs.sum_of.Goals as goal

pub sum-requires-clause-fits : goal.sum-requires-clause-fits
sum-requires-clause-fits c =
    fits_from_yields_list _ (2 ^ 64) (YieldsList-from_slice c.args.ws.now cc) (omega (arith, c.requires.1, total_sum c.args.ws.now))

pub returns : goal.returns
returns c = sum_from_yields_List _ _ c.sum.ensures.ran (YieldsList-from_slice c.args.ws.now cc) ∙ sym (total_sum c.args.ws.now)
