use mathlib.Core.Path.{sym}
use native.Mathlib.Omega.{arith}
use lib.Seq.{length-take-le}
use Rattle.buffers.specs.Buffers.{with_numbers}
use borrow.Author.Rules.{rules}
use Rattle.lending.proofs.bytes_of.Goals as goal

pub slice_bounds-r-end : goal.slice_bounds-r-end
slice_bounds-r-end c = sym (length-take-le _ _ c.requires)

pub encode-requires : goal.encode-requires
encode-requires c =
    (omega (arith, length-take-le _ c.args.b.now c.requires), search rules)

pub returns : goal.returns
unfolding with_numbers
returns c =
    let e = c.encode in
    (e.ensures, omega (arith, e.auto, length-take-le _ c.args.b.now c.requires))
