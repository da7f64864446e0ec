use mathlib.Core.List.{List}
use mathlib.Core.Path.{ap, ◌∙◌}
use lib.IntN.{ℤ}
use Rattle.buffers.specs.Buffers.{with_numbers}
use Rattle.lines.proofs.Conversions.{same_zero, not_zero}
use borrow.Author.Rules.{rules}
use Rattle.lines.proofs.go_on.Goals as goal

pub returns-then-res-ne0 : goal.returns-then-res-ne0
returns-then-res-ne0 c = rw (not_zero c.args.res c.if-res-ne0.true)

pub returns : goal.returns
unfolding with_numbers
returns c =
    let read = c.before in
    let else1 = read.before in
    let s = else1.before in
    rw (same_zero s.args.res (search rules) else1.if-res-ne0.false) (c.encode.ensures ∙ ap (λ (xs : List ℤ). with_numbers xs s.args.register.now) read.table_in-numbers.ensures.0)
