use mathlib.Core.Path.{refl}
use native.Mathlib.Omega.{arith}
use borrow.Author.Tests.{ne_eqb}
use Rattle.lines.specs.Lines.{table_line}
use Rattle.lines.proofs.Outcomes.{nothing}
use Rattle.lines.proofs.Rows.{tabled}
use Rattle.lines.proofs.table.Goals as goal

pub returns-then-nums-ne0 : goal.returns-then-nums-ne0
unfolding table_line
returns-then-nums-ne0 g c = nothing _ _ (rw (ne_eqb _ _ c.if-nums-ne0.true))

pub returns : goal.returns
returns g c =
    let past = c.before in
    let sums = past.before in
    let read = sums.before in
    let else1 = read.before in
    let s = else1.before in
    let p = c.row in
    let u = sums.sums-s in
    let v = past.sums-past in
    tabled s.args.register.now s.args.nums.now read.numbers_in-numbers.result.now _ _ u.result.s1 u.result.s2 v.result.s2 s.requires.0 else1.if-nums-ne0.false read.numbers_in-numbers.ensures.0 refl refl u.ensures.0 u.ensures.1 v.ensures.1 (omega (arith, p.ensures.room)) p.ensures.text
