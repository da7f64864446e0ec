use mathlib.Core.Path.{◌≡◌, sym, ap₂, ◌∙◌}
use Prim.Native.Nat.{◌-◌}
use native.Mathlib.Omega.{arith}
use lib.IntN.{pos}
use borrow.Author.Rules.{rules}
use Rattle.point.specs.InnerTests.{rec_row}
use Rattle.readings.specs.InnerReadings.{days_passed}
use Rattle.readings.specs.InnerRecords.{day_count}
use Rattle.readings.proofs.Part.{record_ok}
use Rattle.readings.proofs.Records.{before_up, before_apart, part_none}
use Rattle.readings.proofs.Days.{count_is_lem}
use Rattle.readings.proofs.record_days.Goals as goal

pub returns-then-y-start : goal.returns-then-y-start
returns-then-y-start c =
    let row = rec_row c.args.part.now.numbers.now c.args.k in
    let ok = record_ok c.args.part.now.is_sound c.args.k c.requires.0 in
    let start : c.bits_at-start.result ≡ row.start = c.bits_at-start.ensures.same (omega arith) in
    let end : c.bits_at-end.result ≡ row.end = c.bits_at-end.ensures.same (omega arith) in
    let apart = rw (start, end) at c.if-y-start.true in
    (sym (part_none day_count c.args.x c.args.y row (before_apart row.start row.end c.args.x c.args.y c.requires.1 apart)), search rules)

pub days_passed-requires : goal.days_passed-requires
days_passed-requires c =
    let ok = record_ok c.args.part.now.is_sound c.args.k c.requires.0 in
    omega (arith, c.bits_at-start.ensures.same (omega arith), c.bits_at-end.ensures.same (omega arith))

pub days_passed-requires-2 : goal.days_passed-requires-2
days_passed-requires-2 c =
    let ok = record_ok c.args.part.now.is_sound c.args.k c.requires.0 in
    omega (arith, c.bits_at-start.ensures.same (omega arith), c.bits_at-end.ensures.same (omega arith))

pub overflow_sub-result : goal.overflow_sub-result
overflow_sub-result c =
    omega (arith, before_up c.bits_at-start.result c.bits_at-end.result c.args.x c.args.y c.requires.1)

pub returns : goal.returns
returns c =
    let row = rec_row c.args.part.now.numbers.now c.args.k in
    let ok = record_ok c.args.part.now.is_sound c.args.k c.requires.0 in
    let start : c.bits_at-start.result ≡ row.start = c.bits_at-start.ensures.same (omega arith) in
    let end : c.bits_at-end.result ≡ row.end = c.bits_at-end.ensures.same (omega arith) in
    let j = c.days_passed.ensures.0 ∙ ap₂ (λ a b. days_passed a b c.args.y) start end in
    let i = c.days_passed-2.ensures.0 ∙ ap₂ (λ a b. days_passed a b c.args.x) start end in
    (ap₂ (λ j i. pos (j - i)) j i ∙ count_is_lem row c.args.x c.args.y c.requires.1, omega arith)
