use mathlib.Core.Path.{◌≡◌, sym}
use native.Mathlib.Omega.{arith}
use borrow.Author.Rules.{rules}
use Rattle.point.specs.InnerTests.{rec_row}
use Rattle.readings.specs.InnerRecords.{partial_of}
use Rattle.readings.proofs.Part.{record_ok}
use Rattle.readings.proofs.Records.{before_apart, part_none}
use Rattle.readings.proofs.Energy.{parts, parts_near, parts_are}
use Rattle.readings.proofs.record_energy.Goals as goal

pub returns-then-y-start : goal.returns-then-y-start
returns-then-y-start c =
    let row = rec_row c.args.part.now.numbers.now c.args.k in
    let ok = record_ok c.args.part.now.is_sound c.args.k c.requires.0 in
    let start : c.bits_at-start.result ≡ row.start = c.bits_at-start.ensures.same (omega arith) in
    let end : c.bits_at-end.result ≡ row.end = c.bits_at-end.ensures.same (omega arith) in
    let apart = rw (start, end) at c.if-y-start.true in
    (sym (part_none partial_of c.args.x c.args.y row (before_apart row.start row.end c.args.x c.args.y c.requires.1 apart)), search rules)

pub days_passed-i-requires : goal.days_passed-i-requires
days_passed-i-requires c =
    let ok = record_ok c.args.part.now.is_sound c.args.k c.requires.0 in
    omega (arith, c.bits_at-start.ensures.same (omega arith), c.bits_at-end.ensures.same (omega arith))

pub days_passed-j-requires : goal.days_passed-j-requires
days_passed-j-requires c =
    let ok = record_ok c.args.part.now.is_sound c.args.k c.requires.0 in
    omega (arith, c.bits_at-start.ensures.same (omega arith), c.bits_at-end.ensures.same (omega arith))

pub overflow_add-n : goal.overflow_add-n
overflow_add-n c =
    let ok = record_ok c.args.part.now.is_sound c.args.k c.requires.0 in
    let end = c.bits_at-end.ensures.same (omega arith) in
    search rules

pub partial_energy-requires : goal.partial_energy-requires
partial_energy-requires c =
    let ok = record_ok c.args.part.now.is_sound c.args.k c.requires.0 in
    omega (arith, c.bits_at-start.ensures.same (omega arith), c.bits_at-end.ensures.same (omega arith))

pub partial_energy-requires-2 : goal.partial_energy-requires-2
partial_energy-requires-2 c =
    let ok = record_ok c.args.part.now.is_sound c.args.k c.requires.0 in
    omega (arith, c.bits_at-start.ensures.same (omega arith), c.bits_at-end.ensures.same (omega arith))

pub overflow_sub-result : goal.overflow_sub-result
overflow_sub-result c =
    let ok = record_ok c.args.part.now.is_sound c.args.k c.requires.0 in
    (parts_near ok (parts (c.bits_at-start.ensures.same (omega arith)) (c.bits_at-end.ensures.same (omega arith)) c.get_energy-u.ensures c.days_passed-i.ensures.0 c.days_passed-j.ensures.0 c.partial_energy-2.ensures.0 c.partial_energy.ensures.0)).0

pub returns : goal.returns
returns c =
    let ok = record_ok c.args.part.now.is_sound c.args.k c.requires.0 in
    let p = parts {e = rec_row c.args.part.now.numbers.now c.args.k} (c.bits_at-start.ensures.same (omega arith)) (c.bits_at-end.ensures.same (omega arith)) c.get_energy-u.ensures c.days_passed-i.ensures.0 c.days_passed-j.ensures.0 c.partial_energy-2.ensures.0 c.partial_energy.ensures.0 in
    (parts_are ok p, omega (arith, (parts_near ok p).1))
