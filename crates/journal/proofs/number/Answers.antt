use Rattle.std.proofs.Common.{arith}
use Rattle.journal.specs.Text.{value_of_digits, negative, non_negative}
use Rattle.journal.proofs.Numbers.{number_minus, number_plain, of_nothing, of_some, negative_large, non_negative_large, negative_checked, non_negative_checked}
use Rattle.journal.proofs.number.Goals as goal

pub returns-in_err-magnitude-in-Some : goal.returns-in_err-magnitude-in-Some
returns-in_err-magnitude-in-Some c =
    let h = c.in-Some.ensures.cases in
    let digits = value_of_digits c.in-Some.digits.now in
    rw (c.from_residual.ensures, number_minus c.args.s.now h.0, ← h.1) (of_nothing negative digits (λ m h. negative_large m (omega arith)) c.in_err-magnitude-in-Some.ensures)

pub returns-in_err-magnitude-in-None : goal.returns-in_err-magnitude-in-None
returns-in_err-magnitude-in-None c =
    let digits = value_of_digits c.args.s.now in
    rw (c.from_residual-in_err-magnitude-in-None.ensures, number_plain c.args.s.now c.in-None.ensures.cases) (of_nothing non_negative digits (λ m h. non_negative_large m (omega arith)) c.in_err-magnitude-in-None.ensures)

pub returns-in_ok-magnitude-in-Some : goal.returns-in_ok-magnitude-in-Some
returns-in_ok-magnitude-in-Some c =
    let h = c.in-Some.ensures.cases in
    let m = c.in_ok-magnitude-in-Some in
    let digits = value_of_digits c.in-Some.digits.now in
    rw (negative_checked m.field-0 c.checked_sub_unsigned.result c.checked_sub_unsigned.ensures, number_minus c.args.s.now h.0, ← h.1) (of_some negative digits m.field-0 m.ensures)

pub returns-in_ok-magnitude-in-None : goal.returns-in_ok-magnitude-in-None
returns-in_ok-magnitude-in-None c =
    let m = c.in_ok-magnitude-in-None in
    let digits = value_of_digits c.args.s.now in
    rw (c.ok.ensures.value, non_negative_checked m.field-0 c.try_from.result c.try_from.ensures, number_plain c.args.s.now c.in-None.ensures.cases) (of_some non_negative digits m.field-0 m.ensures)
