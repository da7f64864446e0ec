use Rattle.std.proofs.Common.{◌≡◌, ◌<◌, ◌^◌, drop}
use Rattle.journal.specs.Text.{digits_after, value_of_digits}
use Rattle.journal.specs.InnerText.{fitting}
use Rattle.journal.proofs.magnitude.Given as goal

abbrev pub invariant-loop-b : goal.invariant-loop-b
invariant-loop-b l =
    (l.n < 2 ^ 64) × (fitting (digits_after l.n (drop l.b-index l.digits)) ≡ fitting (value_of_digits l.digits))
