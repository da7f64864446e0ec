use Rattle.std.proofs.Common.{◌≡◌, length, take, drop}
use Rattle.journal.specs.Text.{words_of, numbers_of}
use Rattle.journal.proofs.Line.{behind}
use Rattle.journal.proofs.take_numbers.Given as goal

abbrev pub invariant-loop-word : goal.invariant-loop-word
invariant-loop-word l =
    (l.n ≡ length l.yielded) × (length l.nums ≡ length l.initial.nums) × (behind (take l.n l.nums) (numbers_of (drop l.n (words_of (drop l.at l.line)))) ≡ numbers_of (words_of (drop l.at l.line)))
