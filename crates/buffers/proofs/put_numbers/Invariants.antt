use mathlib.Core.Path.{◌≡◌}
use mathlib.Core.List.{map}
use lib.IntN.{pos}
use Rattle.words.specs.Tables.{encoded_into}
use Rattle.buffers.proofs.put_numbers.Given as goal

abbrev pub invariant-loop-k : goal.invariant-loop-k
invariant-loop-k l = l.b ≡ encoded_into l.initial.b 0 (map pos l.numbers) 0 l.k
