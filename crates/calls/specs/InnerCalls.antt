-- A call's numbers as the code has them.
use Rattle.std.specs.Prelude.{List, [], ◌∷◌, ℤ}
use Rattle.daybook.specs.FromNumbers.{num}

-- The first seven numbers of a line, 0 where it is shorter.
abbrev pub seven_of : List ℤ → List ℤ
seven_of xs = num xs 0 ∷ num xs 1 ∷ num xs 2 ∷ num xs 3 ∷ num xs 4 ∷ num xs 5 ∷ num xs 6 ∷ []
