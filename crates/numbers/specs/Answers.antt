-- A call's answer as document 01's numbers, the refusal first.
use Rattle.std.specs.Prelude.{Bool, false, not, List, [], ◌∷◌, ℤ, pos}
use Rattle.numbers.specs.Naturals.{same_z}

-- Does an answer begin with a refusal, a number other than 0?
abbrev pub refused : List ℤ → Bool
refused [] = false
refused (r ∷ l) = not (same_z r (pos 0))
