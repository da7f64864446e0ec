-- Signed numbers as naturals: unsigned code reads every number of a table through these.
use Rattle.std.specs.Prelude.{Bool, false, ℕ, ◌^◌, eqb, ℤ, pos, negsuc}

-- A number as a natural. A negative one is the marker 2 ^ 63, which is above every bound of the register.
abbrev pub nat_of : ℤ → ℕ
nat_of (pos n) = n
nat_of (negsuc n) = 2 ^ 63

-- Are two numbers equal?
abbrev pub same_z : ℤ → ℤ → Bool
same_z (pos a) (pos b) = eqb a b
same_z (pos a) (negsuc b) = false
same_z (negsuc a) (pos b) = false
same_z (negsuc a) (negsuc b) = eqb a b
