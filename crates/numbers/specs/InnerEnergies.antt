-- Energies raised by 1,000,000, so that the code inside is unsigned.
use Rattle.std.specs.Prelude.{cond, ℕ, ◌+◌, ◌-◌, ◌^◌, leb, ltb, ℤ, pos, negsuc}
use lib.IntN.{sub_ℕ}

-- An energy from -1,000,000 to 1,000,000, raised by 1,000,000. Any other number is the marker.
abbrev pub bias_of : ℤ → ℕ
bias_of (pos n) = cond (leb n 1000000) (n + 1000000) (2 ^ 63)
bias_of (negsuc n) = cond (ltb n 1000000) (999999 - n) (2 ^ 63)

-- And back: the energy that u is raised from.
abbrev pub energy_of : ℕ → ℤ
energy_of u = sub_ℕ u 1000000
