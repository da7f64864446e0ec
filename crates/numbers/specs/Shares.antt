-- Floor and ceil parts, and the shares of an entry's days.
use Rattle.std.specs.Prelude.{ℕ, suc, ◌/◌, ℤ, pos, negsuc, neg_ℤ, ◌-ℤ◌, ◌*ℤ◌}

-- z / n for n above 0, rounded towards minus infinity: -(a + 1) rounds to -(a / n + 1).
abbrev pub floor_div : ℤ → ℕ → ℤ
floor_div (pos a) n = pos (a / n)
floor_div (negsuc a) n = negsuc (a / n)

-- The floor part of a total: floor(total × k / n). The split of a load goes by it.
unfoldable pub floor_part : ℤ → ℕ → ℕ → ℤ
floor_part total n k = floor_div (total *ℤ pos k) n

-- The ceil part: ceil(total × k / n), ceil towards plus infinity, which is -floor(-total × k / n).
unfoldable pub ceil_part : ℤ → ℕ → ℕ → ℤ
ceil_part total n k = neg_ℤ (floor_part (neg_ℤ total) n k)

-- The energy of the first k of the n days of an entry of energy E: the one place that says how an entry is rounded. By
-- the ceil part, so that an odd megajoule goes early (document 02, f).
unfoldable pub partial_energy : ℤ → ℕ → ℕ → ℤ
partial_energy E n k = ceil_part E n k

-- The share of day k, counted from 0 (ours; document 01, "The day book", rounded as document 02 asks).
unfoldable pub share : ℤ → ℕ → ℕ → ℤ
share E n k = partial_energy E n (suc k) -ℤ partial_energy E n k
