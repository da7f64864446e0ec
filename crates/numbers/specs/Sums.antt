-- Sums over a range of days or indices.
use Rattle.std.specs.Prelude.{ℕ, zero, suc, ◌-◌, ℤ, pos, ◌+ℤ◌}

-- f a + f (a + 1) + .. , n terms.
unfoldable pub sum_from : (ℕ → ℤ) → ℕ → ℕ → ℤ
sum_from f a zero = pos 0
sum_from f a (suc n) = f a +ℤ sum_from f (suc a) n

-- Over a to b, both included; nothing where b is below a.
abbrev pub sum_over : (ℕ → ℤ) → ℕ → ℕ → ℤ
sum_over f a b = sum_from f a (suc b - a)
