-- Check sums of a run of words, numbers below 2^64.
use Rattle.std.specs.Prelude.{ℕ, ◌+◌, ◌%◌, ◌^◌, List, [], ◌∷◌}
use Rattle.words.specs.declared.Checksum.{Checksum}

-- The sum of the words, and the sum of those running sums, both modulo 2^64 and from s1 and s2 on.
unfoldable pub sums_from : ℕ → ℕ → List ℕ → ℕ × ℕ
sums_from s1 s2 [] = (s1, s2)
sums_from s1 s2 (x ∷ xs) = sums_from ((s1 + x) % 2 ^ 64) ((s2 + (s1 + x) % 2 ^ 64) % 2 ^ 64) xs

unfoldable pub sums_of : List ℕ → ℕ × ℕ
sums_of xs = sums_from 0 0 xs

-- Sums, with one word more.
abbrev pub with_more : Checksum → ℕ → Checksum
with_more s x = let s1 : ℕ = (s.s1 + x) % 2 ^ 64 in record { s1 = s1; s2 = (s.s2 + s1) % 2 ^ 64 }
