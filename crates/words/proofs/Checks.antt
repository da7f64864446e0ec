-- The sums of words as a fold. Assumes nothing.
use Rattle.std.proofs.Common.{◌≡◌, ℕ, List, [], ◌∷◌, refl}
use Rattle.std.specs.List.{fold}
use Rattle.words.specs.declared.Checksum.{Checksum}
use Rattle.words.specs.Sums.{sums_from, with_more}

pub sums_fold : (ws : List ℕ) (a : Checksum) → ((fold with_more a ws).s1, (fold with_more a ws).s2) ≡ sums_from a.s1 a.s2 ws
unfolding sums_from
sums_fold [] a = refl
sums_fold (x ∷ xs) a = sums_fold xs (with_more a x)
