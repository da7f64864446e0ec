-- MIRNs that differ, tested by the points' indices.
use Rattle.std.specs.Prelude.{Bool, not, List, ℕ, suc, ◌+◌, ◌-◌, eqb, ℤ}
use Rattle.numbers.specs.Rows.{all}
use Rattle.daybook.specs.declared.Edition.{Edition}
use Rattle.layout.specs.Layout.{place_of, num_at}

-- The MIRN of point i is that of no later point, of n.
unfoldable pub later_differ : Edition → List ℤ → ℕ → ℕ → Bool
later_differ ed t n i = all (λ j. not (eqb (num_at t (place_of ed i)) (num_at t (place_of ed (suc i + j))))) (n - suc i)
