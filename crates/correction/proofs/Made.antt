-- An array made by a function of the index alone. Assumes nothing.
use Rattle.std.proofs.Common.{◌≡◌, Bool, true, false, List, ℕ, zero, suc, ◌+◌, ◌<◌, ◌≤◌, eqb, map, refl, get_or, subst, arith, ◌∙◌}
use Rattle.std.specs.Array.{IsFromFnResultFrom, IsFromFnResult}
use Rattle.std.specs.List.{range_with_len}
use Rattle.std.proofs.lemmas.List.FromFn.{fill_by_all}
use borrow.Author.Tests.{eqb-true, eqb-false}
use denote.Param.Members.{Mut, Called}

module _ {F : Type 0} (g : Mut F (ℕ × Unit {0}) Bool) (h : ℕ → Bool) (f : F) (step : (k : ℕ) (y : Bool) (q : F) → Called g f (k, tt) y q → (q ≡ f) × (y ≡ h k)) where
  each : (ys : List Bool) (i n : ℕ) → IsFromFnResultFrom g f ys i n → (k : ℕ) → i ≤ k → k < i + n → get_or ys k false ≡ h k
  each ys i zero m k low high = absurd (omega arith)
  each ys i (suc n) (q, y, at, made, rest) k low high =
      go (eqb i k) refl
      (each ys (i + 1) n (subst (λ q. IsFromFnResultFrom g q ys (i + 1) n) (step i y q made).0 rest) k)
    where
      go : (t : Bool) → eqb i k ≡ t → (i + 1 ≤ k → k < i + 1 + n → get_or ys k false ≡ h k) → get_or ys k false ≡ h k
      go true e later = subst (λ k. get_or ys k false ≡ h k) (eqb-true i k e) (at.1 false ∙ (step i y q made).1)
      go false e later = let ne : i ≡ k → ⊥ = eqb-false i k e in later (omega arith) (omega arith)

  pub made_is : (ys : List Bool) (n : ℕ) → IsFromFnResult g f ys n → ys ≡ map h (range_with_len 0 n)
  made_is ys n m = fill_by_all h ys n false m.long (λ k l. each ys 0 n m.each k (omega arith) (omega arith))
