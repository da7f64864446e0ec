-- The last off span, by its index: it is closed, and its on day is a day. Assumes nothing.
use mathlib.Core.Path.{◌≡◌, refl, ap}
use mathlib.Core.Option.{Option, some}
use mathlib.Core.List.{List, [], ◌∷◌, ◌++◌}
use Prim.Native.Nat.{ℕ, zero, suc, ◌≤◌}
use native.Mathlib.Omega.{arith}
use lib.ListN.{length, get_or, take}
use Rattle.lists.specs.InnerSteps.{closed}
use Rattle.lists.specs.InnerWell.{Spans, nospan, still, ended}
use Rattle.layout.proofs.Cells.{no_off}

pub closed_last : (d : ℕ) (l : List (ℕ × Option ℕ)) (k : ℕ) → length l ≡ suc k
    → closed d l ≡ take k l ++ (((get_or l k no_off).0, some d) ∷ [])
unfolding closed
closed_last d [] k e = absurd (omega arith)
closed_last d (x ∷ []) zero e = refl
closed_last d (x ∷ []) (suc k) e = absurd (omega arith)
closed_last d (x ∷ y ∷ l) zero e = absurd (omega arith)
closed_last d (x ∷ y ∷ l) (suc k) e = ap (λ m. x ∷ m) (closed_last d (y ∷ l) k (omega arith))

-- an on day that is there is a day
pub on_day_lem : {lo : ℕ} {l : List (ℕ × Option ℕ)} → Spans lo l → (k d : ℕ) → (get_or l k no_off).1 ≡ some d → d ≤ 39999
on_day_lem nospan k d e = let z : 0 ≡ d = cc in omega arith
on_day_lem (still a b) zero d e = let z : ◌≡◌ {A = ℕ} 0 1 = cc in absurd (omega arith)
on_day_lem (still a b) (suc k) d e = let z : 0 ≡ d = cc in omega arith
on_day_lem (ended {on = on} a b c r) zero d e = let z : on ≡ d = cc in omega arith
on_day_lem (ended a b c r) (suc k) d e = on_day_lem r k d e
