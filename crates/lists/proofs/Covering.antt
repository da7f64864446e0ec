-- Which registration covers a day: none before the first, and from the first on exactly one.
use mathlib.Core.Path.{◌≡◌, refl, ap}
use mathlib.Core.Bool.{Bool, true, false}
use mathlib.Core.List.{List, [], ◌∷◌}
use Prim.Native.Nat.{ℕ, suc, ◌≤◌, ◌<◌}
use native.Mathlib.Omega.{arith}
use lib.Dec.{leb}
use borrow.Author.Tests.{leb-true, leb-false, le-leb, lt-leb, lt-ltb, le-ltb}
use Rattle.lists.specs.Lists.{user_on, covering}
use Rattle.lists.specs.InnerWell.{Regs, noreg, reg, StartsOn, starts}
use Rattle.lists.proofs.Registrations.{user_before, user_since}

-- None before the first.
pub covering_none : {v lo : ℕ} {l : List (ℕ × ℕ)} → Regs v lo l → (d : ℕ) → d < lo → covering d l ≡ []
unfolding covering
covering_none noreg d h = refl
covering_none (reg {x = x} a b c e n r) d h = rw (lt-leb x.0 d (omega arith)) (covering_none r d (omega arith))

covering_since : {l : List (ℕ × ℕ)} (x : ℕ × ℕ) → Regs x.1 (suc x.0) l → (d : ℕ) → x.0 ≤ d
    → (s : ℕ) × (s ≤ d) × (covering d (x ∷ l) ≡ (s, user_on x.1 l d) ∷ [])
unfolding covering user_on
covering_since x noreg d h = (x.0, h, rw (le-leb x.0 d h))
covering_since x (reg {x = y} {l = l} a b c e n r) d h = go (leb y.0 d) refl (λ g. covering_since y r d g)
  where
    whole : Regs x.1 y.0 (y ∷ l)
    whole = reg {lo = y.0} {x = y} (omega arith) b c e n r

    go : (t : Bool) → leb y.0 d ≡ t → (y.0 ≤ d → (s : ℕ) × (s ≤ d) × (covering d (y ∷ l) ≡ (s, user_on y.1 l d) ∷ []))
        → (s : ℕ) × (s ≤ d) × (covering d (x ∷ y ∷ l) ≡ (s, user_on x.1 (y ∷ l) d) ∷ [])
    go true k ih =
        let g : y.0 ≤ d = leb-true y.0 d k in
        let i : (s : ℕ) × (s ≤ d) × (covering d (y ∷ l) ≡ (s, user_on y.1 l d) ∷ []) = ih g in
        (i.0, i.1, rw (le-leb x.0 d h, le-ltb d y.0 g, user_since x.1 y l d g) i.2)
    go false k ih =
        let g : d < y.0 = leb-false y.0 d k in
        (x.0, h, rw (le-leb x.0 d h, lt-ltb d y.0 g, user_before whole x.1 d g) (ap (λ m. x ∷ m) (covering_none whole d g)))

-- From the first on exactly one registration covers a day: it has started, and its User is the day's.
pub covering_one : {lo : ℕ} {l : List (ℕ × ℕ)} → Regs 0 lo l → StartsOn lo l → (d : ℕ) → lo ≤ d
    → (s : ℕ) × (s ≤ d) × (covering d l ≡ (s, user_on 0 l d) ∷ [])
covering_one (reg {x = x} {l = l} a b c e n r) (starts q) d h =
    let g : x.0 ≤ d = omega (arith, q) in
    rw (user_since 0 x l d g) (covering_since x r d g)
covering_one {lo = lo} noreg x9 d h = elim x9 [ ]
