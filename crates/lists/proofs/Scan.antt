-- A list whose keys ascend is what one upward scan of the days gives back.
use mathlib.Core.Path.{◌≡◌, refl, ◌∙◌, ap}
use mathlib.Core.Bool.{Bool, true, false, cond}
use mathlib.Core.Option.{Option, none, some}
use mathlib.Core.List.{List, [], ◌∷◌}
use Prim.Native.Nat.{ℕ, zero, suc, ◌+◌, ◌≤◌, ◌<◌}
use native.Mathlib.Omega.{arith}
use lib.Dec.{eqb}
use borrow.Author.Tests.{eqb-true, eqb-false, ne_eqb}
use Rattle.numbers.specs.Search.{maybe}
use Rattle.daybook.specs.Book.{gather}

module _ {X : Type 0} (key : X → ℕ) where
  -- the element whose key is d
  unfoldable pub at : List X → ℕ → Option X
  at [] d = none
  at (x ∷ l) d = cond (eqb (key x) d) (some x) (at l d)

  -- keys ascend strictly, from lo on and below hi
  pub data Asc (hi : ℕ) : ℕ → List X → Type 0 where
    nil : {lo : ℕ} → Asc hi lo []
    cons : {lo : ℕ} {x : X} {l : List X} → lo ≤ key x → key x < hi → Asc hi (suc (key x)) l → Asc hi lo (x ∷ l)

  pub asc_widen : {hi lo lo' : ℕ} {l : List X} → lo ≤ lo' → Asc hi lo' l → Asc hi lo l
  asc_widen h nil = nil
  asc_widen {lo = lo} h (cons {x = x} a b r) = cons {lo = lo} {x = x} (omega arith) b r

  pub at_none : {hi lo : ℕ} {l : List X} → Asc hi lo l → (d : ℕ) → d < lo → at l d ≡ none
  unfolding at
  at_none nil d h = refl
  at_none (cons {x = x} a b r) d h = rw (ne_eqb (key x) d (omega arith)) (at_none r d (omega arith))

  pub scan : (g : ℕ → Option X) (n d hi : ℕ) (l : List X) → hi ≡ d + n → Asc hi d l → ((e : ℕ) → d ≤ e → e < hi → g e ≡ at l e) → gather g d n ≡ l
  unfolding at gather
  scan g zero d hi l q nil f = refl
  scan g zero d hi l q (cons a b r) f = absurd (omega arith)
  scan g (suc n) d hi l q nil f =
      ap (maybe (gather g (suc d) n) (λ a. a ∷ gather g (suc d) n)) (f d (omega arith) (omega arith))
      ∙ scan g n (suc d) hi [] (omega arith) nil (λ e h k. f e (omega arith) k)
  scan g (suc n) d hi l q (cons {x = x} {l = r} a b s) f = go (eqb (key x) d) refl (λ l. scan g n (suc d) hi l (omega arith))
    where
      go : (t : Bool) → eqb (key x) d ≡ t → ((l : List X) → Asc hi (suc d) l → ((e : ℕ) → suc d ≤ e → e < hi → g e ≡ at l e) → gather g (suc d) n ≡ l) → gather g d (suc n) ≡ x ∷ r
      go true e ih =
          let k : key x ≡ d = eqb-true (key x) d e in
          let here : g d ≡ some x = f d (omega arith) (omega arith) ∙ rw e refl in
          ap (maybe (gather g (suc d) n) (λ a. a ∷ gather g (suc d) n)) here
          ∙ ap (λ l. x ∷ l) (ih r (rw k at s) (λ y h m. f y (omega arith) m ∙ rw (ne_eqb (key x) y (omega arith)) refl))
      go false e ih =
          let k : ¬ (key x ≡ d) = eqb-false (key x) d e in
          let here : g d ≡ none = f d (omega arith) (omega arith) ∙ rw e (at_none s d (omega arith)) in
          ap (maybe (gather g (suc d) n) (λ a. a ∷ gather g (suc d) n)) here
          ∙ ih (x ∷ r) (cons (omega arith) b s) (λ y h m. f y (omega arith) m)
