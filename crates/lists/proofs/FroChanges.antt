-- Days whose FRO a correction changes, found by registrations, for any test of a User (document 02, j). Function
-- extensionality is used; no axiom is.
use mathlib.Core.Path.{◌≡◌, refl, sym, ◌∙◌, ap, fun_ext}
use mathlib.Core.Bool.{Bool, true, false, not, ◌&&◌, ◌||◌, cond, and-true, and-false, or-true, or-false, false≢true}
use mathlib.Core.List.{List, [], ◌∷◌}
use Prim.Native.Nat.{ℕ, suc, ◌≤◌, ◌<◌, max}
use native.Mathlib.Omega.{arith}
use lib.Dec.{leb, ltb, eqb}
use borrow.Author.Tests.{leb-true, leb-false, ltb-true, eqb-true, eqb-false, le-leb, lt-leb, lt-ltb, le-ltb, eq-eqb, ne_eqb}
use Rattle.numbers.specs.Search.{maybe, is_some, first_from}
use Rattle.numbers.proofs.Bools.{iff}
use Rattle.numbers.proofs.Search.{first_none, first_some}
use Rattle.daybook.specs.Book.{days, from_on, last_of}
use Rattle.daybook.specs.Corrections.{fro_changed, affected}
use Rattle.lists.specs.Lists.{user_on, next_after}
use Rattle.lists.specs.InnerSteps.{latest_of, some_user}
use Rattle.lists.specs.InnerWell.{Regs, noreg, reg, StartsOn, starts}
use Rattle.lists.proofs.Registrations.{user_before, user_since, last_after}

-- ---- a day from d on, and a registration that has such a day

module _ (test : ℕ → Bool) (d : ℕ) where
  -- the registration that holds the day has it
  user_some : {l : List (ℕ × ℕ)} (x : ℕ × ℕ) → Regs x.1 (suc x.0) l → (e : ℕ) → d ≤ e → x.0 ≤ e
      → test (user_on x.1 l e) ≡ true → some_user test d (x ∷ l) ≡ true
  unfolding some_user user_on
  user_some x noreg e h k t = rw t
  user_some x (reg {x = y} {l = m} a b c f n r) e h k t = go (leb y.0 e) refl (λ g t. user_some y r e h g t)
    where
      whole : Regs x.1 y.0 (y ∷ m)
      whole = reg {lo = y.0} {x = y} (omega arith) b c f n r

      go : (s : Bool) → leb y.0 e ≡ s → (y.0 ≤ e → test (user_on y.1 m e) ≡ true → some_user test d (y ∷ m) ≡ true)
          → some_user test d (x ∷ y ∷ m) ≡ true
      go true q ih =
          let g : y.0 ≤ e = leb-true y.0 e q in
          ap (λ b. (ltb d y.0 && test x.1) || b) (ih g (ap test (sym (user_since x.1 y m e g)) ∙ t))
          ∙ or-true (ltb d y.0 && test x.1)
      go false q ih =
          let g : e < y.0 = leb-false y.0 e q in
          rw (lt-ltb d y.0 (omega arith), ap test (sym (user_before whole x.1 e g)) ∙ t)

  -- a day from d and from x's start on, up to 40,000, of whose User the test holds
  abbrev Day : ℕ × ℕ → List (ℕ × ℕ) → Type 0
  Day x l = (e : ℕ) × (d ≤ e) × (x.0 ≤ e) × (e ≤ 40000) × (test (user_on x.1 l e) ≡ true)

  -- where a registration has such a day there is one
  some_user_lem : {l : List (ℕ × ℕ)} (x : ℕ × ℕ) → Regs x.1 (suc x.0) l → d ≤ 40000 → x.0 ≤ 40000
      → some_user test d (x ∷ l) ≡ true → Day x l
  unfolding some_user user_on
  some_user_lem x noreg h k s = (max d x.0, omega arith, omega arith, omega arith, one (test x.1) s)
    where
      one : (b : Bool) → (b || false) ≡ true → b ≡ true
      one true e = refl
      one false e = e
  some_user_lem x (reg {x = y} {l = m} a b c f n r) h k s =
      go (ltb d y.0) (test x.1) refl refl s (λ s. some_user_lem y r h b s)
    where
      whole : Regs x.1 y.0 (y ∷ m)
      whole = reg {lo = y.0} {x = y} (omega arith) b c f n r

      later : Day y m → Day x (y ∷ m)
      later i = (i.0, i.1, omega arith, i.3, ap test (user_since x.1 y m i.0 i.2) ∙ i.4)

      go : (p t : Bool) → ltb d y.0 ≡ p → test x.1 ≡ t → ((p && t) || some_user test d (y ∷ m)) ≡ true
          → (some_user test d (y ∷ m) ≡ true → Day y m) → Day x (y ∷ m)
      go true true p t s ih =
          let g : max d x.0 < y.0 = omega (arith, ltb-true d y.0 p) in
          (max d x.0, omega arith, omega arith, omega arith, ap test (user_before whole x.1 (max d x.0) g) ∙ t)
      go true false p t s ih = later (ih s)
      go false t p q s ih = later (ih s)

-- ---- by days and by registrations

-- A User of whom the test holds was FRO on a day whose FRO User u changes, from day d on, if a registration of such a
-- User, other than u, has a day from d on.
pub fro_changed_lem : {lo : ℕ} {l : List (ℕ × ℕ)} → Regs 0 lo l → StartsOn lo l → (test : ℕ → Bool) (d u : ℕ) → lo ≤ d
    → d ≤ 40000
    → fro_changed test (user_on 0 l) (from_on d u (user_on 0 l)) ≡ some_user (λ v. test v && not (eqb v u)) d l
unfolding fro_changed from_on
fro_changed_lem {lo} (reg {x = x} {l = l} a b c e n r) (starts s) test d u h k = iff _ _ found given
  where
    other : ℕ → Bool
    other v = test v && not (eqb v u)

    before : ℕ → ℕ
    before = user_on 0 (x ∷ l)

    changed : ℕ → Bool
    changed i = test (before i) && not (eqb (before i) (cond (leb d i) u (before i)))

    early : (i : ℕ) → leb d i ≡ false → changed i ≡ false
    early i q = rw (q, eq-eqb (before i) (before i) refl) (and-false (test (before i)))

    late : (i : ℕ) → leb d i ≡ true → changed i ≡ other (before i)
    late i q = rw q

    since : (i : ℕ) → d ≤ i → before i ≡ user_on x.1 l i
    since i q = user_since 0 x l i (omega (arith, s))

    none_changed : some_user other d (x ∷ l) ≡ false → (i : ℕ) → changed i ≡ false
    none_changed q i = by (leb d i) refl
      where
        is : (t : Bool) → d ≤ i → other (before i) ≡ t → t ≡ false
        is true g f =
            absurd (false≢true (sym q ∙ user_some other d x r i g (omega (arith, s)) (ap other (sym (since i g)) ∙ f)))
        is false g f = refl

        by : (t : Bool) → leb d i ≡ t → changed i ≡ false
        by true g = late i g ∙ is (other (before i)) (leb-true d i g) refl
        by false g = early i g

    found : is_some (first_from changed 0 days) ≡ true → some_user other d (x ∷ l) ≡ true
    found q = by (some_user other d (x ∷ l)) refl
      where
        by : (t : Bool) → some_user other d (x ∷ l) ≡ t → t ≡ true
        by true g = refl
        by false g =
            absurd (false≢true (sym (ap is_some (first_none changed 0 days (λ i v w. none_changed g i))) ∙ q))

    given : some_user other d (x ∷ l) ≡ true → is_some (first_from changed 0 days) ≡ true
    given q =
        let i = some_user_lem other d x r k b q in
        first_some changed 0 days i.0 (omega arith) (omega (arith, i.3))
        (late i.0 (le-leb d i.0 i.1) ∙ ap other (since i.0 i.1) ∙ i.4)
fro_changed_lem {lo = lo} noreg x13 test d u h k = elim x13 [ ]

-- ---- an affected User

-- A test that fails everywhere holds of no User.
some_never : (d : ℕ) (l : List (ℕ × ℕ)) → some_user (λ v. false) d l ≡ false
unfolding some_user
some_never d [] = refl
some_never d (x ∷ l) = rw (and-false (next_after d l), some_never d l)

-- The User named is not affected, another is by a day from d on.
pub affected_is : {lo : ℕ} {l : List (ℕ × ℕ)} → Regs 0 lo l → StartsOn lo l → (d u w : ℕ) → lo ≤ d → d ≤ 40000
    → affected (user_on 0 l) (from_on d u (user_on 0 l)) w ≡ (not (eqb w u) && some_user (eqb w) d l)
unfolding affected
affected_is {l = l} r s d u w h k = fro_changed_lem r s (eqb w) d u h k ∙ go (eqb w u) refl
  where
    same : (b : Bool) → eqb w u ≡ b → (v : ℕ) → (eqb w v && not (eqb v u)) ≡ (not b && eqb w v)
    same b q v = by (eqb w v) refl
      where
        by : (t : Bool) → eqb w v ≡ t → (t && not (eqb v u)) ≡ (not b && t)
        by true e = rw (← eqb-true w v e, q) (sym (and-true (not b)))
        by false e = sym (and-false (not b))

    go : (b : Bool) → eqb w u ≡ b → some_user (λ v. eqb w v && not (eqb v u)) d l ≡ (not b && some_user (eqb w) d l)
    go true q = ap (λ test. some_user test d l) (fun_ext (same true q)) ∙ some_never d l
    go false q = ap (λ test. some_user test d l) (fun_ext (same false q))

-- ---- a correction that changes no day's FRO

module _ (d u : ℕ) where
  abbrev other : ℕ → Bool
  other v = not (eqb v u)

  others_since : {l : List (ℕ × ℕ)} (x : ℕ × ℕ) → Regs x.1 (suc x.0) l → d ≤ x.0 → eqb x.1 u ≡ false
      → some_user other d (x ∷ l) ≡ true
  unfolding some_user
  others_since x noreg h e = rw e
  others_since x (reg {x = y} a b c f n r) h e = rw (lt-ltb d y.0 (omega arith), e)

  others_is : {l : List (ℕ × ℕ)} (x : ℕ × ℕ) → Regs x.1 (suc x.0) l → x.0 ≤ d
      → some_user other d (x ∷ l)
      ≡ not (leb (maybe x (λ y. y) (last_of l)).0 d && eqb (maybe x (λ y. y) (last_of l)).1 u)
  unfolding some_user last_of
  others_is x noreg h = rw (le-leb x.0 d h) (or-false (other x.1))
  others_is x (reg {x = y} {l = m} a b c f n r) h = go (leb y.0 d) (eqb x.1 u) refl refl (λ g. others_is y r g)
    where
      last : ℕ × ℕ
      last = maybe y (λ z. z) (last_of m)

      go : (s t : Bool) → leb y.0 d ≡ s → eqb x.1 u ≡ t
          → (y.0 ≤ d → some_user other d (y ∷ m) ≡ not (leb last.0 d && eqb last.1 u))
          → some_user other d (x ∷ y ∷ m) ≡ not (leb last.0 d && eqb last.1 u)
      go true t q e ih = let g : y.0 ≤ d = leb-true y.0 d q in rw (le-ltb d y.0 g) (ih g)
      go false false q e ih =
          let g : d < y.0 = leb-false y.0 d q in
          let p : y.0 ≤ last.0 = last_after y r in
          rw (lt-ltb d y.0 g, e, lt-leb last.0 d (omega arith))
      go false true q e ih =
          let g : d < y.0 = leb-false y.0 d q in
          let p : y.0 ≤ last.0 = last_after y r in
          let i : eqb y.1 u ≡ false =
          ap (λ v. eqb y.1 v) (sym (eqb-true x.1 u e))
          ∙ ne_eqb y.1 x.1 (λ z. eqb-false x.1 y.1 n (sym z)) in
          rw (others_since y r (omega arith) i, lt-leb last.0 d (omega arith))
          (or-true (ltb d y.0 && not (eqb x.1 u)))

-- A day's FRO changes unless the latest registration is the User's and has started by day d.
pub changes_is : {lo : ℕ} {l : List (ℕ × ℕ)} → Regs 0 lo l → StartsOn lo l → (d u : ℕ) → lo ≤ d → d ≤ 40000
    → fro_changed (λ v. true) (user_on 0 l) (from_on d u (user_on 0 l))
    ≡ not (leb (latest_of l).0 d && eqb (latest_of l).1 u)
unfolding latest_of last_of
changes_is {l = x ∷ l} (reg a b c e n r) (starts s) d u h k =
    fro_changed_lem (reg {x = x} {l = l} a b c e n r) (starts s) (λ v. true) d u h k ∙ others_is d u x r (omega (arith, s))
changes_is {lo = lo} {l = []} _ x5 d u h k = elim x5 [ ]
