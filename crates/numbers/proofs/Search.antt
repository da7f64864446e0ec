-- Searches, for any test: what they find, and what their answer tells of the test. Assumes nothing.
use mathlib.Core.Path.{◌≡◌, refl, sym, ◌∙◌, ap}
use mathlib.Core.Bool.{Bool, true, false, ◌||◌, cond, or-true, false≢true}
use mathlib.Core.Option.{Option, none, some}
use Prim.Native.Nat.{ℕ, zero, suc, ◌+◌, ◌≤◌, ◌<◌}
use native.Mathlib.Omega.{arith}
use lib.Dec.{eqb}
use borrow.Author.Tests.{eqb-true, eqb-false}
use Rattle.numbers.specs.Search.{is_some, first_from, last_below, maybe}

-- What the first of the n indices from a on at which the test holds is: none where it fails on all of them; else an
-- index among them at which it holds, and before which it fails.
pub data First (p : ℕ → Bool) (a n : ℕ) : Option ℕ → Type 0 where
  nowhere : ((x : ℕ) → a ≤ x → x < a + n → p x ≡ false) → First p a n none
  found : {k : ℕ} → a ≤ k → k < a + n → p k ≡ true → ((x : ℕ) → a ≤ x → x < k → p x ≡ false) → First p a n (some k)

module _ (p : ℕ → Bool) where
  -- the test holds at once, or it fails there and the search goes on
  pub first_here : (a n : ℕ) → p a ≡ true → first_from p a (suc n) ≡ some a
  unfolding first_from
  first_here a n e = rw (e, first_from) refl

  pub first_later : (a n : ℕ) → p a ≡ false → first_from p a (suc n) ≡ first_from p (suc a) n
  unfolding first_from
  first_later a n e = rw (e, first_from) refl

  -- the search finds k where the test holds at k and fails before it
  pub first_is_lem : (a n k : ℕ) → a ≤ k → k < a + n → p k ≡ true → ((x : ℕ) → a ≤ x → x < k → p x ≡ false)
      → first_from p a n ≡ some k
  first_is_lem a zero k l h e f = absurd (omega arith)
  first_is_lem a (suc n) k l h e f = go (eqb a k) refl (first_is_lem (suc a) n k)
    where
      go : (t : Bool) → eqb a k ≡ t
          → (suc a ≤ k → k < suc a + n → p k ≡ true → ((x : ℕ) → suc a ≤ x → x < k → p x ≡ false) → first_from p (suc a) n ≡ some k)
          → first_from p a (suc n) ≡ some k
      go true q ih = let s : a ≡ k = eqb-true a k q in first_here a n (ap p s ∙ e) ∙ ap some s
      go false q ih =
          let s : ¬ (a ≡ k) = eqb-false a k q in
          first_later a n (f a (omega arith) (omega arith)) ∙ ih (omega arith) (omega arith) e (λ x u v. f x (omega arith) v)

  -- the search finds nothing where the test fails on the whole range
  pub first_none : (a n : ℕ) → ((x : ℕ) → a ≤ x → x < a + n → p x ≡ false) → first_from p a n ≡ none
  unfolding first_from
  first_none a zero f = refl
  first_none a (suc n) f =
      first_later a n (f a (omega arith) (omega arith)) ∙ first_none (suc a) n (λ x u v. f x (omega arith) (omega arith))

  -- what the answer tells
  pub first_tells : (a n : ℕ) → First p a n (first_from p a n)
  unfolding first_from
  first_tells a zero = nowhere (λ x u v. absurd (omega arith))
  first_tells a (suc n) = go (p a) refl (first_from p (suc a) n) (first_tells (suc a) n)
    where
      earlier : {k : ℕ} → p a ≡ false → ((x : ℕ) → suc a ≤ x → x < k → p x ≡ false) → (x : ℕ) → a ≤ x → x < k
          → p x ≡ false
      earlier e f x u v = at (eqb a x) refl
        where
          at : (t : Bool) → eqb a x ≡ t → p x ≡ false
          at true q = ap p (sym (eqb-true a x q)) ∙ e
          at false q = let s : ¬ (a ≡ x) = eqb-false a x q in f x (omega arith) v

      go : (t : Bool) → p a ≡ t → (o : Option ℕ) → First p (suc a) n o → First p a (suc n) (cond t (some a) o)
      go true e o r = found {k = a} (omega arith) (omega arith) e (λ x u v. absurd (omega arith))
      go false e none (nowhere f) = nowhere (λ x u v. earlier {k = a + suc n} e (λ y s t. f y s (omega arith)) x u v)
      go false e (some k) (found u v h f) = found {k = k} (omega arith) (omega arith) h (earlier e f)

  -- nothing is found only where the test fails on the whole range
  pub first_fails : (a n : ℕ) → is_some (first_from p a n) ≡ false → (x : ℕ) → a ≤ x → x < a + n → p x ≡ false
  first_fails a n = go (first_from p a n) (first_tells a n)
    where
      go : (o : Option ℕ) → First p a n o → is_some o ≡ false → (x : ℕ) → a ≤ x → x < a + n → p x ≡ false
      go none (nowhere f) e = f
      go (some k) (found u v h f) e = let z : ◌≡◌ {A = ℕ} 0 1 = cc in absurd (omega arith)

  -- something is found where the test holds somewhere
  pub first_some : (a n k : ℕ) → a ≤ k → k < a + n → p k ≡ true → is_some (first_from p a n) ≡ true
  first_some a n k u v h = go (first_from p a n) (first_tells a n)
    where
      go : (o : Option ℕ) → First p a n o → is_some o ≡ true
      go none (nowhere f) = sym (f k u v) ∙ h
      go (some i) r = refl

-- the same tests find the same
pub first_cong : (p q : ℕ → Bool) (a n : ℕ) → ((x : ℕ) → a ≤ x → x < a + n → p x ≡ q x)
    → first_from p a n ≡ first_from q a n
unfolding first_from
first_cong p q a zero f = refl
first_cong p q a (suc n) f = go (q a) refl (first_cong p q (suc a) n (λ x u v. f x (omega arith) (omega arith)))
  where
    same : p a ≡ q a
    same = f a (omega arith) (omega arith)

    go : (t : Bool) → q a ≡ t → first_from p (suc a) n ≡ first_from q (suc a) n
        → first_from p a (suc n) ≡ first_from q a (suc n)
    go true e ih = first_here p a n (same ∙ e) ∙ sym (first_here q a n e)
    go false e ih = first_later p a n (same ∙ e) ∙ ih ∙ sym (first_later q a n e)

-- a search for either of two tests finds something where one of the two searches does
pub some_either : (p q : ℕ → Bool) (a n : ℕ)
    → is_some (first_from (λ x. p x || q x) a n) ≡ (is_some (first_from p a n) || is_some (first_from q a n))
unfolding first_from
some_either p q a zero = refl
some_either p q a (suc n) = go (p a) (q a) (first_from (λ x. p x || q x) (suc a) n) (first_from p (suc a) n) (first_from q (suc a) n) (some_either p q (suc a) n)
  where
    go : (s t : Bool) (o u v : Option ℕ) → is_some o ≡ (is_some u || is_some v)
        → is_some (cond (s || t) (some a) o) ≡ (is_some (cond s (some a) u) || is_some (cond t (some a) v))
    go true t o u v ih = refl
    go false true o u v ih = sym (or-true (is_some u))
    go false false o u v ih = ih

-- what equals d is d
pub some_is : (d : ℕ) (o : Option ℕ) → maybe false (eqb d) o ≡ true → o ≡ some d
some_is d none e = absurd (false≢true e)
some_is d (some k) e = ap some (sym (eqb-true d k e))

-- ---- what is found lies among the indices that were searched

module _ (p : ℕ → Bool) where
  pub from_bound : (a n m : ℕ) → first_from p a n ≡ some m → (a ≤ m) × (m < a + n)
  from_bound a n m = go (first_from p a n) (first_tells p a n)
    where
      go : (o : Option ℕ) → First p a n o → o ≡ some m → (a ≤ m) × (m < a + n)
      go none r e = let z : ◌≡◌ {A = ℕ} 0 1 = cc in absurd (omega arith)
      go (some k) (found u v h f) e = let s : k ≡ m = cc in (omega arith, omega arith)

  pub below_bound : (n m : ℕ) → last_below p n ≡ some m → m < n
  unfolding last_below
  below_bound zero m h = let z : ◌≡◌ {A = ℕ} 0 1 = cc in absurd (omega arith)
  below_bound (suc n) m h = go (λ q. below_bound n m q) (p n) refl
    where
      go : (last_below p n ≡ some m → m < n) → (b : Bool) → p n ≡ b → m < suc n
      go f true e = let g : some n ≡ some m = rw e at h in let k : n ≡ m = cc in omega arith
      go f false e = let k : m < n = f (rw e at h) in omega arith

  -- the last index at which the test holds
  pub last_none : (n : ℕ) → ((d : ℕ) → p d ≡ false) → last_below p n ≡ none
  unfolding last_below
  last_none zero f = refl
  last_none (suc n) f = rw (f n, last_below) (last_none n f)

  pub last_is_lem : (n d : ℕ) → d < n → p d ≡ true → ((e : ℕ) → d < e → p e ≡ false) → last_below p n ≡ some d
  unfolding last_below
  last_is_lem zero d h e f = absurd (omega arith)
  last_is_lem (suc n) d h e f = go (eqb n d) refl (last_is_lem n d)
    where
      go : (b : Bool) → eqb n d ≡ b → (d < n → p d ≡ true → ((e : ℕ) → d < e → p e ≡ false) → last_below p n ≡ some d) → last_below p (suc n) ≡ some d
      go true k ih = let q : n ≡ d = eqb-true n d k in rw (ap p q ∙ e, last_below) (ap some q)
      go false k ih = let q : ¬ (n ≡ d) = eqb-false n d k in rw (f n (omega arith), last_below) (ih (omega arith) e f)
