-- Business days: listed holidays by index, the days that counts reach, and the bounds of an allowable period. Assumes nothing.
use mathlib.Core.Path.{◌≡◌, refl, sym, ap, ap₂, subst, ◌∙◌}
use mathlib.Core.Option.{Option, none, some}
use mathlib.Core.Bool.{Bool, true, false, cond, ◌&&◌, ◌||◌}
use mathlib.Core.List.{List, [], ◌∷◌}
use Prim.Native.Nat.{ℕ, zero, suc, ◌+◌, ◌-◌, ◌≤◌, ◌<◌}
use native.Mathlib.Omega.{arith}
use native.Mathlib.Numerals.{add-one}
use lib.Dec.{eqb}
use lib.IntN.{ℤ, pos, negsuc}
use lib.ListN.{length, get_or}
use Rattle.numbers.specs.Naturals.{same_z}
use Rattle.std.specs.Ordering.{int_eq}
use Rattle.std.specs.Bool.{⊤}
use Rattle.std.specs.Fn.{CalledAt}
use Rattle.std.specs.Iterator.{Yields, YieldsThen}
use Rattle.std.specs.List.{list_any, list_all, FoldsTo, IsAllAdjacentAnswer}
use Rattle.std.specs.declared.iter.Rev.{Rev}
use Rattle.std.specs.declared.ops.Range.{Range}
use Rattle.std.proofs.iter.runs.Sources.{nat_range_steps_back}
use denote.Param.Members.{Mut}
use denote.Ref.{Bor}
use lib.Signed.{lt_z}
use Rattle.numbers.specs.Rows.{all}
use Rattle.numbers.proofs.Rows.{all_front, all_of, all_fails}
use Rattle.numbers.specs.Search.{maybe, first_from, last_below}
use Rattle.numbers.proofs.Search.{below_bound, from_bound, first_none, first_is_lem}
use Rattle.std.specs.Prelude.{Option as Maybe, Some, None, MatchOption}
use Rattle.calendar.specs.declared.Day.{Day}
use Rattle.calendar.specs.Calendar.{listed, business_day, business_day_before, business_day_after, allowable_period, reached_day}

-- ---- holidays

same_integer : (z : ℤ) (d : ℕ) → int_eq z (pos d) ≡ same_z z (pos d)
same_integer (pos n) d = grind arith
same_integer (negsuc n) d = refl

pub listed_contains : (hs : List ℤ) (d : ℕ) → list_any (λ h. int_eq h (pos d)) hs ≡ listed hs d
unfolding listed
listed_contains [] d = refl
listed_contains (h ∷ hs) d = ap₂ ◌||◌ (same_integer h d) (listed_contains hs d)

-- a test of each number of a list, and of each index
pub all_rows : (p : ℤ → Bool) (hs : List ℤ) → list_all p hs ≡ all (λ k. p (get_or hs k (pos 0))) (length hs)
unfolding all
all_rows p [] = refl
all_rows p (h ∷ hs) = ap (λ b. p h && b) (all_rows p hs) ∙ sym (all_front (λ k. p (get_or (h ∷ hs) k (pos 0))) (length hs))

pub ascending_rows : (hs : List ℤ) (r : Bool) → IsAllAdjacentAnswer (λ x y b. b ≡ lt_z x y) hs r
    → r ≡ all (λ k. lt_z (get_or hs k (pos 0)) (get_or hs (suc k) (pos 0))) (length hs - 1)
ascending_rows hs true h = sym (all_of _ _ (λ i l. rw (← add-one) (sym (h i (pos 0) (omega arith)))))
ascending_rows hs false h = sym (all_fails _ h.0 _ (omega (arith, h.1)) (rw (← add-one) (sym (h.2 (pos 0)))))

-- ---- the first business day after a day, by `find` from the next day on

pub first_reached : (p : ℕ → Bool) (d : ℕ) (r : Maybe ℕ)
    → MatchOption r ((k : ℕ) → d + 1 ≤ k → k < 40000 → p k ≡ false) (λ i. (d + 1 ≤ i) × (i < 40000) × (p i ≡ true) × ((k : ℕ) → d + 1 ≤ k → k < i → p k ≡ false))
    → (m : Maybe Day) → MatchOption r (m ≡ None) (λ i. m ≡ Some (record { 0 = i })) → d ≤ 39999
    → reached_day m ≡ first_from p (suc d) (39999 - d)
first_reached p d None h m e l = ap reached_day e ∙ sym (first_none p _ _ (λ k u v. h k (omega arith) (omega arith)))
first_reached p d (Some i) h m e l =
    ap reached_day e ∙ sym (first_is_lem p _ _ i (omega (arith, h.0)) (omega (arith, h.1)) h.2 (λ k u v. h.3 k (omega arith) v))

-- ---- the last business day before a day, by `find` down to day 0

module _ {F : Type 0} (g : Mut F (Bor ℕ × Unit {0}) Bool) (p : ℕ → Bool) (f : F) (asked : (x : ℕ) (b : Bool) (q : F) → CalledAt g f x b q → (q ≡ f) × (b ≡ p x)) where
  abbrev fails : F → ℕ → F → Type 0
  fails h x q = CalledAt g h x false q

  abbrev down : Rev (Range ℕ) → Maybe ℕ → Rev (Range ℕ) → Type 0
  down s r t = nat_range_steps_back s.iter r t.iter

  passed : (xs : List ℕ) (s t : Rev (Range ℕ)) (j : F) → Yields down s xs t → FoldsTo fails f xs j
      → (j ≡ f) × (t.iter.start ≡ s.iter.start) × (last_below p s.iter.end ≡ last_below p t.iter.end)
  unfolding last_below
  passed [] s t j y k = (sym k, ap (λ (u : Rev (Range ℕ)). u.iter.start) (sym y), ap (λ (u : Rev (Range ℕ)). last_below p u.iter.end) y)
  passed (x ∷ xs) s t j y k =
      let a = asked x false k.0 k.1 in
      let rest = passed xs y.0 t j y.2 (subst (λ h. FoldsTo fails h xs j) a.0 k.2) in
      let miss : last_below p (suc x) ≡ last_below p x = rw (sym a.1) refl in
      let here : s.iter.end ≡ suc x = omega (arith, y.1.1.1, y.1.1.2) in
      (rest.0, rest.1 ∙ y.1.0, ap (last_below p) here ∙ miss ∙ ap (last_below p) y.1.1.1 ∙ rest.2)

  pub last_found : (s u : Rev (Range ℕ)) (r : Maybe ℕ) (d : ℕ) → s.iter ≡ record { start = 0; end = d }
      → (xs : List ℕ) × (j : F) × YieldsThen down s xs r u × FoldsTo fails f xs j × MatchOption r ⊤ (λ x. (h : F) × CalledAt g j x true h)
      → MatchOption r (none ≡ last_below p d) (λ i. some i ≡ last_below p d)
  unfolding last_below
  last_found s u None d z h =
      let w = passed h.0 s h.2.0 h.1 h.2.1 h.3 in
      let start : s.iter.start ≡ 0 = ap (λ (r : Range ℕ). r.start) z in
      let e : h.2.0.iter.end ≡ 0 = omega (arith, h.2.2.1.0, w.1) in
      ap (last_below p) (sym e) ∙ sym w.2 ∙ ap (λ (r : Range ℕ). last_below p r.end) z
  last_found s u (Some i) d z h =
      let w = passed h.0 s h.2.0 h.1 h.2.1 h.3 in
      let e : h.2.0.iter.end ≡ suc i = omega (arith, h.2.2.1.1, h.2.2.1.2) in
      let a = asked i true h.4.0 (subst (λ k. CalledAt g k i true h.4.0) w.0 h.4.1) in
      let hit : last_below p (suc i) ≡ some i = rw (sym a.1) refl in
      sym (sym (ap (λ (r : Range ℕ). last_below p r.end) z) ∙ w.2 ∙ ap (last_below p) e ∙ hit)

pub last_reached : (o : Option ℕ) (r : Maybe ℕ) → MatchOption r (none ≡ o) (λ i. some i ≡ o)
    → (m : Maybe Day) → MatchOption r (m ≡ None) (λ i. m ≡ Some (record { 0 = i })) → reached_day m ≡ o
last_reached o None h m e = ap reached_day e ∙ h
last_reached o (Some i) h m e = ap reached_day e ∙ h

-- ---- a count of n business days, by a loop of which k turns are done

module _ (hs : List ℤ) (n k d : ℕ) where
  pub before_none : n ≤ k → some d ≡ business_day_before hs (n - k) d
  unfolding business_day_before
  before_none l = let e : n - k ≡ 0 = omega arith in rw e

  pub before_outside : k < n → none ≡ last_below (business_day hs) d → none ≡ business_day_before hs (n - k) d
  unfolding business_day_before
  before_outside l e = let s : n - k ≡ suc (n - (k + 1)) = omega arith in rw (s, ← e)

  pub before_on : (a : ℕ) → k < n → some a ≡ last_below (business_day hs) d → business_day_before hs (n - (k + 1)) a ≡ business_day_before hs (n - k) d
  unfolding business_day_before
  before_on a l e = let s : n - k ≡ suc (n - (k + 1)) = omega arith in rw (s, ← e)

  pub after_none : n ≤ k → some d ≡ business_day_after hs (n - k) d
  unfolding business_day_after
  after_none l = let e : n - k ≡ 0 = omega arith in rw e

  pub after_outside : k < n → none ≡ first_from (business_day hs) (suc d) (39999 - d) → none ≡ business_day_after hs (n - k) d
  unfolding business_day_after
  after_outside l e = let s : n - k ≡ suc (n - (k + 1)) = omega arith in rw (s, ← e)

  pub after_on : (a : ℕ) → k < n → some a ≡ first_from (business_day hs) (suc d) (39999 - d) → business_day_after hs (n - (k + 1)) a ≡ business_day_after hs (n - k) d
  unfolding business_day_after
  after_on a l e = let s : n - k ≡ suc (n - (k + 1)) = omega arith in rw (s, ← e)

pub ruleset before_turns = (before_none, before_outside, before_on, below_bound)

pub ruleset after_turns = (after_none, after_outside, after_on, from_bound)

-- ---- where these days lie

maybe_some : {A B : Type 0} (o : Option A) (f : A → Option B) (b : B) → maybe none f o ≡ some b → (a : A) × ((o ≡ some a) × (f a ≡ some b))
maybe_some none f b h = let z : ◌≡◌ {A = ℕ} 0 1 = cc in absurd (omega arith)
maybe_some (some a) f b h = (a, (refl, h))

pub before_bound : (hs : List ℤ) (n d a : ℕ) → business_day_before hs n d ≡ some a → a + n ≤ d
unfolding business_day_before
before_bound hs zero d a h = let e : d ≡ a = cc in omega arith
before_bound hs (suc n) d a h =
    let s = maybe_some (last_below (business_day hs) d) (business_day_before hs n) a h in
    omega (arith, below_bound (business_day hs) d s.0 s.1.0, before_bound hs n s.0 a s.1.1)

pub after_bound : (hs : List ℤ) (n d b : ℕ) → business_day_after hs n d ≡ some b → d ≤ 39999 → (d + n ≤ b) × (b ≤ 39999)
unfolding business_day_after
after_bound hs zero d b h l = let e : d ≡ b = cc in omega arith
after_bound hs (suc n) d b h l =
    let s = maybe_some (first_from (business_day hs) (suc d) (39999 - d)) (business_day_after hs n) b h in
    let k = from_bound (business_day hs) (suc d) (39999 - d) s.0 s.1.0 in
    let t = after_bound hs n s.0 b s.1.1 (omega arith) in
    omega arith

-- ---- the allowable period

-- it begins before its proposed day and ends after it, on days that calls take
pub period_bound : (hs : List ℤ) (p noChange a b : ℕ) → allowable_period hs p noChange ≡ some (a, b) → p ≤ 39999 → (a < p) × (p < b) × (b ≤ 39999)
unfolding allowable_period
period_bound hs p noChange a b h l =
    let n : ℕ = cond (eqb noChange 1) 4 10 in
    let s = maybe_some (business_day_before hs n p) (λ first. maybe none (λ last. some (first, last)) (business_day_after hs 10 p)) (a, b) h in
    let t = maybe_some (business_day_after hs 10 p) (λ last. some (s.0, last)) (a, b) s.1.1 in
    let u : ◌≡◌ {A = Option (ℕ × ℕ)} (some (s.0, t.0)) (some (a, b)) = t.1.1 in
    let q : ◌≡◌ {A = ℕ × ℕ} (s.0, t.0) (a, b) = cc in
    let f : s.0 ≡ a = ap (λ (w : ℕ × ℕ). w.0) q in
    let g : t.0 ≡ b = ap (λ (w : ℕ × ℕ). w.1) q in
    omega (arith, before_bound hs n p s.0 s.1.0, after_bound hs 10 p t.0 t.1.0 l, some_days (eqb noChange 1))
  where
    some_days : (b : Bool) → 4 ≤ cond b 4 10
    some_days true = omega arith
    some_days false = omega arith
