-- Registrations as a list and as the Users of the days: the days give back the list, and a User from a day on is one step
-- on the list.
use mathlib.Core.Path.{◌≡◌, refl, sym, ◌∙◌, ap, ap₂, fun_ext}
use mathlib.Core.Bool.{Bool, true, false, not, ◌&&◌, cond, and-false}
use mathlib.Core.Option.{Option, none, some}
use mathlib.Core.List.{List, [], ◌∷◌, ◌++◌}
use Prim.Native.Nat.{ℕ, zero, suc, ◌≤◌, ◌<◌}
use native.Mathlib.Omega.{arith}
use lib.Dec.{leb, ltb, eqb}
use lib.ListN.{length, get_or, length-append}
use borrow.Author.Tests.{leb-true, leb-false, ltb-true, ltb-false, eqb-true, eqb-false, le-leb, lt-leb, lt-ltb, eq-eqb, ne_eqb}
use Rattle.numbers.specs.Search.{maybe}
use Rattle.daybook.specs.Book.{days, from_on, last_of, gather, day_before, begins, registration_at, registrations, latest}
use Rattle.lists.specs.Lists.{Lists, user_on, point_of}
use Rattle.lists.specs.InnerSteps.{latest_of, earlier, user_from}
use Rattle.lists.specs.InnerWell.{Regs, noreg, reg, StartsOn, starts, Well}
use Rattle.lists.proofs.Last.{last_at}
use Rattle.lists.proofs.Scan.{at, Asc, nil, cons, asc_widen, at_none, scan}

abbrev start : ℕ × ℕ → ℕ
start x = x.0

-- ---- the User of a day

-- Before the first registration the User is the one before it.
pub user_before : {v lo : ℕ} {l : List (ℕ × ℕ)} → Regs v lo l → (u d : ℕ) → d < lo → user_on u l d ≡ u
unfolding user_on
user_before noreg u d h = refl
user_before (reg {x = x} a b c e n r) u d h = rw (lt-leb x.0 d (omega arith)) (user_before r u d (omega arith))

-- No User before the first.
pub user_none : {lo : ℕ} {l : List (ℕ × ℕ)} → Regs 0 lo l → (d : ℕ) → d < lo → user_on 0 l d ≡ 0
user_none r d h = user_before r 0 d h

-- From a first registration's start on, only it and those behind it count.
pub user_since : (u : ℕ) (x : ℕ × ℕ) (l : List (ℕ × ℕ)) (d : ℕ) → x.0 ≤ d → user_on u (x ∷ l) d ≡ user_on x.1 l d
unfolding user_on
user_since u x l d h = rw (le-leb x.0 d h)

user_within : {v lo : ℕ} {l : List (ℕ × ℕ)} → Regs v lo l → (u d : ℕ) → 1 ≤ u → u ≤ 16 → (1 ≤ user_on u l d) × (user_on u l d ≤ 16)
unfolding user_on
user_within noreg u d h k = (h, k)
user_within (reg {x = x} {l = m} a b c e n r) u d h k = go (leb x.0 d) (λ w. user_within r w d)
  where
    go : (t : Bool) → ((w : ℕ) → 1 ≤ w → w ≤ 16 → (1 ≤ user_on w m d) × (user_on w m d ≤ 16))
        → (1 ≤ user_on (cond t x.1 u) m d) × (user_on (cond t x.1 u) m d ≤ 16)
    go true f = f x.1 c e
    go false f = f u h k

-- A User, 1 to 16, from the first on.
pub user_known : {lo : ℕ} {l : List (ℕ × ℕ)} → Regs 0 lo l → StartsOn lo l → (d : ℕ) → lo ≤ d → (1 ≤ user_on 0 l d) × (user_on 0 l d ≤ 16)
user_known {lo} (reg {x = x} {l = m} a b c e n r) (starts s) d h =
    rw (user_since 0 x m d (omega (arith, s))) (user_within r x.1 d c e)
user_known {lo = lo} noreg x9 d h = elim x9 [ ]

-- ---- the days give back the list

regs_asc : {v lo : ℕ} {l : List (ℕ × ℕ)} → Regs v lo l → Asc start days lo l
regs_asc noreg = nil
regs_asc (reg {x = x} a b c e n r) = cons {x = x} a (omega arith) (regs_asc r)

-- The registration that begins on day d, after User u of the day before day 0.
abbrev begins_at : ℕ → (ℕ → ℕ) → ℕ → Option (ℕ × ℕ)
begins_at u f d = cond (not (eqb (f d) 0) && not (eqb (day_before u f d) (f d))) (some (d, f d)) none

begins_is : (u : ℕ) (f : ℕ → ℕ) (d v w : ℕ) → day_before u f d ≡ v → f d ≡ w
    → begins_at u f d ≡ cond (not (eqb w 0) && not (eqb v w)) (some (d, w)) none
begins_is u f d v w e h = ap₂ (λ v w. cond (not (eqb w 0) && not (eqb v w)) (some (d, w)) none) e h

-- No registration begins where the User stays.
nothing_begins : (u : ℕ) (f : ℕ → ℕ) (d v : ℕ) → day_before u f d ≡ v → f d ≡ v → begins_at u f d ≡ none
nothing_begins u f d v e h = begins_is u f d v v e h ∙ rw (eq-eqb v v refl, and-false (not (eqb v 0)))

day_before_lem : {v lo : ℕ} {l : List (ℕ × ℕ)} → Regs v lo l → (u d : ℕ) → d ≤ lo → day_before u (user_on u l) d ≡ u
day_before_lem r u zero h = refl
day_before_lem r u (suc d) h = user_before r u d h

begins_at_lem : {u lo : ℕ} {l : List (ℕ × ℕ)} → Regs u lo l → (d : ℕ) → begins_at u (user_on u l) d ≡ at start l d
unfolding at
begins_at_lem {u} noreg d =
    let r : Regs u (suc d) [] = noreg in
    nothing_begins u (user_on u []) d u (day_before_lem r u d (omega arith)) (user_before r u d (omega arith))
begins_at_lem (reg {u = u} {x = x} {l = l} a b c e n r) d = go d (eqb x.0 d) (leb x.0 d) refl refl (begins_at_lem r)
  where
    whole : Regs u x.0 (x ∷ l)
    whole = reg {lo = x.0} {x = x} (omega arith) b c e n r

    go : (d : ℕ) (t s : Bool) → eqb x.0 d ≡ t → leb x.0 d ≡ s
        → ((d : ℕ) → begins_at x.1 (user_on x.1 l) d ≡ at start l d)
        → begins_at u (user_on u (x ∷ l)) d ≡ cond (eqb x.0 d) (some x) (at start l d)
    go d true s p h ih =
        let k : x.0 ≡ d = eqb-true x.0 d p in
        begins_is u (user_on u (x ∷ l)) d u x.1 (day_before_lem whole u d (omega arith))
        (user_since u x l d (omega arith) ∙ user_before r x.1 d (omega arith))
        ∙ rw (n, p, ne_eqb x.1 0 (omega arith)) (ap (λ k. some (k, x.1)) (sym k))
    go d false false p h ih =
        let k : d < x.0 = leb-false x.0 d h in
        nothing_begins u (user_on u (x ∷ l)) d u (day_before_lem whole u d (omega arith)) (user_before whole u d k)
        ∙ rw p (sym (at_none start (regs_asc r) d (omega arith)))
    go zero false true p h ih = absurd (eqb-false x.0 zero p (omega (arith, leb-true x.0 zero h)))
    go (suc d) false true p h ih =
        let k : x.0 ≤ suc d = leb-true x.0 (suc d) h in
        let m : ¬ (x.0 ≡ suc d) = eqb-false x.0 (suc d) p in
        begins_is u (user_on u (x ∷ l)) (suc d) (user_on x.1 l d) (user_on x.1 l (suc d)) (user_since u x l d (omega arith)) (user_since u x l (suc d) k)
        ∙ ih (suc d) ∙ rw p

-- The registrations of the days are the list: of the list alone, of a well-formed point, and the latest of them.
pub regs_scan : {lo : ℕ} {l : List (ℕ × ℕ)} → Regs 0 lo l → gather (registration_at (user_on 0 l)) 0 days ≡ l
unfolding registration_at begins
regs_scan {l = l} r =
    scan start (registration_at (user_on 0 l)) days 0 days l refl (asc_widen start (omega arith) (regs_asc r)) (λ d h k. begins_at_lem r d)

pub registrations_is : {room : ℕ} {q : Lists} → Well room q → registrations (point_of q) ≡ q.regs
unfolding registrations point_of
registrations_is w = regs_scan w.regs_ok

pub latest_is_lem : {room : ℕ} {q : Lists} → Well room q → latest (point_of q) ≡ latest_of q.regs
unfolding latest latest_of
latest_is_lem w = ap (λ l. maybe (0, 0) (λ x. x) (last_of l)) (registrations_is w)

-- ---- User u from day d on

-- The last registration of the list, x if it is empty.
abbrev last_from : ℕ × ℕ → List (ℕ × ℕ) → ℕ × ℕ
last_from x l = maybe x (λ y. y) (last_of l)

last_snoc : (x : ℕ × ℕ) (l : List (ℕ × ℕ)) (y : ℕ × ℕ) → last_from x (l ++ (y ∷ [])) ≡ y
unfolding last_of
last_snoc x [] y = refl
last_snoc x (z ∷ l) y = last_snoc z l y

-- One more row at the end: its User from its start on.
user_snoc : (u : ℕ) (l : List (ℕ × ℕ)) (x : ℕ × ℕ) (d : ℕ) → user_on u (l ++ (x ∷ [])) d ≡ from_on x.0 x.1 (user_on u l) d
unfolding user_on from_on
user_snoc u [] x d = refl
user_snoc u (y ∷ l) x d = user_snoc (cond (leb y.0 d) y.1 u) l x d

-- From day d on the registrations before d have all started.
earlier_after : (x : ℕ × ℕ) (d e : ℕ) (l : List (ℕ × ℕ)) → d ≤ e → user_on x.1 (earlier start d l) e ≡ (last_from x (earlier start d l)).1
unfolding user_on earlier last_of
earlier_after x d e [] h = refl
earlier_after x d e (y ∷ l) h = go (ltb y.0 d) refl (earlier_after y d e l h)
  where
    go : (t : Bool) → ltb y.0 d ≡ t → user_on y.1 (earlier start d l) e ≡ (last_from y (earlier start d l)).1
        → user_on x.1 (cond t (y ∷ earlier start d l) []) e ≡ (last_from x (cond t (y ∷ earlier start d l) [])).1
    go true k ih = user_since x.1 y (earlier start d l) e (omega (arith, ltb-true y.0 d k)) ∙ ih
    go false k ih = refl

-- Before day d only they count.
earlier_before : {v lo : ℕ} {l : List (ℕ × ℕ)} → Regs v lo l → (u d e : ℕ) → e < d → user_on u (earlier start d l) e ≡ user_on u l e
unfolding user_on earlier
earlier_before noreg u d e h = refl
earlier_before {v} (reg {x = x} {l = l} a b c f n r) u d e h = go (ltb x.0 d) refl (λ w. earlier_before r w d e h)
  where
    whole : Regs v x.0 (x ∷ l)
    whole = reg {lo = x.0} {x = x} (omega arith) b c f n r

    go : (t : Bool) → ltb x.0 d ≡ t → ((w : ℕ) → user_on w (earlier start d l) e ≡ user_on w l e)
        → user_on u (cond t (x ∷ earlier start d l) []) e ≡ user_on u (x ∷ l) e
    go true k ih = ih (cond (leb x.0 e) x.1 u)
    go false k ih = sym (user_before whole u e (omega (arith, ltb-false x.0 d k)))

-- The step on the list is the step on the days.
pub user_from_lem : {lo : ℕ} {l : List (ℕ × ℕ)} → Regs 0 lo l → (d u : ℕ) → user_on 0 (user_from d u l) ≡ from_on d u (user_on 0 l)
unfolding user_from from_on latest_of
user_from_lem {l = l} r d u = fun_ext (λ e. go e (leb d e) (eqb (last_from (0, 0) (earlier start d l)).1 u) refl refl)
  where
    front : List (ℕ × ℕ)
    front = earlier start d l

    kept : (e : ℕ) (t : Bool) → leb d e ≡ t → eqb (last_from (0, 0) front).1 u ≡ true → user_on 0 front e ≡ cond t u (user_on 0 l e)
    kept e true h k = earlier_after (0, 0) d e l (leb-true d e h) ∙ eqb-true _ u k
    kept e false h k = earlier_before r 0 d e (leb-false d e h)

    added : (e : ℕ) (t : Bool) → leb d e ≡ t → cond t u (user_on 0 front e) ≡ cond t u (user_on 0 l e)
    added e true h = refl
    added e false h = earlier_before r 0 d e (leb-false d e h)

    go : (e : ℕ) (t s : Bool) → leb d e ≡ t → eqb (last_from (0, 0) front).1 u ≡ s
        → user_on 0 (cond s front (front ++ ((d, u) ∷ []))) e ≡ cond (leb d e) u (user_on 0 l e)
    go e t true h k = rw h (kept e t h k)
    go e t false h k = user_snoc 0 front (d, u) e ∙ rw h (added e t h)

-- ---- the list stays well-formed

-- The registrations before day d.
earlier_regs : {v lo : ℕ} {l : List (ℕ × ℕ)} → Regs v lo l → (d : ℕ) → Regs v lo (earlier start d l)
unfolding earlier
earlier_regs noreg d = noreg
earlier_regs {v} {lo} (reg {x = x} {l = l} a b c e n r) d = go (ltb x.0 d) (earlier_regs r d)
  where
    go : (t : Bool) → Regs x.1 (suc x.0) (earlier start d l) → Regs v lo (cond t (x ∷ earlier start d l) [])
    go true r = reg a b c e n r
    go false r = noreg

-- They and one more row from day d on, of another User than the last.
earlier_snoc : {v lo : ℕ} {l : List (ℕ × ℕ)} → Regs v lo l → (w d u : ℕ) → lo ≤ d → d ≤ 40000 → 1 ≤ u → u ≤ 16
    → eqb (last_from (w, v) (earlier start d l)).1 u ≡ false → Regs v lo (earlier start d l ++ ((d, u) ∷ []))
unfolding earlier last_of
earlier_snoc noreg w d u h k i j ne = reg h k i j ne noreg
earlier_snoc {v} {lo} (reg {x = x} {l = l} a b c e n r) w d u h k i j ne =
    go (ltb x.0 d) refl ne (λ (g : x.0 < d). earlier_snoc r x.0 d u g k i j)
  where
    go : (t : Bool) → ltb x.0 d ≡ t → eqb (last_from (w, v) (cond t (x ∷ earlier start d l) [])).1 u ≡ false
        → (x.0 < d → eqb (last_from x (earlier start d l)).1 u ≡ false → Regs x.1 (suc x.0) (earlier start d l ++ ((d, u) ∷ [])))
        → Regs v lo (cond t (x ∷ earlier start d l) [] ++ ((d, u) ∷ []))
    go true g ne ih = reg a b c e n (ih (ltb-true x.0 d g) ne)
    go false g ne ih = reg h k i j ne noreg

-- A User, 1 to 16, from a day at or after the first on leaves well-formed registrations.
pub regs_from_lem : {lo : ℕ} {l : List (ℕ × ℕ)} → Regs 0 lo l → (d u : ℕ) → lo ≤ d → d ≤ 40000 → 1 ≤ u → u ≤ 16 → Regs 0 lo (user_from d u l)
unfolding user_from latest_of
regs_from_lem {lo} {l} r d u h k i j = go (eqb (last_from (0, 0) (earlier start d l)).1 u) refl
  where
    go : (t : Bool) → eqb (last_from (0, 0) (earlier start d l)).1 u ≡ t → Regs 0 lo (cond t (earlier start d l) (earlier start d l ++ ((d, u) ∷ [])))
    go true e = earlier_regs r d
    go false e = earlier_snoc r 0 d u h k i j e

-- The first registration stays the first, or the User's takes its place on the install day.
pub starts_from : {install : ℕ} {l : List (ℕ × ℕ)} → StartsOn install l → (d u : ℕ) → install ≤ d → 1 ≤ u → StartsOn install (user_from d u l)
unfolding user_from earlier latest_of last_of
starts_from {install} (starts {x = x} {l = l} s) d u h k = by (ltb x.0 d) refl
  where
    kept : (t : Bool) → StartsOn install (cond t (x ∷ earlier start d l) (x ∷ earlier start d l ++ ((d, u) ∷ [])))
    kept true = starts s
    kept false = starts s

    by : (b : Bool) → ltb x.0 d ≡ b
        → StartsOn install (let before : List (ℕ × ℕ) = cond b (x ∷ earlier start d l) [] in
        cond (eqb (latest_of before).1 u) before (before ++ ((d, u) ∷ [])))
    by true e = kept (eqb (latest_of (x ∷ earlier start d l)).1 u)
    by false e = rw (ne_eqb 0 u (λ (z : 0 ≡ u). omega arith)) (starts {x = (d, u)} (omega (arith, s, ltb-false x.0 d e)))

-- ---- a registration after the latest

-- Starts ascend, so the last is at or after each.
pub last_after : {v : ℕ} {l : List (ℕ × ℕ)} (x : ℕ × ℕ) → Regs v (suc x.0) l → x.0 ≤ (last_from x l).0
unfolding last_of
last_after x noreg = omega arith
last_after x (reg {x = y} {l = l} a b c e n r) = let h : y.0 ≤ (last_from y l).0 = last_after y r in omega arith

-- From the last start on its User is the User of each day.
user_last : {v lo : ℕ} {l : List (ℕ × ℕ)} (x : ℕ × ℕ) → Regs v lo l → (d : ℕ) → (last_from x l).0 ≤ d → user_on x.1 l d ≡ (last_from x l).1
unfolding user_on last_of
user_last x noreg d h = refl
user_last x (reg {x = y} {l = l} a b c e n r) d h =
    let k : y.0 ≤ (last_from y l).0 = last_after y r in user_since x.1 y l d (omega arith) ∙ user_last y r d h

pub user_latest : {lo : ℕ} {l : List (ℕ × ℕ)} → Regs 0 lo l → (d : ℕ) → (latest_of l).0 ≤ d → user_on 0 l d ≡ (latest_of l).1
unfolding latest_of
user_latest r d h = user_last (0, 0) r d h

-- Before a day after the last start stand all of them.
earlier_all : {v lo : ℕ} {l : List (ℕ × ℕ)} (x : ℕ × ℕ) → Regs v lo l → (d : ℕ) → (last_from x l).0 < d → earlier start d l ≡ l
unfolding earlier last_of
earlier_all x noreg d h = refl
earlier_all x (reg {x = y} {l = l} a b c e n r) d h =
    let k : y.0 ≤ (last_from y l).0 = last_after y r in
    rw (lt-ltb y.0 d (omega arith)) (ap (λ m. y ∷ m) (earlier_all y r d h))

-- The latest starts on the first day or later, so a day after it is after the first.
pub latest_after : {lo : ℕ} {l : List (ℕ × ℕ)} → Regs 0 lo l → StartsOn lo l → lo ≤ (latest_of l).0
unfolding latest_of last_of
latest_after (reg {x = x} {l = l} a b c e n r) (starts s) =
    let h : x.0 ≤ (last_from x l).0 = last_after x r in omega (arith, s)
latest_after {lo = lo} noreg x5 = elim x5 [ ]

-- Another User from a day after the latest start on is one more row.
pub user_from_append : {lo : ℕ} {l : List (ℕ × ℕ)} → Regs 0 lo l → (d u : ℕ) → (latest_of l).0 < d → eqb (latest_of l).1 u ≡ false
    → user_from d u l ≡ l ++ ((d, u) ∷ [])
unfolding user_from latest_of
user_from_append {l = l} r d u h e = rw (earlier_all (0, 0) r d h, e)

pub user_from_length : {lo : ℕ} {l : List (ℕ × ℕ)} → Regs 0 lo l → (d u : ℕ) → (latest_of l).0 < d → eqb (latest_of l).1 u ≡ false
    → length (user_from d u l) ≡ suc (length l)
user_from_length {l = l} r d u h e = rw (user_from_append r d u h e, length-append l ((d, u) ∷ [])) (omega arith)

-- The latest, by its index.
pub latest_at : (l : List (ℕ × ℕ)) (k : ℕ) → length l ≡ suc k → latest_of l ≡ get_or l k (0, 0)
unfolding latest_of
latest_at l k e = ap (maybe (0, 0) (λ x. x)) (last_at (0, 0) l k e)

-- The row at the end is the latest.
pub latest_append : (l : List (ℕ × ℕ)) (x : ℕ × ℕ) → latest_of (l ++ (x ∷ [])) ≡ x
unfolding latest_of
latest_append l x = last_snoc (0, 0) l x

-- The latest User after it is the User.
pub latest_from : (d u : ℕ) (l : List (ℕ × ℕ)) → (latest_of (user_from d u l)).1 ≡ u
unfolding user_from
latest_from d u l = go (eqb (latest_of (earlier start d l)).1 u) refl
  where
    go : (t : Bool) → eqb (latest_of (earlier start d l)).1 u ≡ t
        → (latest_of (cond t (earlier start d l) (earlier start d l ++ ((d, u) ∷ [])))).1 ≡ u
    go true e = eqb-true (latest_of (earlier start d l)).1 u e
    go false e = ap (λ (x : ℕ × ℕ). x.1) (latest_append (earlier start d l) (d, u))

-- A first registration is one.
pub some_reg_lem : {install : ℕ} {l : List (ℕ × ℕ)} → StartsOn install l → 1 ≤ length l
some_reg_lem (starts e) = omega arith
