-- A User's days of x to y - 1 at one point, registration by registration. Assumes nothing.
use mathlib.Core.Path.{◌≡◌, refl, sym, ap, ap₂, subst, ◌∙◌}
use mathlib.Core.Bool.{Bool, true, false, cond}
use mathlib.Core.List.{List, ◌∷◌}
use Prim.Native.Nat.{ℕ, zero, suc, ◌+◌, ◌-◌, ◌≤◌, ◌<◌}
use native.Mathlib.Numerals.{add-one}
use native.Mathlib.Omega.{arith}
use borrow.Author.Tests.{ltb-true, ltb-false, lt-ltb, le-ltb, eqb-true, eqb-false, eq-eqb, ne_eqb}
use lib.Dec.{ltb, eqb}
use lib.IntN.{ℤ, pos, ◌+ℤ◌, +ℤ_idl, +ℤ_idr}
use Rattle.numbers.specs.Sums.{sum_from}
use Rattle.numbers.proofs.Sums.{sum_same, sum_if, sum_split}
use Rattle.daybook.specs.Book.{day_share}
use Rattle.daybook.specs.Queries.{own_share}
use Rattle.lists.specs.Lists.{user_on, point_of}
use Rattle.lists.specs.InnerWell.{Regs, reg}
use Rattle.lists.proofs.Registrations.{user_before, user_since}
use Rattle.layout.specs.Layout.{num_at, point_from}
use Rattle.layout.specs.InnerParts.{SoundPart}
use Rattle.layout.proofs.SoundParts.{part_well}
use Rattle.point.specs.InnerTests.{reg_start, reg_user, reg_row}
use Rattle.point.proofs.Rows.{rows_at}
use Rattle.readings.specs.InnerReadings.{point_at}
use Rattle.readings.proofs.Part.{regs_of}
use Rattle.account.specs.InnerRegistrations.{moved_into, start_in, own_in}

-- ---- days moved into x to y

module _ (x y : ℕ) (l : x ≤ y) where
  moved_most : (d : ℕ) → moved_into x y d ≤ y
  unfolding moved_into
  moved_most d = omega arith

  moved_up : (s t : ℕ) → s ≤ t → moved_into x y s ≤ moved_into x y t
  unfolding moved_into
  moved_up s t h = omega arith

  moved_first : x ≡ moved_into x y 0
  unfolding moved_into
  moved_first = omega arith

  -- a day before day t's place, and not before day s's, is before t; one from its place on is not
  moved_before : (s t d : ℕ) → moved_into x y s ≤ d → d < moved_into x y t → d < t
  unfolding moved_into
  moved_before s t d h k = omega arith

  moved_after : (t d : ℕ) → moved_into x y t ≤ d → d < y → t ≤ d
  unfolding moved_into
  moved_after t d h k = omega arith

-- ---- starts ascend

module _ (p : List ℤ) where
  starts_from : {v lo : ℕ} (n j : ℕ) → Regs v lo (rows_at (reg_row p) j n) → (k : ℕ) → j ≤ k → k < j + n → lo ≤ reg_start p k
  unfolding rows_at
  starts_from zero j r k h l = absurd (omega arith)
  starts_from {v = v} {lo = lo} (suc n) j (reg a b c d e r) k h l = go (eqb j k) refl (starts_from {v = (reg_row p j).1} n (suc j) r k)
    where
      go : (t : Bool) → eqb j k ≡ t → (suc j ≤ k → k < suc j + n → suc (reg_start p j) ≤ reg_start p k) → lo ≤ reg_start p k
      go true q ih = let i : reg_start p j ≡ reg_start p k = ap (reg_start p) (eqb-true j k q) in omega arith
      go false q ih =
          let s : ¬ (j ≡ k) = eqb-false j k q in
          let i : suc (reg_start p j) ≤ reg_start p k = ih (omega arith) (omega arith) in
          omega arith

  starts_up : {v lo : ℕ} (n i : ℕ) → Regs v lo (rows_at (reg_row p) i n) → (j k : ℕ) → i ≤ j → j < k → k < i + n → reg_start p j ≤ reg_start p k
  unfolding rows_at
  starts_up zero i r j k h l m = absurd (omega arith)
  starts_up {v = v} (suc n) i (reg a b c d e r) j k h l m = go (eqb i j) refl (starts_up {v = (reg_row p i).1} n (suc i) r j k)
    where
      go : (t : Bool) → eqb i j ≡ t → (suc i ≤ j → j < k → k < suc i + n → reg_start p j ≤ reg_start p k) → reg_start p j ≤ reg_start p k
      go true q ih =
          let s : reg_start p i ≡ reg_start p j = ap (reg_start p) (eqb-true i j q) in
          let w : i ≡ j = eqb-true i j q in
          omega (arith, starts_from n (suc i) r k (omega arith) (omega arith))
      go false q ih = let s : ¬ (i ≡ j) = eqb-false i j q in ih (omega arith) l (omega arith)

module _ {p : List ℤ} (ok : SoundPart p) where
  regs_ok_lem : Regs 0 (point_from p).facts.install (rows_at (reg_row p) 0 (num_at p 4))
  regs_ok_lem = subst (Regs 0 (point_from p).facts.install) (regs_of p) (part_well ok).regs_ok

  start_up : (x y : ℕ) → x ≤ y → (j k : ℕ) → j < k → start_in p x y j ≤ start_in p x y k
  unfolding start_in
  start_up x y l j k h = go (ltb j (num_at p 4)) (ltb k (num_at p 4)) refl refl
    where
      go : (s t : Bool) → ltb j (num_at p 4) ≡ s → ltb k (num_at p 4) ≡ t
          → cond s (moved_into x y (reg_start p j)) y ≤ cond t (moved_into x y (reg_start p k)) y
      go true true a b =
          moved_up x y l (reg_start p j) (reg_start p k) (starts_up p (num_at p 4) 0 regs_ok_lem j k (omega arith) h (omega (arith, ltb-true k (num_at p 4) b)))
      go true false a b = moved_most x y l (reg_start p j)
      go false true a b = absurd (omega (arith, ltb-false j (num_at p 4) a, ltb-true k (num_at p 4) b))
      go false false a b = omega arith

  -- of two days that the code has read, the later registration's is no earlier
  pub next_later : (x y : ℕ) → x ≤ y → {j k a b : ℕ} → a ≡ start_in p x y j → b ≡ start_in p x y k → j < k → a ≤ b
  next_later x y l {j} {k} e f h = omega (arith, start_up x y l j k h)

-- ---- the law

module _ (p : List ℤ) (x y j : ℕ) where
  pub start_is : j < num_at p 4 → start_in p x y j ≡ moved_into x y (reg_start p j)
  unfolding start_in
  start_is h = rw (lt-ltb j (num_at p 4) h)

  pub start_end : num_at p 4 ≤ j → start_in p x y j ≡ y
  unfolding start_in
  start_end h = rw (le-ltb j (num_at p 4) h)

module _ (f : ℕ → ℤ) (u : ℕ) (p : List ℤ) (x y j : ℕ) where
  pub own_same : reg_user p j ≡ u → {a b : ℕ} → a ≡ start_in p x y j → b ≡ start_in p x y (j + 1) → sum_from f a (b - a) ≡ own_in f u p x y j
  unfolding own_in
  own_same e g h = rw (g, h, add-one j, eq-eqb (reg_user p j) u e)

  pub own_other : ¬ (reg_user p j ≡ u) → own_in f u p x y j ≡ pos 0
  unfolding own_in
  own_other e = rw (ne_eqb (reg_user p j) u e)

module _ (f : ℕ → ℤ) (u x y : ℕ) (xy : x ≤ y) (p : List ℤ) where
  -- What day d has if User w is the one, and the days from a to b - 1.
  abbrev own : ℕ → ℕ → ℤ
  own w d = cond (eqb w u) (f d) (pos 0)

  abbrev owned : ℕ → ℕ → ℕ → ℤ
  owned w a b = cond (eqb w u) (sum_from f a (b - a)) (pos 0)

  own_here : (j : ℕ) → j < num_at p 4 → owned (reg_user p j) (moved_into x y (reg_start p j)) (start_in p x y (suc j)) ≡ own_in f u p x y j
  unfolding own_in
  own_here j h = ap (λ a. owned (reg_user p j) a (start_in p x y (suc j))) (sym (start_is p x y j h))

  -- from day s on, where v is the User until registration j starts
  from_row : {v lo : ℕ} (n j s : ℕ) → Regs v lo (rows_at (reg_row p) j n) → s ≤ lo → j + n ≡ num_at p 4
      → sum_from (λ d. own (user_on v (rows_at (reg_row p) j n) d) d) (moved_into x y s) (y - moved_into x y s)
      ≡ owned v (moved_into x y s) (start_in p x y j) +ℤ sum_from (own_in f u p x y) j n
  unfolding rows_at user_on sum_from
  from_row {v} zero j s r h e =
      rw (start_end p x y j (omega arith)) (sum_if (eqb v u) f (moved_into x y s) (y - moved_into x y s) ∙ sym (+ℤ_idr _))
  from_row {v} {lo} (suc n) j s (reg a b c g ne r) h e =
      rw (start_is p x y j (omega arith))
      (ap (sum_from days from) cut.0
      ∙ sum_split days from (to - from) (y - to)
      ∙ ap₂ ◌+ℤ◌
      (sum_same _ _ from (to - from) (λ d i k. ap (λ w. own w d) (until d (moved_before x y xy s (reg_start p j) d i (omega (arith, cut.1)))))
      ∙ sum_if (eqb v u) f from (to - from))
      (ap (λ a. sum_from days a (y - to)) cut.1
      ∙ sum_same _ _ to (y - to) (λ d i k. ap (λ w. own w d) (user_since v (reg_row p j) rest d (moved_after x y xy (reg_start p j) d i (omega (arith, moved_most x y xy (reg_start p j))))))
      ∙ from_row {v = (reg_row p j).1} n (suc j) (reg_start p j) r (omega arith) (omega arith)
      ∙ ap (λ z. z +ℤ sum_from (own_in f u p x y) (suc j) n) (own_here j (omega arith))))
    where
      rest : List (ℕ × ℕ)
      rest = rows_at (reg_row p) (suc j) n

      whole : List (ℕ × ℕ)
      whole = reg_row p j ∷ rest

      days : ℕ → ℤ
      days d = own (user_on v whole d) d

      from : ℕ
      from = moved_into x y s

      to : ℕ
      to = moved_into x y (reg_start p j)

      cut : (y - from ≡ (to - from) + (y - to)) × (from + (to - from) ≡ to)
      cut =
          let m : from ≤ to = moved_up x y xy s (reg_start p j) (omega arith) in
          let k : to ≤ y = moved_most x y xy (reg_start p j) in
          (omega arith, omega arith)

      until : (d : ℕ) → d < reg_start p j → user_on v whole d ≡ v
      until d i = user_before (reg {lo = reg_start p j} {x = reg_row p j} (omega arith) b c g ne r) v d i

-- THE LAW: what a User's days of x to y - 1 have is the sum over the point's registrations
pub own_by_rows : {p : List ℤ} → SoundPart p → (u x y : ℕ) → 1 ≤ u → x ≤ y
    → sum_from (own_in (day_share (point_at p)) u p x y) 0 (num_at p 4) ≡ sum_from (own_share u (point_at p)) x (y - x)
unfolding own_share point_at point_of
own_by_rows {p} ok u x y h l =
    sym
    (ap (λ l. sum_from (λ d. cond (eqb (user_on 0 l d) u) (f d) (pos 0)) x (y - x)) (regs_of p)
    ∙ ap (λ a. sum_from (λ d. cond (eqb (user_on 0 (rows_at (reg_row p) 0 (num_at p 4)) d) u) (f d) (pos 0)) a (y - a)) (moved_first x y l)
    ∙ from_row f u x y l p (num_at p 4) 0 0 (regs_ok_lem ok) (omega arith) (omega arith)
    ∙ ap (λ t. cond t (sum_from f (moved_into x y 0) (start_in p x y 0 - moved_into x y 0)) (pos 0) +ℤ sum_from (own_in f u p x y) 0 (num_at p 4)) (ne_eqb 0 u (omega arith))
    ∙ +ℤ_idl _)
  where
    f : ℕ → ℤ
    f = day_share (point_at p)
