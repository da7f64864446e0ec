-- The FRO and the status of a day, by registrations and off spans. Assumes nothing.
use mathlib.Core.Path.{◌≡◌, refl, sym, ap, ap₂, ◌∙◌}
use mathlib.Core.Bool.{Bool, true, false, not, ◌&&◌, ◌||◌, cond, and-true, not-not}
use mathlib.Core.Option.{Option, none, some}
use mathlib.Core.List.{List, [], ◌∷◌}
use Prim.Native.Nat.{ℕ, zero, suc, ◌≤◌}
use native.Mathlib.Omega.{arith}
use native.Mathlib.Numerals.{add-one}
use borrow.Author.Tests.{leb-true, leb-false}
use lib.Dec.{leb}
use lib.IntN.{ℤ}
use Rattle.std.specs.List.{fold, range_with_len}
use Rattle.daybook.specs.Queries.{active}
use Rattle.lists.specs.Lists.{user_on, in_span, off_on, point_of}
use Rattle.lists.specs.InnerSteps.{overlaps, some_overlap}
use Rattle.lists.proofs.Registrations.{user_none, user_known}
use Rattle.layout.specs.Layout.{num_at, point_from}
use Rattle.layout.specs.InnerParts.{SoundPart}
use Rattle.layout.proofs.SoundParts.{part_well, part_laid}
use Rattle.layout.proofs.Cells.{place_offs}
use Rattle.point.specs.InnerTests.{reg_start, reg_user, no_off, reg_row}
use Rattle.point.proofs.Readers.{no_off_is}
use Rattle.point.proofs.Rows.{rows_at}
use Rattle.readings.specs.InnerReadings.{point_at}
use Rattle.readings.proofs.Part.{regs_of}

-- ---- the FRO, by a fold over the registrations

-- The User of day g once registration j is read too, u before it.
abbrev pub user_then : List ℤ → ℕ → ℕ → ℕ → ℕ
user_then p g u j = cond (leb (reg_start p j) g) (reg_user p j) u

user_rows : (p : List ℤ) (g u j n : ℕ) → fold (user_then p g) u (range_with_len j n) ≡ user_on u (rows_at (reg_row p) j n) g
unfolding user_on rows_at
user_rows p g u j zero = refl
user_rows p g u j (suc n) = rw (add-one j) (user_rows p g (user_then p g u j) (suc j) n)

pub user_fold : (p : List ℤ) (g n : ℕ) → n ≡ num_at p 4 → fold (user_then p g) 0 (range_with_len 0 n) ≡ (point_at p).fro g
unfolding point_at point_of
user_fold p g n e = rw e (user_rows p g 0 0 (num_at p 4)) ∙ ap (λ l. user_on 0 l g) (sym (regs_of p))

pub fro_few : {p : List ℤ} → SoundPart p → (g : ℕ) → (point_at p).fro g ≤ 16
unfolding point_at point_of
fro_few {p} r g = go (leb (point_from p).facts.install g) refl
  where
    go : (t : Bool) → leb (point_from p).facts.install g ≡ t → user_on 0 (point_from p).regs g ≤ 16
    go true e = (user_known (part_well r).regs_ok (part_well r).regs_start g (leb-true _ _ e)).1
    go false e = omega (arith, user_none (part_well r).regs_ok g (leb-false _ _ e))

-- ---- off days

in_span_lem : (x : ℕ × Option ℕ) (g : ℕ) → overlaps g g x ≡ in_span x g
in_span_lem (off, none) g = and-true (leb off g)
in_span_lem (off, some on) g = refl

off_day_lem : (l : List (ℕ × Option ℕ)) (g : ℕ) → some_overlap g g l ≡ off_on l g
unfolding some_overlap off_on
off_day_lem [] g = refl
off_day_lem (x ∷ l) g = ap₂ ◌||◌ (in_span_lem x g) (off_day_lem l g)

pub off_is : {p : List ℤ} → SoundPart p → (g : ℕ) → g ≤ 39999 → not (no_off p (num_at p 5) g g) ≡ (point_at p).off g
unfolding point_at point_of
off_is {p} r g h =
    ap not
    (ap₂ (λ p n. no_off p n g g) (sym (part_laid r)) (place_offs (part_well r) (part_laid r))
    ∙ no_off_is (part_well r) g g (omega arith))
    ∙ not-not (some_overlap g g (point_from p).offs) ∙ off_day_lem (point_from p).offs g

-- ---- facts

pub active_is : (p : List ℤ) (g : ℕ) → (leb (num_at p 2) g && not ((point_at p).off g)) ≡ active g (point_at p)
unfolding point_at point_of point_from
active_is p g = refl

pub kind_is : (p : List ℤ) → num_at p 1 ≡ (point_at p).facts.kind
unfolding point_at point_of point_from
kind_is p = refl

pub base_is : (p : List ℤ) → num_at p 3 ≡ (point_at p).facts.base
unfolding point_at point_of point_from
base_is p = refl

pub base_few : {p : List ℤ} → SoundPart p → num_at p 3 ≤ 10000
unfolding point_from
base_few r = (part_well r).facts_ok.base_ok
