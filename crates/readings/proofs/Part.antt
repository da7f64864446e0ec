-- The lists of a part by index, and what holds of each record of a sound one. Assumes nothing.
use mathlib.Core.Path.{◌≡◌, refl, subst, ◌∙◌}
use mathlib.Core.Bool.{Bool, true, false}
use mathlib.Core.Option.{Option}
use mathlib.Core.List.{List, ◌∷◌}
use Prim.Native.Nat.{ℕ, zero, suc, ◌+◌, ◌≤◌, ◌<◌}
use native.Mathlib.Omega.{arith}
use borrow.Author.Tests.{leb-true, eqb-true, eqb-false}
use lib.Dec.{eqb}
use lib.IntN.{ℤ}
use Rattle.numbers.specs.InnerEnergies.{bias_of}
use Rattle.daybook.specs.Book.{Entry}
use Rattle.lists.specs.InnerWell.{Recs, rec}
use Rattle.lists.proofs.Apart.{fits_le}
use Rattle.layout.specs.Layout.{num_at, point_from}
use Rattle.layout.specs.InnerParts.{SoundPart}
use Rattle.layout.proofs.SoundParts.{part_well}
use Rattle.point.specs.InnerTests.{reg_row, rec_row}
use Rattle.point.proofs.Records.{energy_same}
use Rattle.point.proofs.Rows.{rows_at, regs_read, recs_read}

-- ---- the lists by index

pub recs_of : (p : List ℤ) → (point_from p).recs ≡ rows_at (rec_row p) 0 (num_at p 6)
unfolding point_from
recs_of p = recs_read p (num_at p 6) 0

pub regs_of : (p : List ℤ) → (point_from p).regs ≡ rows_at (reg_row p) 0 (num_at p 4)
unfolding point_from
regs_of p = regs_read p (num_at p 4) 0

-- ---- one record

pub record RecordOk (e : Entry) : Type 0 where
  pub order : e.start ≤ e.end
  pub ends : e.end ≤ 39999
  pub small : bias_of e.energy ≤ 2000000

pub first_ok : {kind from : ℕ} {offs : List (ℕ × Option ℕ)} {x : Entry} {l : List Entry} → Recs kind offs from (x ∷ l) → RecordOk x
first_ok {kind} {x = x} (rec a b c e t g r) =
    record { order = fits_le kind x.start x.end b; ends = c; small = leb-true _ _ (energy_same x.energy ∙ e) }

row_ok : {kind from : ℕ} {offs : List (ℕ × Option ℕ)} (f : ℕ → Entry) (n k : ℕ) → Recs kind offs from (rows_at f k n)
    → (i : ℕ) → k ≤ i → i < k + n → RecordOk (f i)
unfolding rows_at
row_ok f zero k r i h l = absurd (omega arith)
row_ok f (suc n) k (rec a b c e t g r) i h l = go (eqb k i) refl (row_ok f n (suc k) r i)
  where
    go : (t : Bool) → eqb k i ≡ t → (suc k ≤ i → i < suc k + n → RecordOk (f i)) → RecordOk (f i)
    go true q ih = subst (λ j. RecordOk (f j)) (eqb-true k i q) (first_ok (rec a b c e t g r))
    go false q ih = let s : ¬ (k ≡ i) = eqb-false k i q in ih (omega arith) (omega arith)

pub record_ok : {p : List ℤ} → SoundPart p → (k : ℕ) → k < num_at p 6 → RecordOk (rec_row p k)
record_ok {p} r k h =
    row_ok (rec_row p) (num_at p 6) 0 (subst (Recs _ _ _) (recs_of p) (part_well r).recs_ok) k (omega arith) (omega arith)
