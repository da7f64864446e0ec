-- A record's energy between two days as the code has it, and the energy of days by records. Assumes nothing.
use mathlib.Core.Path.{◌≡◌, refl, sym, ap₂, ◌∙◌}
use mathlib.Core.Option.{Option, none, some}
use mathlib.Core.List.{List}
use Prim.Native.Nat.{ℕ, suc, ◌+◌, ◌-◌, ◌≤◌, ◌<◌}
use native.Mathlib.Omega.{arith}
use lib.IntN.{ℤ, pos, sub_ℕ, ◌-ℤ◌}
use Rattle.numbers.specs.InnerEnergies.{bias_of, energy_of}
use Rattle.numbers.specs.Search.{maybe}
use Rattle.numbers.specs.Shares.{partial_energy, share}
use Rattle.numbers.specs.Sums.{sum_from}
use Rattle.numbers.proofs.Naturals.{bias_is}
use Rattle.numbers.proofs.Sums.{sum_same}
use Rattle.numbers.proofs.Shares.{energies_near, raised_difference}
use Rattle.daybook.specs.Book.{Entry, day_share}
use Rattle.lists.specs.Lists.{entry_on, point_of}
use Rattle.layout.specs.Layout.{num_at, point_from}
use Rattle.layout.specs.InnerParts.{SoundPart}
use Rattle.point.specs.InnerTests.{rec_row}
use Rattle.readings.specs.InnerReadings.{point_at, days_passed}
use Rattle.readings.specs.InnerRecords.{part_between, partial_of}
use Rattle.readings.proofs.Part.{RecordOk}
use Rattle.readings.proofs.Records.{day_of, before_most, days_by_rows}

-- What the code has at hand of an entry: its raised energy u, its n days, those before x and before y, and the raised
-- energies of the first i and of the first j.
pub record Parts (e : Entry) (x y u n i j r s : ℕ) : Type 0 where
  pub raised : u ≡ bias_of e.energy
  pub days : n ≡ suc e.end - e.start
  pub before_x : i ≡ days_passed e.start e.end x
  pub before_y : j ≡ days_passed e.start e.end y
  pub first_i : energy_of r ≡ partial_energy (energy_of u) n i
  pub first_j : energy_of s ≡ partial_energy (energy_of u) n j

-- from the days a and b of the record, as they are read
pub parts : {e : Entry} {a b x y u i j r s : ℕ} → a ≡ e.start → b ≡ e.end → u ≡ bias_of e.energy
    → i ≡ days_passed a b x → j ≡ days_passed a b y
    → energy_of r ≡ partial_energy (energy_of u) (b + 1 - a) i → energy_of s ≡ partial_energy (energy_of u) (b + 1 - a) j
    → Parts e x y u (b + 1 - a) i j r s
parts {x = x} {y = y} start end raised i j first_i first_j = record {
  raised = raised;
  days = omega (arith, end, start);
  before_x = i ∙ ap₂ (λ a b. days_passed a b x) start end;
  before_y = j ∙ ap₂ (λ a b. days_passed a b y) start end;
  first_i = first_i;
  first_j = first_j;
}

module _ {e : Entry} (ok : RecordOk e) {x y u n i j r s : ℕ} (c : Parts e x y u n i j r s) where
  few : (i ≤ n) × (j ≤ n) × (0 < n) × (u ≤ 2000000)
  few = (
    omega (arith, before_most e.start e.end x ok.order),
    omega (arith, before_most e.start e.end y ok.order),
    omega (arith, ok.order),
    omega (arith, ok.small),
  )

  pub parts_near : (r ≤ s + 1000000) × (s ≤ r + 1000000)
  parts_near = (
    energies_near u n i j r s few.3 few.2 few.0 few.1 c.first_i c.first_j,
    energies_near u n j i s r few.3 few.2 few.1 few.0 c.first_j c.first_i,
  )

  part_is_lem : (w k v : ℕ) → k ≡ w → energy_of v ≡ partial_energy (energy_of u) n k → energy_of v ≡ partial_of e w
  unfolding partial_of
  part_is_lem w k v h q = q ∙ rw (c.raised, c.days, h, bias_is e.energy ok.small)

  pub parts_are : sub_ℕ (s + 1000000 - r) 1000000 ≡ part_between partial_of x y e
  unfolding part_between
  parts_are =
      raised_difference s r parts_near.0
      ∙ ap₂ ◌-ℤ◌ (part_is_lem _ j s c.before_y c.first_j) (part_is_lem _ i r c.before_x c.first_i)

-- ---- the days' energy

pub share_day : (o : Option Entry) (d : ℕ)
    → maybe (pos 0) (λ e. share e.energy (suc e.end - e.start) (d - e.start)) o ≡ day_of partial_of o d
unfolding day_of partial_of share
share_day none d = refl
share_day (some x) d = refl

pub energy_by_rows : {p : List ℤ} → SoundPart p → (x y : ℕ) → x ≤ y
    → sum_from (λ k. part_between partial_of x y (rec_row p k)) 0 (num_at p 6) ≡ sum_from (day_share (point_at p)) x (y - x)
unfolding point_at point_of day_share
energy_by_rows {p} r x y h =
    days_by_rows partial_of r x y h
    ∙ sym (sum_same _ _ x (y - x) (λ d u v. share_day (entry_on (point_from p).recs d) d))
