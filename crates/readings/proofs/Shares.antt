-- The share of one day is an energy: it lies from -1,000,000 to 1,000,000. Assumes nothing.
use mathlib.Core.Path.{◌≡◌, sym, ap, ◌∙◌}
use mathlib.Core.Option.{Option}
use mathlib.Core.List.{List}
use Prim.Native.Nat.{ℕ, suc, ◌+◌, ◌-◌, ◌≤◌, ◌<◌}
use native.Mathlib.Omega.{arith}
use lib.IntN.{ℤ, sub_ℕ, ◌-ℤ◌}
use Rattle.numbers.specs.InnerEnergies.{bias_of, energy_of}
use Rattle.numbers.specs.Shares.{partial_energy}
use Rattle.numbers.specs.Sums.{sum_from}
use Rattle.numbers.proofs.Integers.{up, dn, sub_fact, sub_minus, raise, sub_near}
use Rattle.numbers.proofs.Naturals.{bias_is}
use Rattle.numbers.proofs.Sums.{sum_one}
use Rattle.numbers.proofs.Shares.{raised_part, raised_partial, raised_near}
use Rattle.daybook.specs.Book.{Entry, fill, day_share}
use Rattle.lists.specs.Lists.{entry_on, point_of}
use Rattle.lists.specs.InnerWell.{Recs, norec, rec}
use Rattle.lists.proofs.Apart.{Place, inside, under, over, place}
use Rattle.layout.specs.Layout.{point_from}
use Rattle.layout.specs.InnerParts.{SoundPart}
use Rattle.layout.proofs.SoundParts.{part_well}
use Rattle.readings.specs.InnerReadings.{point_at}
use Rattle.readings.specs.InnerRecords.{partial_of}
use Rattle.readings.proofs.Part.{RecordOk, first_ok}
use Rattle.readings.proofs.Records.{day_of}
use Rattle.readings.proofs.Energy.{share_day}

abbrev Small : ℤ → Type 0
Small z = (up z ≤ 1000000) × (dn z ≤ 1000000)

-- two of an entry's parts differ by an energy
part_small : {e : Entry} → RecordOk e → (i j : ℕ) → i ≤ suc e.end - e.start → j ≤ suc e.end - e.start → Small (partial_of e j -ℤ partial_of e i)
unfolding partial_of
part_small {e} ok i j h k =
    rw (part i h, part j k, sub_minus (raised_part u n j) (raised_part u n i) 1000000)
    (sub_near (raised_part u n j) (raised_part u n i) 1000000 (raised_near u n j i ok.small l k h) (raised_near u n i j ok.small l h k))
  where
    u : ℕ
    u = bias_of e.energy

    n : ℕ
    n = suc e.end - e.start

    l : 0 < n
    l = omega (arith, ok.order)

    part : (m : ℕ) → m ≤ n → partial_energy e.energy n m ≡ energy_of (raised_part u n m)
    part m q = ap (λ z. partial_energy z n m) (sym (bias_is e.energy ok.small)) ∙ sym (raised_partial u n m ok.small l q)

day_small : {kind : ℕ} {offs : List (ℕ × Option ℕ)} {from : ℕ} {l : List Entry} → Recs kind offs from l → (d : ℕ) → Small (day_of partial_of (entry_on l d) d)
unfolding entry_on day_of fill
day_small norec d = (omega arith, omega arith)
day_small (rec {x = x} {l = l} a b c e t g r) d = go (place x d) (day_small r d)
  where
    ok : RecordOk x
    ok = first_ok (rec a b c e t g r)

    go : Place x d → Small (day_of partial_of (entry_on l d) d) → Small (day_of partial_of (fill x (entry_on l) d) d)
    go (inside h k i) ih = rw i (part_small ok (d - x.start) (suc (d - x.start)) (omega arith) (omega arith))
    go (under h i) ih = rw i ih
    go (over h i) ih = rw i ih

-- ---- the code's energy of one day, raised by 2,000,000,000

module _ {p : List ℤ} (ok : SoundPart p) (d r : ℕ) where
  share_small : Small (day_share (point_at p) d)
  unfolding point_at point_of day_share
  share_small = rw (share_day (entry_on (point_from p).recs d) d) (day_small (part_well ok).recs_ok d)

  pub one_share : sub_ℕ r 2000000000 ≡ sum_from (day_share (point_at p)) d (d + 1 - d)
      → (1999000000 ≤ r) × ((sub_ℕ (r - 1999000000) 1000000 ≡ day_share (point_at p) d) × (r - 1999000000 ≤ 2000000))
  one_share e =
      let q : sub_ℕ r 2000000000 ≡ day_share (point_at p) d = e ∙ sum_one (day_share (point_at p)) d in
      let low : 1999000000 ≤ r = omega (arith, share_small, sub_fact r 2000000000, ap up q, ap dn q) in
      let high : r ≤ 2001000000 = omega (arith, share_small, sub_fact r 2000000000, ap up q, ap dn q) in
      let m : r - 1999000000 ≡ r + 1000000 - 2000000000 = omega arith in
      (low, (rw m (raise r 2000000000 1000000 (omega arith) ∙ q), omega arith))
