-- What an allocation reads of a point, for each way that the code ends: T of a non-daily point, the gas of a daily one.
-- Assumes nothing.
use mathlib.Core.Path.{◌≡◌, refl, ap, ◌∙◌}
use mathlib.Core.Bool.{Bool, true, false, ◌&&◌, cond}
use mathlib.Core.Option.{Option, none, some}
use Prim.Native.Nat.{ℕ, zero, suc, ◌+◌, ◌-◌, ◌<◌}
use native.Mathlib.Omega.{arith}
use borrow.Author.Tests.{ltb-true, eq-eqb, ne_eqb}
use lib.Dec.{leb, ltb, eqb}
use lib.IntN.{pos, sub_ℕ, ◌+ℤ◌}
use Rattle.numbers.specs.Search.{maybe, is_some}
use Rattle.numbers.specs.Shares.{share}
use Rattle.numbers.specs.Sums.{sum_from, sum_over}
use Rattle.daybook.specs.Book.{Entry, Point, day_share, filled}
use Rattle.daybook.specs.Queries.{active, all_filled, daily_gas, metered_of, at_least0, base_over, weight}
use Rattle.readings.specs.InnerReadings.{filled_days}
use Rattle.readings.proofs.Days.{some_filled_lem}

-- ---- T

-- a raised number, where less than 0 counts 0
pub at_least : (r m : ℕ) → at_least0 (sub_ℕ r m) ≡ r - m
at_least r m = go (ltb r m) refl
  where
    go : (t : Bool) → ltb r m ≡ t → at_least0 (sub_ℕ r m) ≡ r - m
    go true e = let h : r < m = ltb-true r m e in rw e (omega arith)
    go false e = rw e refl

-- days of which none is filled have no energy
shares_none : (p : Point) (n a : ℕ) → filled_days p a n ≡ 0 → sum_from (day_share p) a n ≡ pos 0
unfolding filled_days sum_from day_share
shares_none p zero a z = refl
shares_none p (suc n) a z = go (p.entry a) (shares_none p n (suc a)) z
  where
    go : (o : Option Entry) → (filled_days p (suc a) n ≡ 0 → sum_from (day_share p) (suc a) n ≡ pos 0)
        → cond (is_some o) 1 0 + filled_days p (suc a) n ≡ 0
        → maybe (pos 0) (λ e. share e.energy (suc e.end - e.start) (a - e.start)) o +ℤ sum_from (day_share p) (suc a) n ≡ pos 0
    go none ih z = rw (ih (omega arith))
    go (some e) ih z = absurd (omega arith)

module _ (p : Point) (g a b : ℕ) where
  pub weight_none : (active g p && eqb p.facts.kind 0) ≡ false → 0 ≡ weight g a b p
  unfolding weight
  weight_none e = rw e

  module _ (here : (active g p && eqb p.facts.kind 0) ≡ true) where
    pub weight_base : filled_days p a (b + 1 - a) ≡ 0 → base_over p.facts.base a b ≡ weight g a b p
    unfolding weight
    weight_base z = rw (here, some_filled_lem p a b, eq-eqb (filled_days p a (b + 1 - a)) 0 z)

    pub weight_measured : ¬ (filled_days p a (b + 1 - a) ≡ 0) → at_least0 (sum_over (day_share p) a b) ≡ weight g a b p
    unfolding weight
    weight_measured z = rw (here, some_filled_lem p a b, ne_eqb (filled_days p a (b + 1 - a)) 0 z)

    pub weight_shown : ¬ (at_least0 (sum_over (day_share p) a b) ≡ 0) → at_least0 (sum_over (day_share p) a b) ≡ weight g a b p
    weight_shown f =
        let n : suc b - a ≡ b + 1 - a = omega arith in
        weight_measured (λ z. f (ap (λ n. at_least0 (sum_from (day_share p) a n)) n ∙ ap at_least0 (shares_none p (b + 1 - a) a z)))

-- ---- a daily point's gas

-- The test of the seven days before g gives t.
abbrev pub Week : Point → ℕ → Bool → Type 0
Week p g t = (leb 7 g && all_filled p (g - 7) 7) ≡ t

module _ (p : Point) (g : ℕ) where
  pub gas_day : filled p g ≡ true → day_share p g ≡ daily_gas g p
  unfolding daily_gas
  gas_day e = rw e

  module _ (no : filled p g ≡ false) where
    pub gas_week : Week p g true → day_share p (g - 7) ≡ daily_gas g p
    unfolding daily_gas
    gas_week e = rw (no, e)

    module _ (nor : Week p g false) where
      pub gas_before : filled p (g - 1) ≡ true → day_share p (g - 1) ≡ daily_gas g p
      unfolding daily_gas
      gas_before e = rw (no, nor, e)

      pub gas_none : filled p (g - 1) ≡ false → pos 0 ≡ daily_gas g p
      unfolding daily_gas
      gas_none e = rw (no, nor, e)

  pub metered_gas : (active g p && eqb p.facts.kind 1) ≡ true → daily_gas g p ≡ metered_of g p
  unfolding metered_of
  metered_gas e = rw e

  pub metered_none : (active g p && eqb p.facts.kind 1) ≡ false → pos 0 ≡ metered_of g p
  unfolding metered_of
  metered_none e = rw e
