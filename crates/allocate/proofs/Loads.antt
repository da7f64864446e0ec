-- The window of an allocation on naturals, and the net section load from raised numbers. Assumes nothing.
use mathlib.Core.Path.{◌≡◌, refl, sym, ap, ap₂, ◌∙◌}
use mathlib.Core.Bool.{Bool, true, false, ◌&&◌, false≢true}
use Prim.Native.Nat.{ℕ, ◌+◌, ◌-◌, ◌≤◌}
use native.Mathlib.Omega.{arith}
use lib.Dec.{leb}
use lib.IntN.{ℤ, pos, negsuc, sub_ℕ, ◌+ℤ◌, ◌-ℤ◌}
use lib.Signed.{le_z, lt_z}
use borrow.Author.Tests.{leb-true, leb-false, le-leb, lt-leb}
use Rattle.numbers.specs.Naturals.{nat_of}
use Rattle.numbers.proofs.Bools.{both, and_where}
use Rattle.numbers.proofs.Integers.{up, dn, eq_z, add_fact, minus_fact, sub_fact, le_fact}
use Rattle.calendar.specs.Calendar.{within, is_day}
use Rattle.daybook.specs.declared.AllocationQuery.{AllocationQuery}
use Rattle.daybook.specs.Queries.{at_least0}
use Rattle.readings.proofs.Weights.{at_least}
use Rattle.allocate.specs.InnerParts.{load_of}

-- ---- an amount of at most 1,000,000,000 either way

abbrev pub is_load : ℤ → Bool
is_load x = within (negsuc 999999999) (pos 1000000000) x

abbrev pub raised : ℤ → ℕ
raised x = up x + 1000000000 - dn x

module _ (x : ℤ) (e : is_load x ≡ true) where
  bounds : (dn x ≤ up x + 1000000000) × (up x ≤ 1000000000 + dn x)
  bounds =
      let b = both (le_z (negsuc 999999999) x) (le_z x (pos 1000000000)) e in
      (omega (arith, le_fact (negsuc 999999999) x b.0), omega (arith, le_fact x (pos 1000000000) b.1))

  pub load_raised : x +ℤ pos 1000000000 ≡ pos (raised x)
  load_raised = eq_z _ _ (omega (arith, bounds.0, add_fact x (pos 1000000000)))

  pub load_back : sub_ℕ (raised x) 1000000000 ≡ x
  load_back = eq_z _ _ (omega (arith, bounds.0, sub_fact (raised x) 1000000000))

  pub load_small : raised x ≤ 2000000000
  load_small = omega (arith, bounds.1)

-- ---- the net section load

module _ (q : AllocationQuery) (tdq tdm most uag clp : ℕ) (a : q.tdq ≡ pos tdq) (b : sub_ℕ uag 1000000000 ≡ q.uag) (c : sub_ℕ clp 1000000000 ≡ q.clp) where
  pub net_load : tdq + most + 2000000000 - (tdm + uag + clp) ≡ at_least0 (load_of q tdm most)
  net_load = sym (ap at_least0 whole ∙ at_least (tdq + most + 2000000000) (tdm + uag + clp))
    where
      whole : load_of q tdm most ≡ sub_ℕ (tdq + most + 2000000000) (tdm + uag + clp)
      whole =
          rw (a, ← b, ← c)
          (eq_z _ _ (omega (arith, minus_fact (pos tdq -ℤ sub_ℕ tdm most -ℤ sub_ℕ uag 1000000000) (sub_ℕ clp 1000000000), minus_fact (pos tdq -ℤ sub_ℕ tdm most) (sub_ℕ uag 1000000000), minus_fact (pos tdq) (sub_ℕ tdm most), sub_fact tdm most, sub_fact uag 1000000000, sub_fact clp 1000000000, sub_fact (tdq + most + 2000000000) (tdm + uag + clp))))

-- ---- row 2

window_is : (x y : ℕ) → leb y (x + 399) ≡ leb (y - x) 399
window_is x y = go (leb y (x + 399)) refl
  where
    go : (t : Bool) → leb y (x + 399) ≡ t → t ≡ leb (y - x) 399
    go true e = sym (le-leb (y - x) 399 (omega (arith, leb-true y (x + 399) e)))
    go false e = sym (lt-leb (y - x) 399 (omega (arith, leb-false y (x + 399) e)))

-- a day, and the day after another one
pub next_order : (x y : ℤ) → is_day x ≡ true → is_day y ≡ true → leb (nat_of x) (nat_of y + 1) ≡ le_z x (y +ℤ pos 1)
next_order (pos x) (pos y) e f = refl
next_order (pos x) (negsuc y) e f = absurd (false≢true f)
next_order (negsuc x) y e f = absurd (false≢true e)

module _ (g a b : ℤ) where
  abbrev are_days : Bool
  are_days = is_day g && is_day a && is_day b

  in_order : are_days ≡ true → leb (nat_of a) (nat_of b + 1) ≡ le_z a (b +ℤ pos 1)
  in_order e =
      let d = both (is_day g && is_day a) (is_day b) e in next_order a b (both (is_day g) (is_day a) d.0).1 d.1

  -- the days' order and the window's length, by naturals
  pub window : (are_days && leb (nat_of a) (nat_of b + 1) && lt_z b g && leb (nat_of b) (nat_of a + 399))
      ≡ (are_days && le_z a (b +ℤ pos 1) && lt_z b g && leb (nat_of b - nat_of a) 399)
  window = ap₂ (λ p q. p && lt_z b g && q) (and_where are_days in_order) (window_is (nat_of a) (nat_of b))
