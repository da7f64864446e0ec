-- Signed numbers as the machine holds them, read as naturals and as energies. Assumes nothing.
use mathlib.Core.Path.{◌≡◌, refl, ap}
use mathlib.Core.Bool.{Bool, true, false}
use Prim.Native.Nat.{ℕ, suc, ◌-◌, ◌^◌, ◌≤◌, ◌<◌}
use native.Mathlib.Omega.{arith}
use borrow.Author.Tests.{ltb-true, le-ltb, eqb-true}
use lib.Dec.{T, leb, ltb}
use lib.IntN.{ℤ, pos, negsuc, nat_abs, ◌+ℤ◌}
use lib.Signed.{lt_z, non_neg, mag}
use mir.Val.{Fits, SFits, to_z, of_z}
use mir.ValLaws.{to_z-of_z, to_z_pos}
use mir.Syntax.{w64}
use Rattle.numbers.specs.Naturals.{nat_of, same_z}
use Rattle.numbers.specs.InnerEnergies.{bias_of, energy_of}
use Rattle.numbers.proofs.Integers.{up, dn, eq_z, add_fact, sub_fact}

-- what the machine reads of x's bits
abbrev pub rd : ℤ → ℤ
rd x = to_z w64 (of_z w64 x)

-- ---- a natural

neg_clean : (x : ℤ) → lt_z x (pos 0) ≡ true → 2 ^ 63 ≡ nat_of x
neg_clean (pos n) e = let h : n < 0 = ltb-true n 0 e in omega arith
neg_clean (negsuc n) e = refl

nonneg_clean : (x : ℤ) → mag x < 2 ^ 63 → lt_z x (pos 0) ≡ false → (T (non_neg x) × Fits w64 (nat_abs x)) × (nat_abs x ≡ nat_of x)
nonneg_clean (pos n) h e = ((tt, record { fits = omega arith }), refl)
nonneg_clean (negsuc n) h e = let z : ◌≡◌ {A = ℕ} 0 1 = cc in absurd (omega arith)

nat_of_clean : (x : ℤ) → mag x < 2 ^ 63 → nat_of x ≤ 2 ^ 63
nat_of_clean (pos n) h = omega arith
nat_of_clean (negsuc n) h = omega arith

module _ {x : ℤ} (f : SFits w64 x) where
  pub neg_nat_of : lt_z (rd x) (pos 0) ≡ true → 2 ^ 63 ≡ nat_of x
  neg_nat_of e = neg_clean x (rw (to_z-of_z w64 x f) at e)

  pub nonneg_cast : lt_z (rd x) (pos 0) ≡ false → T (non_neg (rd x)) × Fits w64 (nat_abs (rd x))
  nonneg_cast e = rw (to_z-of_z w64 x f) (nonneg_clean x f.sfits (rw (to_z-of_z w64 x f) at e)).0

  pub nonneg_nat_of : lt_z (rd x) (pos 0) ≡ false → nat_abs (rd x) ≡ nat_of x
  nonneg_nat_of e = rw (to_z-of_z w64 x f) (nonneg_clean x f.sfits (rw (to_z-of_z w64 x f) at e)).1

  pub nat_of_small : nat_of x ≤ 2 ^ 63
  nat_of_small = nat_of_clean x f.sfits

-- a natural below the marker is the number itself
pub nat_of_is : (x : ℤ) → nat_of x < 2 ^ 63 → x ≡ pos (nat_of x)
nat_of_is (pos n) h = refl
nat_of_is (negsuc n) h = absurd (omega arith)

-- ---- an energy

-- a small natural as the machine's signed number
pub pos_sfits : {n : ℕ} → n < 2 ^ 63 → SFits w64 (pos n)
pos_sfits h = record { sfits = h }

pub pos_cast : {z : ℤ} {n : ℕ} → z ≡ pos n → n < 2 ^ 63 → (T (non_neg (rd z)) × Fits w64 (nat_abs (rd z))) × (nat_abs (rd z) ≡ n)
pos_cast {z} {n} e h = rw (e, to_z_pos w64 n h) ((tt, record { fits = omega arith }), refl)

-- an energy within its bounds comes back from its bias
pub bias_raised : (x : ℤ) → bias_of x ≤ 2000000 → x +ℤ pos 1000000 ≡ pos (bias_of x)
bias_raised (pos n) h = go (leb n 1000000) refl
  where
    go : (t : Bool) → leb n 1000000 ≡ t → pos n +ℤ pos 1000000 ≡ pos (bias_of (pos n))
    go true e = rw e
    go false e = let g : 2 ^ 63 ≤ 2000000 = rw e at h in absurd (omega arith)
bias_raised (negsuc n) h = go (ltb n 1000000) refl
  where
    go : (t : Bool) → ltb n 1000000 ≡ t → negsuc n +ℤ pos 1000000 ≡ pos (bias_of (negsuc n))
    go true e =
        let g : n < 1000000 = ltb-true n 1000000 e in
        let d : 1000000 - suc n ≡ 999999 - n = omega arith in
        rw (e, le-ltb 1000000 (suc n) g, d)
    go false e = let g : 2 ^ 63 ≤ 2000000 = rw e at h in absurd (omega arith)

pub bias_is : (x : ℤ) → bias_of x ≤ 2000000 → energy_of (bias_of x) ≡ x
bias_is x h =
    let e : x +ℤ pos 1000000 ≡ pos (bias_of x) = bias_raised x h in
    eq_z _ _ (omega (arith, sub_fact (bias_of x) 1000000, add_fact x (pos 1000000), ap up e, ap dn e))

-- ---- equality

pub same_true : (a b : ℤ) → same_z a b ≡ true → a ≡ b
same_true (pos a) (pos b) e = ap pos (eqb-true a b e)
same_true (pos a) (negsuc b) e = let z : ◌≡◌ {A = ℕ} 0 1 = cc in absurd (omega arith)
same_true (negsuc a) (pos b) e = let z : ◌≡◌ {A = ℕ} 0 1 = cc in absurd (omega arith)
same_true (negsuc a) (negsuc b) e = ap negsuc (eqb-true a b e)

-- ---- a number that is copied is read as it is

module _ (z : ℤ) (f : SFits w64 z) where
  pub natural_read : nat_of (rd z) ≡ nat_of z
  natural_read = ap nat_of (to_z-of_z w64 z f)

  pub bias_read : bias_of (rd z) ≡ bias_of z
  bias_read = ap bias_of (to_z-of_z w64 z f)

  pub test_read : (p : ℤ → Bool) → p (rd z) ≡ p z
  test_read p = ap p (to_z-of_z w64 z f)
