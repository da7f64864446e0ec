-- Equations of integers for omega, which reads naturals: each z is up z - dn z, each operation has one fact of these,
-- and eq_z is the way back. Assumes nothing.
use mathlib.Core.Path.{◌≡◌, refl, sym, ap}
use mathlib.Core.Bool.{Bool, true, false}
use Prim.Native.Nat.{ℕ, zero, suc, ◌+◌, ◌-◌, ◌*◌, ◌^◌, ◌≤◌, ◌<◌}
use native.Mathlib.Nat.{zero-mul}
use native.Mathlib.Omega.{arith}
use borrow.Author.Tests.{ltb-true, ltb-false, leb-true, leb-false}
use lib.Dec.{ltb}
use lib.Signed.{le_z}
use lib.IntN.{ℤ, pos, negsuc, neg_ℤ, sub_ℕ, ◌+ℤ◌, ◌-ℤ◌, ◌*ℤ◌, neg_ℤ-neg_ℤ}
use mir.Val.{SFits}
use mir.Syntax.{w64}

abbrev pub up : ℤ → ℕ
up (pos n) = n
up (negsuc n) = 0

abbrev pub dn : ℤ → ℕ
dn (pos n) = 0
dn (negsuc n) = suc n

-- ---- what each operation does

pub sub_fact : (a b : ℕ) → up (sub_ℕ a b) + b ≡ a + dn (sub_ℕ a b)
sub_fact a b = go (ltb a b) refl
  where
    go : (t : Bool) → ltb a b ≡ t → up (sub_ℕ a b) + b ≡ a + dn (sub_ℕ a b)
    go true e = let h : a < b = ltb-true a b e in rw e (omega arith)
    go false e = let h : b ≤ a = ltb-false a b e in rw e (omega arith)

pub neg_fact : (x : ℤ) → up (neg_ℤ x) + up x ≡ dn (neg_ℤ x) + dn x
neg_fact (pos zero) = refl
neg_fact (pos (suc n)) = omega arith
neg_fact (negsuc n) = omega arith

pub add_fact : (x y : ℤ) → up (x +ℤ y) + dn x + dn y ≡ up x + up y + dn (x +ℤ y)
add_fact (pos a) (pos b) = omega arith
add_fact (pos a) (negsuc b) = omega (arith, sub_fact a (suc b))
add_fact (negsuc a) (pos b) = omega (arith, sub_fact b (suc a))
add_fact (negsuc a) (negsuc b) = omega arith

pub minus_fact : (x y : ℤ) → up (x -ℤ y) + dn x + up y ≡ up x + dn y + dn (x -ℤ y)
minus_fact x y = omega (arith, add_fact x (neg_ℤ y), neg_fact y)

pub mul_fact : (x : ℤ) (k : ℕ) → up (x *ℤ pos k) + dn x * k ≡ up x * k + dn (x *ℤ pos k)
mul_fact (pos a) k = omega (arith, zero-mul k)
mul_fact (negsuc a) k = omega (arith, zero-mul k, neg_fact (pos (suc a * k)))

-- ---- orders

pub le_fact : (x y : ℤ) → le_z x y ≡ true → up x + dn y ≤ up y + dn x
le_fact (pos a) (pos b) e = omega (arith, leb-true a b e)
le_fact (pos a) (negsuc b) e = let z : ◌≡◌ {A = ℕ} 0 1 = cc in absurd (omega arith)
le_fact (negsuc a) (pos b) e = omega arith
le_fact (negsuc a) (negsuc b) e = omega (arith, leb-true b a e)

pub gt_fact : (x y : ℤ) → le_z x y ≡ false → up y + dn x < up x + dn y
gt_fact (pos a) (pos b) e = omega (arith, leb-false a b e)
gt_fact (pos a) (negsuc b) e = omega arith
gt_fact (negsuc a) (pos b) e = let z : ◌≡◌ {A = ℕ} 0 1 = cc in absurd (omega arith)
gt_fact (negsuc a) (negsuc b) e = omega (arith, leb-false b a e)

-- ---- the way back

pub eq_z : (x y : ℤ) → up x + dn y ≡ up y + dn x → x ≡ y
eq_z (pos a) (pos b) e = ap pos (omega arith)
eq_z (pos a) (negsuc b) e = absurd (omega arith)
eq_z (negsuc a) (pos b) e = absurd (omega arith)
eq_z (negsuc a) (negsuc b) e = ap negsuc (omega arith)

pub sfits_of_bounds : (z : ℤ) → up z < 2 ^ 63 → dn z < 2 ^ 63 → SFits w64 z
sfits_of_bounds (pos n) h k = record { sfits = h }
sfits_of_bounds (negsuc n) h k = record { sfits = omega arith }

-- ---- equations that are cited often

pub difference_split : (x : ℤ) → x ≡ sub_ℕ (up x) (dn x)
difference_split x = eq_z _ _ (omega (arith, sub_fact (up x) (dn x)))

pub neg_mul : (x : ℤ) (k : ℕ) → neg_ℤ x *ℤ pos k ≡ neg_ℤ (x *ℤ pos k)
neg_mul (pos zero) k = rw (zero-mul k) refl
neg_mul (pos (suc a)) k = refl
neg_mul (negsuc a) k = sym (neg_ℤ-neg_ℤ (pos (suc a * k)))

pub pos_minus : (a b : ℕ) → pos a -ℤ pos b ≡ sub_ℕ a b
pos_minus a b = eq_z _ _ (omega (arith, minus_fact (pos a) (pos b), sub_fact a b))

-- two numbers raised by m
pub sub_minus : (a b m : ℕ) → sub_ℕ a m -ℤ sub_ℕ b m ≡ sub_ℕ a b
sub_minus a b m =
    eq_z _ _ (omega (arith, sub_fact a b, sub_fact a m, sub_fact b m, minus_fact (sub_ℕ a m) (sub_ℕ b m)))

pub add_swap : (x y z w : ℤ) → (x +ℤ y) +ℤ (z +ℤ w) ≡ (x +ℤ z) +ℤ (y +ℤ w)
add_swap x y z w =
    eq_z _ _ (omega (arith, add_fact (x +ℤ y) (z +ℤ w), add_fact x y, add_fact z w, add_fact (x +ℤ z) (y +ℤ w), add_fact x z, add_fact y w))

pub sub_bounds : (a b : ℕ) → (up (sub_ℕ a b) ≤ a) × (dn (sub_ℕ a b) ≤ b)
sub_bounds a b = go (ltb a b) refl
  where
    go : (t : Bool) → ltb a b ≡ t → (up (sub_ℕ a b) ≤ a) × (dn (sub_ℕ a b) ≤ b)
    go true e = let h : a < b = ltb-true a b e in rw e (omega arith, omega arith)
    go false e = let h : b ≤ a = ltb-false a b e in rw e (omega arith, omega arith)

pub sub_sfits : (a b : ℕ) → a < 2 ^ 63 → b < 2 ^ 63 → SFits w64 (sub_ℕ a b)
sub_sfits a b h k =
    sfits_of_bounds (sub_ℕ a b) (omega (arith, (sub_bounds a b).0)) (omega (arith, (sub_bounds a b).1))

-- ---- numbers that are raised, so that they are naturals

-- raised by b instead of m
pub raise : (a m b : ℕ) → m ≤ a + b → sub_ℕ (a + b - m) b ≡ sub_ℕ a m
raise a m b h = eq_z _ _ (omega (arith, sub_fact (a + b - m) b, sub_fact a m))

-- one number, raised by m
pub raised_same : (a b m : ℕ) → sub_ℕ a m ≡ sub_ℕ b m → a ≡ b
raised_same a b m e = omega (arith, sub_fact a m, sub_fact b m, ap up e, ap dn e)

pub pos_same : {a b : ℕ} → pos a ≡ pos b → a ≡ b
pos_same e = cc

-- numbers that are at most m apart
pub sub_near : (a b m : ℕ) → a ≤ b + m → b ≤ a + m → (up (sub_ℕ a b) ≤ m) × (dn (sub_ℕ a b) ≤ m)
sub_near a b m h k = go (ltb a b) refl
  where
    go : (t : Bool) → ltb a b ≡ t → (up (sub_ℕ a b) ≤ m) × (dn (sub_ℕ a b) ≤ m)
    go true e = let l : a < b = ltb-true a b e in rw e (omega arith, omega arith)
    go false e = let l : b ≤ a = ltb-false a b e in rw e (omega arith, omega arith)
