-- On days of off spans, as the machine reads them. Assumes nothing.
use mathlib.Core.Path.{◌≡◌, refl, sym, ap, ◌∙◌}
use Prim.Native.Nat.{zero, suc, ◌≤◌, ◌<◌, ◌^◌}
use native.Mathlib.Omega.{arith}
use borrow.Author.Tests.{lt-ltb, le-ltb}
use lib.IntN.{ℤ, pos, negsuc}
use mir.Val.{SFits, to_z, of_z}
use mir.ValLaws.{to_z-of_z}
use mir.Syntax.{w64}
use Rattle.numbers.specs.Naturals.{nat_of}
use Rattle.point.specs.InnerTests.{until_of}

pub until_open : (x : ℤ) → SFits w64 x → of_z w64 x ≡ of_z w64 (negsuc 0) → 40001 ≡ until_of x
until_open x f e =
    let q : x ≡ negsuc 0 = sym (to_z-of_z w64 x f) ∙ ap (to_z w64) e ∙ to_z-of_z w64 (negsuc 0) (record { sfits = omega arith }) in
    rw q

pub until_day : (x : ℤ) → nat_of x < 40000 → nat_of x ≡ until_of x
until_day (pos n) h = rw (lt-ltb n 40000 h)
until_day (negsuc n) h = absurd (omega arith)

pub until_none : (x : ℤ) → ¬ (x ≡ negsuc 0) → 40000 ≤ nat_of x → 2 ^ 63 ≡ until_of x
until_none (pos n) q h = rw (le-ltb n 40000 h)
until_none (negsuc zero) q h = absurd (q refl)
until_none (negsuc (suc n)) q h = refl
