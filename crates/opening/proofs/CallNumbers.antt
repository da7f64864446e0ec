-- The numbers of an opening, as the code reads and writes them. Assumes nothing.
use mathlib.Core.Path.{◌≡◌, refl, ap, ap₂, ◌∙◌}
use mathlib.Core.Bool.{true, false, cond}
use mathlib.Core.List.{List}
use Prim.Native.Nat.{ℕ, ◌+◌}
use native.Mathlib.Omega.{arith}
use lib.IntN.{ℤ, pos, negsuc}
use lib.ListN.{set}
use lib.Signed.{lt_z, le_z}
use mir.Val.{SFits}
use mir.ValLaws.{to_z-of_z}
use mir.Syntax.{w64}
use borrow.Author.Tests.{le-leb, ltb-true}
use Rattle.numbers.specs.Naturals.{nat_of}
use Rattle.numbers.proofs.Naturals.{rd, natural_read}
use Rattle.daybook.specs.declared.Edition.{Edition}
use Rattle.daybook.specs.declared.Opening.{Opening}
use Rattle.daybook.specs.declared.Facts.{Facts}
use Rattle.daybook.specs.Notices.{facts_of}
use Rattle.layout.specs.Layout.{place_of, Fits, part_of}
use Rattle.layout.specs.InnerWrites.{with_part, open_point, append_point}
use Rattle.table.proofs.Laws.{part_is_lem, part_put, lent, back_in}

-- ---- the base load

module _ (n : Opening) (f : SFits w64 n.base) where
  pub base_below : lt_z (rd n.base) (pos 0) ≡ true → 1000 ≡ (facts_of n).base
  unfolding facts_of
  base_below e = go n.base (rw (to_z-of_z w64 n.base f) at e)
    where
      go : (z : ℤ) → lt_z z (pos 0) ≡ true → 1000 ≡ cond (le_z (pos 0) z) (nat_of z) 1000
      go (pos b) e = absurd (omega (arith, ltb-true b 0 e))
      go (negsuc b) e = refl

  pub base_itself : lt_z (rd n.base) (pos 0) ≡ false → nat_of (rd n.base) ≡ (facts_of n).base
  unfolding facts_of
  base_itself e = natural_read n.base f ∙ go n.base (rw (to_z-of_z w64 n.base f) at e)
    where
      go : (z : ℤ) → lt_z z (pos 0) ≡ false → nat_of z ≡ cond (le_z (pos 0) z) (nat_of z) 1000
      go (pos b) e = rw (le-leb 0 b (omega arith))
      go (negsuc b) e = let z : ◌≡◌ {A = ℕ} 0 1 = cc in absurd (omega arith)

-- ---- the new point's part, lent and put back, and the count

pub append_is : (ed : Edition) → Fits ed → (t : List ℤ) (i a b : ℕ) → a ≡ place_of ed i → b ≡ place_of ed (i + 1) → (n : Opening)
    → {p : List ℤ} {facts : Facts} {user : ℕ} → facts ≡ facts_of n → user ≡ nat_of n.user → p ≡ open_point (lent t a b) facts user
    → set (back_in t a b p) 0 (pos (i + 1)) ≡ append_point ed t i (facts_of n) (nat_of n.user)
unfolding append_point
append_is ed fits t i a b f g n {p} {facts} {user} x u e =
    ap (λ l. set l 0 (pos (i + 1)))
    (part_put ed fits t i a b f g p
    ∙ ap (with_part ed t i) (e ∙ ap (λ l. open_point l facts user) (part_is_lem ed fits t i a b f g) ∙ ap₂ (open_point (part_of ed t i)) x u))
