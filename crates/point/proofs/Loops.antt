-- What the loops of this crate and their callers need of the tests. Assumes nothing.
use mathlib.Core.Path.{◌≡◌, refl, sym, ◌∙◌}
use mathlib.Core.Bool.{Bool, true, false, not, ◌&&◌}
use mathlib.Core.List.{List}
use Prim.Native.Nat.{ℕ, suc, ◌+◌, ◌-◌, ◌≤◌, ◌<◌, ◌^◌}
use native.Mathlib.Omega.{arith}
use native.Mathlib.Numerals.{add-one}
use borrow.Author.Tests.{leb-true, ltb-true, ltb-false, eqb-true, eq-eqb}
use lib.Bits.{bit_or, or_add_and, and_le_l, and_le_r}
use lib.Dec.{leb, ltb, eqb}
use lib.ListN.{length}
use lib.IntN.{ℤ, pos, negsuc}
use mir.Syntax.{w64}
use mir.Val.{SFits, of_z}
use Rattle.numbers.specs.Naturals.{nat_of}
use Rattle.numbers.specs.Rows.{all}
use Rattle.numbers.proofs.Bools.{both, join, iff}
use Rattle.numbers.proofs.Rows.{all_none}
use Rattle.layout.specs.Layout.{num_at}
use Rattle.layout.specs.Sound.{counts_sound, zeros}
use Rattle.layout.proofs.PartLays.{counts}
use Rattle.point.specs.InnerTests.{rows, Counted, Bits, reg_ok, off_day, on_day, past, passed}

-- ---- rows, by a loop with the invariant that what is left to test decides the whole

module _ {S : Type 0} (test : S → ℕ → Bool) (next : S → ℕ → S) (s : S) (k n : ℕ) where
  pub rows_pass : (s' : S) → k < n → test s k ≡ true → s' ≡ next s k → rows test next s k (n - k) ≡ rows test next s' (k + 1) (n - (k + 1))
  unfolding rows
  rows_pass s' l e q = let m : n - k ≡ suc (n - (k + 1)) = omega arith in rw (m, e, add-one k, q)

  pub rows_fail : k < n → test s k ≡ false → rows test next s k (n - k) ≡ false
  unfolding rows
  rows_fail l e = let m : n - k ≡ suc (n - (k + 1)) = omega arith in rw (m, e)

  pub rows_end : n ≤ k → rows test next s k (n - k) ≡ true
  unfolding rows
  rows_end l = let m : n - k ≡ 0 = omega arith in rw m

-- ---- spans that are passed

module _ (p : List ℤ) (d k n : ℕ) where
  pub passed_more : k < n → passed p d k (n - k) ≡ passed p (past (off_day p k) (on_day p k) d) (k + 1) (n - (k + 1))
  unfolding passed
  passed_more l = let m : n - k ≡ suc (n - (k + 1)) = omega arith in rw (m, add-one k)

  pub passed_end : n ≤ k → passed p d k (n - k) ≡ d
  unfolding passed
  passed_end l = let m : n - k ≡ 0 = omega arith in rw m

-- ---- bits

pub bits_are : (x : ℤ) → SFits w64 x → Bits (nat_of x) (of_z w64 x)
bits_are (pos n) f = record { same = λ l. refl; large = λ l. l }
bits_are (negsuc n) f = record { same = λ l. absurd (omega arith); large = λ l. omega (arith, f.sfits) }

module _ (n r : ℕ) (b : Bits n r) (d : ℕ) (l : d < 2 ^ 63) where
  pub bits_small : r ≤ d → r ≡ n
  bits_small h = go (ltb n (2 ^ 63)) refl
    where
      go : (t : Bool) → ltb n (2 ^ 63) ≡ t → r ≡ n
      go true q = b.same (ltb-true n (2 ^ 63) q)
      go false q = absurd (omega (arith, b.large (ltb-false n (2 ^ 63) q)))

  pub bits_le : leb r d ≡ leb n d
  bits_le =
      iff _ _ (λ h. rw (← bits_small (leb-true r d h)) h)
      (λ h. let u : n ≤ d = leb-true n d h in rw (b.same (omega arith)) h)

  pub bits_eq : eqb r d ≡ eqb n d
  bits_eq =
      iff _ _ (λ h. let u : r ≡ d = eqb-true r d h in rw (← bits_small (omega arith)) h)
      (λ h. let u : n ≡ d = eqb-true n d h in rw (b.same (omega arith)) h)

-- a registration is tested by the bits of its row
pub small_start : (u lo x y : ℕ) → reg_ok (u, lo) x y ≡ true → x ≤ 40000
small_start u lo x y h =
    let d = both (leb lo x && leb x 40000 && leb 1 y && leb y 16) (not (eqb u y)) h in
    let e = both (leb lo x && leb x 40000 && leb 1 y) (leb y 16) d.0 in
    let i = both (leb lo x && leb x 40000) (leb 1 y) e.0 in
    leb-true x 40000 (both (leb lo x) (leb x 40000) i.0).1

small_user : (u lo x y : ℕ) → reg_ok (u, lo) x y ≡ true → y ≤ 16
small_user u lo x y h =
    let d = both (leb lo x && leb x 40000 && leb 1 y && leb y 16) (not (eqb u y)) h in
    leb-true y 16 (both (leb lo x && leb x 40000 && leb 1 y) (leb y 16) d.0).1

module _ (u lo a b x y : ℕ) (f : Bits a x) (g : Bits b y) where
  pub reg_same : reg_ok (u, lo) x y ≡ true → (x ≡ a) × (y ≡ b)
  reg_same h =
      (bits_small a x f 40000 (omega arith) (small_start u lo x y h), bits_small b y g 16 (omega arith) (small_user u lo x y h))

  pub reg_test_lem : reg_ok (u, lo) x y ≡ reg_ok (u, lo) a b
  reg_test_lem =
      iff _ _ (λ h. let e = reg_same h in rw (← e.0, ← e.1) h)
      (λ h. rw (f.same (omega (arith, small_start u lo a b h)), g.same (omega (arith, small_user u lo a b h))) h)

-- ---- zeros, by the bits of the places joined

or_none : (a b : ℕ) → eqb (bit_or a b) 0 ≡ (eqb b 0 && eqb a 0)
or_none a b =
    iff _ _
    (λ h.
    let z : bit_or a b ≡ 0 = eqb-true _ 0 h in
    let l = or_add_and a b in
    join (eq-eqb b 0 (omega (arith, and_le_l a b))) (eq-eqb a 0 (omega (arith, and_le_r a b))))
    (λ h. let e = both _ _ h in rw (eqb-true a 0 e.1, eqb-true b 0 e.0))

module _ (p : List ℤ) (a : ℕ) where
  pub zeros_none : true ≡ zeros p a a
  unfolding zeros
  zeros_none = let m : a - a ≡ 0 = omega arith in rw m (sym (all_none _))

  pub zeros_more : (i x y : ℕ) → a ≤ i → eqb x 0 ≡ zeros p a i → Bits (num_at p i) y → eqb (bit_or x y) 0 ≡ zeros p a (i + 1)
  unfolding zeros all
  zeros_more i x y l h b =
      let m : i + 1 - a ≡ suc (i - a) = omega arith in
      let q : a + (i - a) ≡ i = omega arith in
      or_none x y ∙ rw (m, q, h, bits_eq (num_at p i) y b 0 (omega arith))

  pub zeros_end : (i b : ℕ) → i - a ≡ b - a → zeros p a i ≡ zeros p a b
  unfolding zeros
  zeros_end i b e = rw e

-- ---- counts

pub counted : (p : List ℤ) → 48 ≤ length p → counts_sound p ≡ true → Counted p
counted p l h =
    let c = counts p h in
    record { long = l; some_regs = c.some_regs; few_regs = c.few_regs; few_spans = c.few_offs; few_recs = omega (arith, c.few_recs) }
