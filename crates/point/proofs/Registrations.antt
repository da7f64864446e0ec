-- Registrations: rows that pass the tests are well-formed, and well-formed rows pass. Assumes nothing.
use mathlib.Core.Path.{◌≡◌, refl, ap, ◌∙◌}
use mathlib.Core.Bool.{true, not}
use mathlib.Core.Option.{Option}
use mathlib.Core.List.{List}
use Prim.Native.Nat.{ℕ, zero, suc, ◌+◌, ◌-◌, ◌≤◌}
use native.Mathlib.Omega.{arith}
use borrow.Author.Tests.{leb-true, eqb-true, eq-eqb, le-leb, not-true}
use lib.IntN.{ℤ}
use Rattle.numbers.specs.Search.{maybe}
use Rattle.numbers.proofs.Bools.{both, join}
use Rattle.lists.specs.InnerSteps.{latest_of}
use Rattle.lists.specs.InnerWell.{Regs, noreg, reg, StartsOn, starts}
use Rattle.lists.proofs.Last.{last_at}
use Rattle.layout.specs.Layout.{num_at}
use Rattle.point.specs.InnerTests.{rows, reg_start, reg_user, reg_at, reg_leaves, regs_ok, reg_row}
use Rattle.point.proofs.Rows.{rows_at, length_rows, get_d_rows}

module _ (p : List ℤ) where
  regs_well : (n k u lo : ℕ) → rows (reg_at p) (reg_leaves p) (u, lo) k n ≡ true → Regs u lo (rows_at (reg_row p) k n)
  unfolding rows rows_at
  regs_well zero k u lo h = noreg
  regs_well (suc n) k u lo h =
      let a = both _ _ h in
      let b = both _ _ a.0 in
      let d = both _ _ b.0 in
      let e = both _ _ d.0 in
      let f = both _ _ e.0 in
      reg (leb-true _ _ f.0) (leb-true _ _ f.1) (leb-true _ _ e.1) (leb-true _ _ d.1) (not-true _ b.1)
      (regs_well n (suc k) (reg_user p k) (suc (reg_start p k)) a.1)

  regs_pass : (n k u lo : ℕ) → Regs u lo (rows_at (reg_row p) k n) → rows (reg_at p) (reg_leaves p) (u, lo) k n ≡ true
  unfolding rows rows_at
  regs_pass zero k u lo r = refl
  regs_pass (suc n) k u lo (reg a b d e f r) =
      join (join (join (join (join (le-leb _ _ a) (le-leb _ _ b)) (le-leb _ _ d)) (le-leb _ _ e)) (ap not f))
      (regs_pass n (suc k) (reg_user p k) (suc (reg_start p k)) r)

  starts_on_lem : (n install : ℕ) → 1 ≤ n → reg_start p 0 ≡ install → StartsOn install (rows_at (reg_row p) 0 n)
  unfolding rows_at
  starts_on_lem zero install h e = absurd (omega arith)
  starts_on_lem (suc n) install h e = starts e

  starts_at : (n install : ℕ) → StartsOn install (rows_at (reg_row p) 0 n) → (1 ≤ n) × (reg_start p 0 ≡ install)
  unfolding rows_at
  starts_at (suc n) install (starts e) = (omega arith, e)
  starts_at zero install x' = elim x' [ ]

  -- the tests and the lists say the same
  pub registrations_well : (n : ℕ) → 1 ≤ n → regs_ok p n ≡ true
      → Regs 0 (num_at p 2) (rows_at (reg_row p) 0 n) × StartsOn (num_at p 2) (rows_at (reg_row p) 0 n)
  unfolding regs_ok
  registrations_well n l h =
      let a = both _ _ h in (regs_well n 0 0 (num_at p 2) a.1, starts_on_lem n (num_at p 2) l (eqb-true _ _ a.0))

  pub registrations_pass : (n : ℕ) → Regs 0 (num_at p 2) (rows_at (reg_row p) 0 n) → StartsOn (num_at p 2) (rows_at (reg_row p) 0 n)
      → regs_ok p n ≡ true
  unfolding regs_ok
  registrations_pass n r s = join (eq-eqb _ _ (starts_at n (num_at p 2) s).1) (regs_pass n 0 0 (num_at p 2) r)

  -- the latest User stands at the last row
  pub latest_user : (n : ℕ) → 1 ≤ n → (latest_of (rows_at (reg_row p) 0 n)).1 ≡ reg_user p (n - 1)
  unfolding latest_of
  latest_user zero l = absurd (omega arith)
  latest_user (suc n) l =
      let regs : List (ℕ × ℕ) = rows_at (reg_row p) 0 (suc n) in
      let e : 0 + n ≡ suc n - 1 = omega arith in
      ap (λ (o : Option (ℕ × ℕ)). (maybe (0, 0) (λ x. x) o).1) (last_at (0, 0) regs n (length_rows (reg_row p) 0 (suc n)))
      ∙ ap (λ (r : ℕ × ℕ). r.1) (get_d_rows (reg_row p) (suc n) 0 n (0, 0) (omega arith)) ∙ ap (reg_user p) e
