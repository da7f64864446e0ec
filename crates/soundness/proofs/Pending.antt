-- A pending request, or three zeros: what passes the tests is well-formed, and what is well-formed passes.
-- Assumes nothing.
use mathlib.Core.Path.{◌≡◌, refl, sym, ap, ap₂, ◌∙◌}
use mathlib.Core.Bool.{true, not, ◌&&◌, ◌||◌, cond}
use mathlib.Core.Option.{Option}
use mathlib.Core.List.{List}
use Prim.Native.Nat.{ℕ, zero, suc, ◌-◌, ◌≤◌}
use native.Mathlib.Omega.{arith}
use borrow.Author.Tests.{leb-true, le-leb, eq-eqb, ne_eqb, not-true}
use lib.Dec.{eqb, leb}
use lib.IntN.{ℤ}
use Rattle.numbers.specs.Rows.{all}
use Rattle.numbers.proofs.Bools.{both, join}
use Rattle.daybook.specs.Book.{Pending}
use Rattle.lists.specs.InnerWell.{PendingOk, nopending, pending}
use Rattle.layout.specs.Layout.{num_at, pending_or_zeros, pending_from}
use Rattle.layout.specs.Sound.{zeros}
use Rattle.point.specs.InnerTests.{reg_user, reg_row}
use Rattle.soundness.specs.InnerPart.{pending_ok}
use Rattle.point.proofs.Rows.{rows_at, length_rows}
use Rattle.point.proofs.Registrations.{latest_user}

module _ (p : List ℤ) (n : ℕ) (some-regs : 1 ≤ n) where
  abbrev regs : List (ℕ × ℕ)
  regs = rows_at (reg_row p) 0 n

  pub pending_well : pending_ok p n ≡ true → PendingOk regs (pending_from (num_at p 7) (num_at p 8) (num_at p 9))
  unfolding pending_ok
  pending_well h = go (num_at p 7) h
    where
      go : (u : ℕ)
          → (eqb u 0 || leb u 16 && not (eqb (reg_user p (n - 1)) u) && leb (num_at p 8) (num_at p 9) && leb (num_at p 9) 39999 && leb n 7) ≡ true
          → PendingOk regs (pending_from u (num_at p 8) (num_at p 9))
      go zero q = nopending
      go (suc u) q =
          let a = both _ _ (rw (ne_eqb (suc u) 0 (omega arith)) at q) in
          let b = both _ _ a.0 in
          let d = both _ _ b.0 in
          let e = both _ _ d.0 in
          pending {q = record { user = suc u; first = num_at p 8; last = num_at p 9 }} (omega arith) (leb-true _ _ e.0)
          (ap (λ v. eqb v (suc u)) (latest_user p n some-regs) ∙ not-true _ e.1) (leb-true _ _ d.1) (leb-true _ _ b.1)
          (omega (arith, length_rows (reg_row p) 0 n, leb-true n 7 a.1))

  -- the three places of a request, or of none
  pub record Places (o : Option Pending) : Type 0 where
    pub user : num_at p 7 ≡ (pending_or_zeros o).user
    pub first : num_at p 8 ≡ (pending_or_zeros o).first
    pub last : num_at p 9 ≡ (pending_or_zeros o).last

  pub pending_pass : {o : Option Pending} → PendingOk regs o → Places o → pending_ok p n ≡ true
  unfolding pending_ok
  pending_pass nopending s = rw (eq-eqb (num_at p 7) 0 s.user)
  pending_pass (pending {q} a b d e f g) s =
      rw (ne_eqb (num_at p 7) 0 (λ (z : num_at p 7 ≡ 0). omega (arith, s.user)))
      (join (join (join (join (le-leb (num_at p 7) 16 (omega (arith, s.user))) (ap not (ap₂ eqb (sym (latest_user p n some-regs)) s.user ∙ d)))
      (le-leb (num_at p 8) (num_at p 9) (omega (arith, s.first, s.last)))) (le-leb (num_at p 9) 39999 (omega (arith, s.last))))
      (le-leb n 7 (omega (arith, length_rows (reg_row p) 0 n))))

  -- without a User all three are 0
  pub pending_zero : {o : Option Pending} → PendingOk regs o → Places o → cond (eqb (num_at p 7) 0) (zeros p 7 10) true ≡ true
  unfolding zeros all
  pending_zero nopending s =
      rw (eq-eqb (num_at p 7) 0 s.user) (join (eq-eqb (num_at p 9) 0 s.last) (join (eq-eqb (num_at p 8) 0 s.first) refl))
  pending_zero (pending {q} a b d e f g) s = rw (ne_eqb (num_at p 7) 0 (λ (z : num_at p 7 ≡ 0). omega (arith, s.user)))
