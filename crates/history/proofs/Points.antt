-- Point i of a sound table's book is the point of its part's lists, and on a filled day one registration of those covers
-- the day. Assumes nothing.
use mathlib.Core.Path.{◌≡◌, subst}
use mathlib.Core.Bool.{true}
use mathlib.Core.Option.{some, none-ne-some, some-injective}
use mathlib.Core.List.{List, ◌∷◌, map}
use Prim.Native.Nat.{ℕ, zero, suc, ◌+◌, ◌≤◌}
use native.Mathlib.Omega.{arith}
use native.Mathlib.Nat.{mul-zero}
use lib.IntN.{ℤ}
use lib.ListN.{drop}
use Rattle.daybook.specs.declared.Edition.{Edition}
use Rattle.daybook.specs.Book.{Point, filled}
use Rattle.lists.specs.Lists.{Lists, point_of, book_of}
use Rattle.lists.specs.InnerWell.{Well, Points, point}
use Rattle.lists.proofs.Covering.{covering_one}
use Rattle.layout.specs.Layout.{stride, place_of, Fits, part_of, num_at, point_from, points_from, register_of, table_book}
use Rattle.layout.specs.Sound.{sound}
use Rattle.layout.proofs.Mirns.{next}
use Rattle.layout.proofs.TableSound.{sound_lays}
use Rattle.history.specs.Agreement.{point_no, OneUser}
use Rattle.history.proofs.Accounts.{installed_user, filled_installed}

pub first_well : {room : ℕ} {q : Lists} {qs : List Lists} → Points room (q ∷ qs) → Well room q
first_well (point w n r) = w

pub others : {room : ℕ} {q : Lists} {qs : List Lists} → Points room (q ∷ qs) → Points room qs
others (point w n r) = r

module _ (ed : Edition) (t : List ℤ) where
  -- The lists of point i.
  abbrev pub lists_at : ℕ → Lists
  lists_at i = point_from (part_of ed t i)

  -- among the k points from point a on
  among : (k a i : ℕ) (p : Point) → Points ed.records (points_from ed k (drop (place_of ed a) t))
      → point_no i (map point_of (points_from ed k (drop (place_of ed a) t))) ≡ some p
      → Well ed.records (lists_at (a + i)) × (point_of (lists_at (a + i)) ≡ p)
  unfolding points_from point_no part_of
  among zero a i p r e = absurd (none-ne-some p e)
  among (suc k) a zero p r e = let z : a + 0 ≡ a = omega arith in rw z (first_well r, some-injective _ p e)
  among (suc k) a (suc i) p r e =
      let z : a + suc i ≡ suc a + i = omega arith in
      rw z (among k (suc a) i p (rw (next ed t a) at (others r)) (rw (next ed t a) at e))

  one_of_lists : (i d : ℕ) → Well ed.records (lists_at i) → filled (point_of (lists_at i)) d ≡ true → OneUser ed t i (point_of (lists_at i)) d
  unfolding point_of
  one_of_lists i d w f =
      let h : (lists_at i).facts.install ≤ d = filled_installed w d f in
      let known = installed_user w d h in
      let row = covering_one w.regs_ok w.regs_start d h in
      record { user_low = known.0; user_high = known.1; since = row.0; started = row.1; one_row = row.2 }

  module _ (fits : Fits ed) (s : sound ed t ≡ true) (i : ℕ) (p : Point) (e : point_no i (table_book ed t).points ≡ some p) where
    pub point_at_lem : Well ed.records (lists_at i) × (point_of (lists_at i) ≡ p)
    unfolding table_book book_of register_of
    point_at_lem =
        let z : 0 + i ≡ i = omega arith in
        let first : place_of ed 0 ≡ 8 = omega (arith, mul-zero (stride ed)) in
        rw z at (among (num_at t 0) 0 i p (rw first (sound_lays ed fits t s).0.points_ok) (rw first e))

    pub one_user_lem : (d : ℕ) → filled p d ≡ true → OneUser ed t i p d
    one_user_lem d =
        let (w, is) = point_at_lem in
        subst (λ p. filled p d ≡ true → OneUser ed t i p d) is (one_of_lists i d w)
