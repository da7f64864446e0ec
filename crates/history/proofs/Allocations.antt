-- An allocation that is given hands out its net section load, no more and no less: the points' shares add up to it, and so
-- do the sixteen Users' totals. Assumes nothing.
use mathlib.Core.Path.{◌≡◌, refl, sym, ◌∙◌, ap, ap₂}
use mathlib.Core.Bool.{Bool, true, false}
use mathlib.Core.List.{List, [], ◌∷◌, ◌++◌, map}
use Prim.Native.Nat.{ℕ, zero, suc, ◌+◌, ◌-◌, ◌≤◌, ◌<◌}
use native.Mathlib.Nat.{add-zero, zero-add, add_assoc}
use native.Mathlib.Omega.{arith}
use lib.Dec.{eqb}
use lib.ListN.{length, length-append, length-map, length-replicate, replicate}
use lib.IntN.{ℤ, pos, ◌+ℤ◌, ◌-ℤ◌, +ℤ_idl, +ℤ_idr, +ℤ_invr}
use borrow.Author.Tests.{leb-true, eqb-true, eqb-false, not-false}
use Rattle.numbers.specs.Sums.{sum_from}
use Rattle.numbers.specs.Shares.{floor_part}
use Rattle.numbers.specs.Answers.{refused}
use Rattle.numbers.proofs.Bools.{both}
use Rattle.numbers.proofs.Sums.{sum_zero, sum_plus, sum_shift, telescope}
use Rattle.numbers.proofs.Floor.{floor_all, floor_none}
use Rattle.daybook.specs.declared.AllocationQuery.{AllocationQuery}
use Rattle.daybook.specs.declared.Edition.{Edition}
use Rattle.daybook.specs.Book.{Point, Book}
use Rattle.daybook.specs.Notices.{Numbers, least, decide, users}
use Rattle.daybook.specs.Queries.{sum_of, active, nsl_of, weight, weights, total, split, point_shares, total_of, allocate_rows, allocate}
use Rattle.lists.specs.Lists.{Lists, Register, point_of, book_of}
use Rattle.lists.specs.InnerWell.{Well, Points, nopoint, point, WellFormed}
use Rattle.lists.proofs.Splits.{split_length}
use Rattle.lists.proofs.Rows.{least_none}
use Rattle.layout.specs.Layout.{Fits}
use Rattle.history.specs.Agreement.{load_in, totals_in, added}
use Rattle.history.proofs.Accounts.{Owned, nothing, owned, counted_once, installed_user}

-- ---- the split of a load by weights

-- The weight of the first i of the points with these weights, and C of those before them.
unfoldable up_to : ℕ → List ℕ → ℕ → ℕ
up_to C ts zero = C
up_to C [] (suc i) = C
up_to C (t ∷ ts) (suc i) = up_to (C + t) ts i

up_to_all : (C : ℕ) (ts : List ℕ) → up_to C ts (length ts) ≡ C + total ts
unfolding up_to total
up_to_all C [] = sym (add-zero C)
up_to_all C (t ∷ ts) = up_to_all (C + t) ts ∙ add_assoc C t (total ts)

module _ (nsl S : ℕ) where
  -- The part of the load that weights of k together get.
  abbrev part : ℕ → ℤ
  part k = floor_part (pos nsl) S k

  abbrev nth : ℕ → List ℕ → ℕ → ℤ
  nth C ts i = part (up_to C ts (suc i)) -ℤ part (up_to C ts i)

  -- The shares by index.
  split_sum : (C : ℕ) (ts : List ℕ) → added (split nsl S C ts) ≡ sum_from (nth C ts) 0 (length ts)
  unfolding split sum_of sum_from up_to
  split_sum C [] = refl
  split_sum C (t ∷ ts) =
      ap (λ z. (part (C + t) -ℤ part C) +ℤ z) (split_sum (C + t) ts ∙ sym (sum_shift (nth C (t ∷ ts)) 0 (length ts)))

-- They telescope, from no weight to all of it.
split_whole : (nsl : ℕ) (ts : List ℕ) → 0 < total ts → added (split nsl (total ts) 0 ts) ≡ pos nsl
unfolding up_to
split_whole nsl ts p =
    split_sum nsl S 0 ts ∙ telescope (λ i. part nsl S (up_to 0 ts i)) 0 (length ts)
    ∙ ap₂ ◌-ℤ◌ (ap (part nsl S) (ap (up_to 0 ts) (zero-add (length ts)) ∙ up_to_all 0 ts ∙ zero-add S) ∙ floor_all (pos nsl) S p) (floor_none (pos nsl) S p)
    ∙ +ℤ_idr (pos nsl)
  where
    S : ℕ
    S = total ts

-- Zeros behind a list add nothing.
added_zeros : (xs : List ℤ) (k : ℕ) → added (xs ++ replicate k (pos 0)) ≡ added xs
unfolding sum_of
added_zeros [] zero = refl
added_zeros [] (suc k) = +ℤ_idl _ ∙ added_zeros [] k
added_zeros (x ∷ xs) k = ap (λ z. x +ℤ z) (added_zeros xs k)

-- ---- each share counts for one User

module _ (g a b nsl S : ℕ) where
  idle_weight : (p : Point) → active g p ≡ false → weight g a b p ≡ 0
  unfolding weight
  idle_weight p e = rw e refl

  -- A point that isn't active has no weight, so no share; an active one is installed, so that it has a User.
  share_owned : {room : ℕ} {q : Lists} → Well room q → (C : ℕ)
      → Owned ((point_of q).fro g) (part nsl S (C + weight g a b (point_of q)) -ℤ part nsl S C)
  share_owned {q = q} ok C = go (active g (point_of q)) refl
    where
      go : (t : Bool) → active g (point_of q) ≡ t → Owned ((point_of q).fro g) (part nsl S (C + weight g a b (point_of q)) -ℤ part nsl S C)
      go true e =
          let installed : q.facts.install ≤ g = unfold point_of in leb-true _ g (both _ _ e).0 in
          let user : (1 ≤ (point_of q).fro g) × ((point_of q).fro g ≤ 16) = installed_user ok g installed in
          owned user.0 user.1
      go false e = rw (idle_weight (point_of q) e, add-zero C, +ℤ_invr (part nsl S C)) nothing

  abbrev shares : ℕ → List Lists → List ℤ
  shares C qs = split nsl S C (map (weight g a b) (map point_of qs))

  users_add : {room : ℕ} {qs : List Lists} → Points room qs → (C : ℕ)
      → sum_from (λ u. total_of g u (map point_of qs) (shares C qs)) 1 16 ≡ added (shares C qs)
  unfolding total_of split sum_of
  users_add nopoint C = sum_zero _ 1 16 (λ u i j. refl)
  users_add (point {q = q} w d r) C =
      sum_plus _ _ 1 16 ∙ ap₂ ◌+ℤ◌ (counted_once (share_owned w C)) (users_add r (C + weight g a b (point_of q)))

-- The Users are the numbers 1 to 16.
users_are : (f : ℕ → ℤ) → added (map f users) ≡ sum_from f 1 16
unfolding sum_of sum_from
users_are f = refl

-- ---- an allocation that is given

not_refused : {X : Type 0} (r k : ℕ) (x : X) (w : Numbers × X) → refused (decide r k x w).0 ≡ false → r ≡ 0
unfolding decide
not_refused zero k x w h = refl
not_refused (suc r) k x w h = eqb-true (suc r) 0 (not-false _ h)

module _ (n : AllocationQuery) (room : ℕ) (B : Book) (h : refused (allocate n room B).0 ≡ false) where
  no_row : least (allocate_rows n room B) ≡ 0
  unfolding allocate
  no_row = not_refused _ 17 [] _ h

  some_weight : 0 < total (weights n B)
  unfolding allocate_rows
  some_weight =
      let row15 : eqb (total (weights n B)) 0 ≡ false = (least_none _ _ _ (least_none _ _ _ no_row).1).0 in
      omega (arith, eqb-false (total (weights n B)) 0 row15)

  shares_load : added (point_shares n B) ≡ pos (nsl_of n B)
  unfolding point_shares
  shares_load = split_whole (nsl_of n B) (weights n B) some_weight

module _ {ed : Edition} (fits : Fits ed) {R : Register} (ok : WellFormed ed R) (n : AllocationQuery) (room : ℕ)
    (h : refused (allocate n room (book_of R)).0 ≡ false)
  where
    pub totals_add_up : added (totals_in (allocate n room (book_of R)).0) ≡ load_in (allocate n room (book_of R)).0
    unfolding allocate decide book_of weights point_shares
    totals_add_up =
        rw (no_row n room (book_of R) h) (users_are _ ∙ users_add _ _ _ _ _ ok.points_ok 0 ∙ shares_load n room (book_of R) h)

    pub shares_add_up : added (allocate n room (book_of R)).1 ≡ load_in (allocate n room (book_of R)).0
    unfolding allocate decide
    shares_add_up =
        rw (no_row n room (book_of R) h)
        (added_zeros (point_shares n (book_of R)) (32 - length (book_of R).points) ∙ shares_load n room (book_of R) h)

    pub shares_32 : length (allocate n room (book_of R)).1 ≡ 32
    unfolding allocate decide book_of weights point_shares
    shares_32 =
        rw (no_row n room (book_of R) h) (simp (length-append, split_length, length-map, length-replicate) (omega (arith, ok.points_few, fits.few)))
