-- What the call answers, case by case. Assumes nothing.
use mathlib.Core.Path.{◌≡◌, refl, sym, ◌∙◌, ap}
use mathlib.Core.Bool.{true, false, not}
use mathlib.Core.List.{List, [], ◌∷◌}
use Prim.Native.Nat.{ℕ}
use lib.Dec.{eqb}
use lib.ListN.{replicate}
use lib.IntN.{ℤ, pos}
use borrow.Author.Tests.{eq-eqb, ne_eqb}
use Rattle.daybook.specs.declared.AllocationQuery.{AllocationQuery}
use Rattle.daybook.specs.declared.Edition.{Edition}
use Rattle.daybook.specs.Notices.{Numbers, least, decide}
use Rattle.daybook.specs.Queries.{allocation_in_range, weights, total, allocate_rows, allocate}
use Rattle.daybook.specs.Book.{Book}
use Rattle.daybook.specs.Editions.{editions}
use Rattle.lists.proofs.Rows.{above, least_first, least_skip, decide_taken, decide_refused}
use Rattle.layout.specs.Layout.{edition_of, table_book}
use Rattle.layout.specs.Sound.{sound}
use Rattle.layout.specs.Calls.{of_edition, placed}
use Rattle.table.proofs.Calls.{query_unsound, query_sound}
use Rattle.allocate.specs.Allocate.{allocate_call}
use Rattle.allocate.specs.InnerParts.{given_of}

-- a refusal gives the answer table nothing
abbrev pub refusal : ℕ → Numbers × List ℤ
refusal row = (pos row ∷ replicate 17 (pos 0), [])

-- the two equations of the contract, where the call is sent back and where it is given
pub sent_back_lem : (row : ℕ) (out : List ℤ) {w : Numbers × List ℤ} → w ≡ refusal row → (pos row ∷ replicate 17 (pos 0) ≡ w.0) × (out ≡ placed w.1 out)
unfolding placed
sent_back_lem row out f = (ap (λ w. w.0) (sym f), ap (λ w. placed w.1 out) (sym f))

pub handed_out : (out : List ℤ) {a : Numbers} {l : List ℤ} {w v : Numbers × List ℤ} → (a ≡ v.0) × (l ≡ placed v.1 out) → w ≡ (pos 0 ∷ v.0, v.1) → (pos 0 ∷ a ≡ w.0) × (l ≡ placed w.1 out)
handed_out out e f = (ap (λ a. pos 0 ∷ a) e.0 ∙ ap (λ w. w.0) (sym f), e.1 ∙ ap (λ w. placed w.1 out) (sym f))

module _ (ed : Edition) (t : List ℤ) (own : ed ≡ edition_of t) (q : AllocationQuery) (room : ℕ) where
  abbrev B : Book
  B = table_book ed t

  -- the call is the query of the table's own edition
  call_is : allocate_call editions t q room ≡ of_edition (refusal 1) (allocate q room) ed t
  unfolding allocate_call
  call_is = ap (λ ed. of_edition (refusal 1) (allocate q room) ed t) (sym own)

  pub call_unsound : sound ed t ≡ false → allocate_call editions t q room ≡ refusal 1
  call_unsound e = call_is ∙ query_unsound (refusal 1) (allocate q room) ed t e

  module _ (s : sound ed t ≡ true) where
    -- by the row that applies, 0 for none
    by_row : (r : ℕ) → least (allocate_rows q room B) ≡ r → allocate_call editions t q room ≡ decide r 17 [] (given_of q B)
    unfolding allocate given_of
    by_row r e =
        call_is ∙ query_sound (refusal 1) (allocate q room) ed t s ∙ ap (λ r. decide r 17 [] (given_of q B)) e

    pub call_range : allocation_in_range q room ≡ false → allocate_call editions t q room ≡ refusal 2
    unfolding allocate_rows above
    call_range e = by_row 2 (least_first 2 (not (allocation_in_range q room)) _ refl (ap not e)) ∙ decide_refused 17 [] (given_of q B) 1

    module _ (e : allocation_in_range q room ≡ true) where
      no_two : least (allocate_rows q room B) ≡ least ((15, eqb (total (weights q B)) 0) ∷ [])
      unfolding allocate_rows
      no_two = least_skip 2 (not (allocation_in_range q room)) _ (ap not e)

      pub call_weightless : total (weights q B) ≡ 0 → allocate_call editions t q room ≡ refusal 15
      unfolding above
      call_weightless z =
          by_row 15 (no_two ∙ least_first 15 (eqb (total (weights q B)) 0) [] refl (eq-eqb (total (weights q B)) 0 z))
          ∙ decide_refused 17 [] (given_of q B) 14

      pub call_given : (total (weights q B) ≡ 0 → ⊥) → allocate_call editions t q room ≡ (pos 0 ∷ (given_of q B).0, (given_of q B).1)
      unfolding least
      call_given n =
          by_row 0 (no_two ∙ least_skip 15 (eqb (total (weights q B)) 0) [] (ne_eqb (total (weights q B)) 0 n))
          ∙ decide_taken 17 [] (given_of q B)
