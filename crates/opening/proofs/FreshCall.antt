-- fresh on a lent table: a register with no points, whatever stood there. Assumes nothing.
use mathlib.Core.Path.{◌≡◌, refl, sym, ◌∙◌, ap, subst}
use mathlib.Core.Bool.{Bool, true, false, not, ◌&&◌}
use mathlib.Core.List.{List, [], ◌∷◌, ◌++◌}
use Prim.Native.Nat.{◌≤◌, ◌<◌}
use lib.ListN.{length, take, drop, set, replicate-append-replicate, take-append-drop}
use lib.Seq.{length-take-le}
use lib.IntN.{ℤ, pos}
use borrow.Author.Tests.{le-ltb, lt-ltb}
use Rattle.numbers.specs.Naturals.{nat_of}
use Rattle.numbers.proofs.Bools.{both}
use Rattle.daybook.specs.declared.Edition.{Edition}
use Rattle.daybook.specs.declared.NewRegister.{NewRegister}
use Rattle.daybook.specs.Notices.{least, Numbers, decide, is_range, is_edition, fresh_rows, fresh_book}
use Rattle.daybook.specs.Editions.{editions, edition_no}
use Rattle.lists.proofs.Rows.{above, least_first, least_skip, decide_taken, decide_refused}
use Rattle.lists.proofs.Bounds.{within_bounds, within_pos}
use Rattle.layout.specs.Layout.{table_length, pad, points_numbers, layout, book_register, with_new_book}
use Rattle.layout.specs.InnerWrites.{cleared}
use Rattle.layout.proofs.Blocks.{cleared_mid}
use Rattle.layout.proofs.Editions.{both_fit, number_own}
use Rattle.opening.specs.Opening.{fresh_call}

-- its numbers: zeros, with the two ranges and the edition set
laid : (ed : Edition) (t : List ℤ) (n : NewRegister) → table_length ≤ length t
    → set (set (set (cleared t 0 table_length) 1 n.nondaily) 2 n.daily) 3 (pos ed.number) ≡ with_new_book ed t (fresh_book n)
unfolding with_new_book book_register layout pad points_numbers
laid ed t n h =
    ap (λ u. set (set (set u 1 n.nondaily) 2 n.daily) 3 (pos ed.number))
    (ap (λ u. cleared u 0 table_length) (sym (take-append-drop table_length t))
    ∙ cleared_mid [] (take table_length t) (drop table_length t) 0 table_length refl (length-take-le table_length t h)
    ∙ ap (λ u. u ++ drop table_length t) (sym (replicate-append-replicate 8 7680 (pos 0))))

module _ (t : List ℤ) (n : NewRegister) where
  abbrev in_range : Bool
  in_range = is_range n.nondaily && is_range n.daily && is_edition n.edition

  abbrev ed : Edition
  ed = edition_no editions (nat_of n.edition)

  abbrev made : Numbers × List ℤ
  made = ([], with_new_book ed t (fresh_book n))

  pub fresh_short : length t < table_length → fresh_call editions t n ≡ (pos 1 ∷ [], t)
  unfolding fresh_call fresh_rows above
  fresh_short h = ap (λ r. decide r 0 t made) (least_first 1 _ (fresh_rows n) refl (lt-ltb _ _ h)) ∙ decide_refused 0 t made 0

  module _ (h : table_length ≤ length t) where
    pub fresh_out : in_range ≡ false → fresh_call editions t n ≡ (pos 2 ∷ [], t)
    unfolding fresh_call fresh_rows above
    fresh_out e =
        ap (λ r. decide r 0 t made) (least_skip 1 _ (fresh_rows n) (le-ltb _ _ h) ∙ least_first 2 _ [] refl (ap not e))
        ∙ decide_refused 0 t made 1

    pub fresh_entered : in_range ≡ true
        → fresh_call editions t n ≡ (pos 0 ∷ [], set (set (set (cleared t 0 table_length) 1 n.nondaily) 2 n.daily) 3 n.edition)
    unfolding fresh_call fresh_rows least
    fresh_entered e =
        ap (λ r. decide r 0 t made) (least_skip 1 _ (fresh_rows n) (le-ltb _ _ h) ∙ least_skip 2 _ [] (ap not e))
        ∙ decide_taken 0 t made
        ∙ ap (λ u. (pos 0 ∷ [], u)) (sym (subst (λ z. set (set (set (cleared t 0 table_length) 1 n.nondaily) 2 n.daily) 3 z ≡ with_new_book ed t (fresh_book n)) number (laid ed t n h)))
      where
        named : is_edition n.edition ≡ true
        named = (both (is_range n.nondaily && is_range n.daily) (is_edition n.edition) e).1

        number : pos ed.number ≡ n.edition
        number =
            ap pos (number_own editions both_fit (nat_of n.edition) (within_bounds 0 1 n.edition named).1)
            ∙ sym (within_pos 0 1 n.edition named)
