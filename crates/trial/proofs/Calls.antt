-- What a batch fits into, and what the call gives, row by row. Assumes nothing.
use mathlib.Core.Path.{◌≡◌, refl, sym, ◌∙◌, ap, ap₂}
use mathlib.Core.Bool.{true, false, not, ◌&&◌}
use mathlib.Core.List.{List, [], ◌∷◌, flatten}
use Prim.Native.Nat.{ℕ, ◌*◌, ◌≤◌}
use native.Mathlib.Omega.{arith}
use lib.Dec.{leb}
use lib.IntN.{ℤ, pos, negsuc}
use lib.ListN.{length, replicate}
use borrow.Author.Tests.{leb-true, le-leb}
use Rattle.numbers.specs.Naturals.{nat_of}
use Rattle.numbers.proofs.Bools.{both}
use Rattle.calendar.specs.Calendar.{within}
use Rattle.daybook.specs.declared.Edition.{Edition}
use Rattle.daybook.specs.declared.EnergyNotice.{EnergyNotice}
use Rattle.daybook.specs.Book.{Book}
use Rattle.daybook.specs.Notices.{least, Numbers, decide}
use Rattle.daybook.specs.Queries.{sum_of}
use Rattle.daybook.specs.Editions.{Editions}
use Rattle.daybook.specs.Trials.{notices_in, answers_to, books_on_the_way, most_in, removed_in, batch_fits, trial_rows, trial}
use Rattle.lists.proofs.Rows.{above, least_first, least_skip, decide_taken, decide_refused}
use Rattle.layout.specs.Layout.{edition_in, table_book}
use Rattle.layout.specs.Sound.{sound}
use Rattle.layout.specs.Calls.{placed}
use Rattle.table.proofs.Calls.{query_unsound, query_sound}
use Rattle.trial.specs.InnerTrial.{TriedAll}
use Rattle.trial.specs.Trial.{trial_call}

-- ---- what fits

-- a negative count is read as a number far above 100
count_within : (z : ℤ) → within (pos 0) (pos 100) z ≡ leb (nat_of z) 100
count_within (pos n) = ap (λ b. b && leb n 100) (le-leb 0 n (omega arith))
count_within (negsuc n) = refl

module _ (count : ℤ) (given room : ℕ) where
  pub fits_few : batch_fits count given room ≡ true → (nat_of count ≤ 100) × (6 * nat_of count ≤ given) × (5 * nat_of count ≤ room)
  fits_few e =
      let (l, h) = both (within (pos 0) (pos 100) count && leb (6 * nat_of count) given) (leb (5 * nat_of count) room) e in
      let (c, g) = both (within (pos 0) (pos 100) count) (leb (6 * nat_of count) given) l in
      (leb-true _ _ (sym (count_within count) ∙ c), leb-true _ _ g, leb-true _ _ h)

-- ---- the rows

module _ (E : Editions) (t : List ℤ) (count : ℤ) (notices : List ℤ) (room : ℕ) where
  abbrev ed : Edition
  ed = edition_in E t

  -- what a trial gives of a book
  abbrev pub given_of : Edition → Book → Numbers × List ℤ
  given_of ed B =
      let ns : List EnergyNotice = notices_in (nat_of count) notices in
      let given : List Numbers = answers_to ed ns B in
      (pos (most_in (books_on_the_way ed ns B)) ∷ sum_of removed_in given ∷ [], flatten given)

  pub trial_unsound : sound ed t ≡ false → trial_call E t count notices room ≡ (pos 1 ∷ replicate 2 (pos 0), [])
  unfolding trial_call
  trial_unsound e = query_unsound _ (trial ed count notices room) ed t e

  module _ (s : sound ed t ≡ true) where
    by_row : (r : ℕ) → least (trial_rows count (length notices) room) ≡ r
        → trial_call E t count notices room ≡ decide r 2 [] (given_of ed (table_book ed t))
    unfolding trial_call trial
    by_row r e = query_sound _ (trial ed count notices room) ed t s ∙ ap (λ r. decide r 2 [] (given_of ed (table_book ed t))) e

    pub trial_unfit : batch_fits count (length notices) room ≡ false → trial_call E t count notices room ≡ (pos 2 ∷ replicate 2 (pos 0), [])
    unfolding trial_rows above
    trial_unfit e = by_row 2 (least_first 2 _ [] refl (ap not e)) ∙ decide_refused 2 [] (given_of ed (table_book ed t)) 1

    pub trial_given : batch_fits count (length notices) room ≡ true
        → trial_call E t count notices room ≡ (pos 0 ∷ (given_of ed (table_book ed t)).0, (given_of ed (table_book ed t)).1)
    unfolding trial_rows least
    trial_given e = by_row 0 (least_skip 2 _ [] (ap not e)) ∙ decide_taken 2 [] (given_of ed (table_book ed t))

    -- a batch that was tried on a copy with the same book, in the edition as it was found
    pub copy_given : batch_fits count (length notices) room ≡ true → (own : Edition) → own ≡ ed → (u : List ℤ) → table_book own u ≡ table_book own t
        → (n : ℕ) → n ≡ nat_of count → {m r : ℕ} {v : List ℤ} (out : List ℤ) → TriedAll own (notices_in n notices) (table_book own u) out v m r
        → (pos 0 ∷ pos m ∷ pos r ∷ [] ≡ (trial_call E t count notices room).0) × (v ≡ placed (trial_call E t count notices room).1 out)
    copy_given f own e u b n i {m} {r} {v} out c =
        let ns : notices_in n notices ≡ notices_in (nat_of count) notices = ap (λ n. notices_in n notices) i in
        let B : table_book own u ≡ table_book ed t = b ∙ ap (λ ed. table_book ed t) e in
        let w = trial_given f in
        let books : most_in (books_on_the_way own (notices_in n notices) (table_book own u)) ≡ most_in (books_on_the_way ed (notices_in (nat_of count) notices) (table_book ed t)) = λ j. most_in (books_on_the_way (e j) (ns j) (B j)) in
        let given : answers_to own (notices_in n notices) (table_book own u) ≡ answers_to ed (notices_in (nat_of count) notices) (table_book ed t) = λ j. answers_to (e j) (ns j) (B j) in (
          ap₂ (λ m z. pos 0 ∷ pos m ∷ z ∷ []) (c.most_is ∙ books) (c.removed_is ∙ ap (sum_of removed_in) given) ∙ sym (ap (λ w. w.0) w),
          c.answered ∙ ap (λ l. placed (flatten l) out) given ∙ sym (ap (λ w. placed w.1 out) w),
        )

-- a refusal gives the answer table nothing
pub sent_back_lem : (row : ℕ) (out : List ℤ) {w : Numbers × List ℤ} → w ≡ (pos row ∷ replicate 2 (pos 0), [])
    → (pos row ∷ replicate 2 (pos 0) ≡ w.0) × (out ≡ placed w.1 out)
unfolding placed
sent_back_lem row out e = (ap (λ w. w.0) (sym e), ap (λ w. placed w.1 out) (sym e))
