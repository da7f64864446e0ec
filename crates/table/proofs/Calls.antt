-- A call on the point of a MIRN, on a lent table: sent back it leaves the table, entered it changes that point's part
-- alone. What a public call's proof cites. Assumes nothing.
use mathlib.Core.Path.{◌≡◌, sym, ◌∙◌, ap}
use mathlib.Core.Bool.{Bool, true, false, not, cond}
use mathlib.Core.Option.{some}
use mathlib.Core.List.{List, [], ◌∷◌, ◌++◌}
use Prim.Native.Nat.{ℕ, suc}
use lib.Dec.{eqb-suc-zero}
use lib.ListN.{drop, replicate}
use lib.IntN.{ℤ, pos}
use Rattle.numbers.specs.Naturals.{nat_of}
use Rattle.numbers.specs.Search.{maybe}
use Rattle.numbers.specs.Answers.{refused}
use Rattle.daybook.specs.declared.Edition.{Edition}
use Rattle.daybook.specs.Book.{Book}
use Rattle.daybook.specs.Notices.{Row, least, Numbers, decide}
use Rattle.lists.specs.Lists.{Lists, Register, book_of}
use Rattle.lists.specs.InnerSteps.{find_lists, with_lists, on_lists}
use Rattle.lists.specs.InnerWell.{WellFormed}
use Rattle.lists.proofs.Rows.{decide_taken, decide_refused}
use Rattle.lists.proofs.Operators.{OperatorsKept, on_lists_kept}
use Rattle.layout.specs.Layout.{table_length, part_of, point_numbers, layout, point_from, register_of, table_book}
use Rattle.layout.specs.InnerWrites.{with_part}
use Rattle.layout.specs.Sound.{sound}
use Rattle.layout.specs.Calls.{answer_and_table, on_edition, of_edition}
use Rattle.layout.proofs.Numbers.{Few}
use Rattle.layout.proofs.Tables.{written_is}
use Rattle.table.proofs.Found.{Found}

-- a short or unsound table gets 1 and is left as found
pub call_unsound : (k : ℕ) (step : Book → Numbers × Book) (ed : Edition) (t : List ℤ) → sound ed t ≡ false → on_edition k step ed t ≡ (pos 1 ∷ replicate k (pos 0), t)
unfolding on_edition
call_unsound k step ed t e = rw e

-- a query likewise, and else the table's book answers it
module _ {A : Type 0} (refusal : A) (query : Book → A) (ed : Edition) (t : List ℤ) where
  pub query_unsound : sound ed t ≡ false → of_edition refusal query ed t ≡ refusal
  unfolding of_edition
  query_unsound e = rw e

  pub query_sound : sound ed t ≡ true → of_edition refusal query ed t ≡ query (table_book ed t)
  unfolding of_edition
  query_sound e = rw e

-- the equations of a call's contract: what it gives and leaves, and with them which case the answer is
pub gives : {X : Type 0} {w : Numbers × X} {a : Numbers} {u : X} → w ≡ (a, u) → (a ≡ w.0) × (u ≡ w.1)
gives e = (ap (λ w. w.0) (sym e), ap (λ w. w.1) (sym e))

pub tells : {X : Type 0} {w : Numbers × X} {a : Numbers} {u : X} {b : Bool} → w ≡ (a, u) → b ≡ refused a
    → (a ≡ w.0) × (u ≡ w.1) × (b ≡ refused a)
tells e f = let g = gives e in (g.0, g.1, f)

-- ---- what is left where the lists' step gives w

abbrev pub laid_over : Edition → List ℤ → Numbers × Register → Numbers × List ℤ
laid_over ed t w = (w.0, cond (refused w.0) t (layout ed w.1 ++ drop table_length t))

module _ (ed : Edition) (t : List ℤ) where
  pub leaves_is : (w : Numbers × Register) → WellFormed ed w.1 → OperatorsKept (register_of ed t).points w.1.points
      → answer_and_table ed t (w.0, book_of w.1) ≡ laid_over ed t w
  leaves_is w ok kept = ap (λ u. (w.0, cond (refused w.0) t u)) (written_is ed ok t kept)

  -- a refusal leaves the table as found
  pub left_alone : (n : ℕ) (l : List ℤ) (R : Register) → laid_over ed t (pos (suc n) ∷ l, R) ≡ (pos (suc n) ∷ l, t)
  left_alone n l R = ap (λ b. (pos (suc n) ∷ l, cond (not b) t (layout ed R ++ drop table_length t))) (eqb-suc-zero n)

-- ---- what the lists' step gives

module _ (k : ℕ) (m : ℤ) (early : List Row) (rows : Lists → List Row) (effect : Lists → Numbers × Lists) (R : Register) where
  -- the row that sends the call back, 0 if none does
  abbrev pub row : ℕ
  row = least (early ++ maybe ((4, true) ∷ []) rows (find_lists (nat_of m) R.points))

  lists_refused : (n : ℕ) → row ≡ suc n → on_lists k m early rows effect R ≡ (pos (suc n) ∷ replicate k (pos 0), R)
  unfolding on_lists
  lists_refused n e =
      let w : Numbers × Register = maybe ([], R) (λ q. ((effect q).0, with_lists (nat_of m) (effect q).1 R)) (find_lists (nat_of m) R.points) in
      ap (λ r. decide r k R w) e ∙ decide_refused k R w n

  lists_entered : (q : Lists) → find_lists (nat_of m) R.points ≡ some q → least (early ++ rows q) ≡ 0 → on_lists k m early rows effect R ≡ (pos 0 ∷ (effect q).0, with_lists (nat_of m) (effect q).1 R)
  unfolding on_lists
  lists_entered q f e =
      ap (λ o. decide (least (early ++ maybe ((4, true) ∷ []) rows o)) k R (maybe ([], R) (λ q. ((effect q).0, with_lists (nat_of m) (effect q).1 R)) o)) f
      ∙ ap (λ r. decide r k R ((effect q).0, with_lists (nat_of m) (effect q).1 R)) e
      ∙ decide_taken k R ((effect q).0, with_lists (nat_of m) (effect q).1 R)

-- ---- what the call gives, and what it leaves

module _ (k : ℕ) (m : ℤ) (early : List Row) (rows : Lists → List Row) (effect : Lists → Numbers × Lists) (step : Book → Numbers × Book)
    (ed : Edition) (t : List ℤ) (s : sound ed t ≡ true)
    (is : step (book_of (register_of ed t)) ≡ ((on_lists k m early rows effect (register_of ed t)).0, book_of (on_lists k m early rows effect (register_of ed t)).1))
    (keeps : WellFormed ed (on_lists k m early rows effect (register_of ed t)).1)
    (same : (q : Lists) → (effect q).1.facts.operator ≡ q.facts.operator) where
  abbrev after : Numbers × Register
  after = on_lists k m early rows effect (register_of ed t)

  whole : on_edition k step ed t ≡ laid_over ed t after
  unfolding on_edition table_book
  whole = rw s (ap (answer_and_table ed t) is ∙ leaves_is ed t after keeps (on_lists_kept k m early rows effect same (register_of ed t)))

  pub call_refused : (n : ℕ) → row k m early rows effect (register_of ed t) ≡ suc n → on_edition k step ed t ≡ (pos (suc n) ∷ replicate k (pos 0), t)
  call_refused n e =
      whole ∙ ap (laid_over ed t) (lists_refused k m early rows effect (register_of ed t) n e)
      ∙ left_alone ed t n (replicate k (pos 0)) (register_of ed t)

  pub call_entered : (i : ℕ) → Found ed t (nat_of m) i → least (early ++ rows (point_from (part_of ed t i))) ≡ 0 → Few ed.records (effect (point_from (part_of ed t i))).1
      → on_edition k step ed t ≡ (pos 0 ∷ (effect (point_from (part_of ed t i))).0, with_part ed t i (point_numbers ed.records (effect (point_from (part_of ed t i))).1))
  call_entered i f e few =
      whole ∙ ap (laid_over ed t) (lists_entered k m early rows effect (register_of ed t) (point_from (part_of ed t i)) f.find e)
      ∙ ap (λ u. (pos 0 ∷ (effect (point_from (part_of ed t i))).0, u)) (sym (f.put (effect (point_from (part_of ed t i))).1 few))
