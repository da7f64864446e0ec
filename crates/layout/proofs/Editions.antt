-- The edition that a table's header names, of any two that fit. Assumes nothing.
use mathlib.Core.Path.{◌≡◌, refl, sym, ◌∙◌, ap}
use mathlib.Core.Bool.{Bool, true, false, cond}
use mathlib.Core.List.{List, ◌++◌}
use Prim.Native.Nat.{ℕ, ◌≤◌}
use native.Mathlib.Omega.{arith}
use lib.Dec.{lit≤, eqb}
use lib.IntN.{ℤ, pos}
use lib.ListN.{length, take, get_or-append}
use lib.Seq.{get_or-take, length-take-le}
use borrow.Author.Tests.{eqb-true, eqb-false}
use Rattle.numbers.specs.Naturals.{nat_of}
use Rattle.numbers.specs.Answers.{refused}
use Rattle.daybook.specs.declared.Edition.{Edition}
use Rattle.daybook.specs.Book.{Book}
use Rattle.daybook.specs.Notices.{Numbers}
use Rattle.daybook.specs.Editions.{Editions, editions, edition_no}
use Rattle.lists.specs.Lists.{Register}
use Rattle.layout.specs.Layout.{table_length, Fits, BothFit, edition_in, pad, layout, with_book, with_new_book}
use Rattle.layout.specs.Calls.{answer_and_table}

-- the two that there are
pub both_fit : BothFit editions
both_fit =
    record {
      standard = record { numbered = lit≤ tt; some = lit≤ tt; few = lit≤ tt; in_table = lit≤ tt; reserved = lit≤ tt };
      long = record { numbered = lit≤ tt; some = lit≤ tt; few = lit≤ tt; in_table = lit≤ tt; reserved = lit≤ tt };
      number0 = refl;
      number1 = refl;
    }

module _ (E : Editions) (fit : BothFit E) where
  pub number_fits : (n : ℕ) → Fits (edition_no E n)
  unfolding edition_no
  number_fits n = go (eqb n 1)
    where
      go : (b : Bool) → Fits (cond b E.long E.standard)
      go true = fit.long
      go false = fit.standard

  pub edition_fits : (t : List ℤ) → Fits (edition_in E t)
  unfolding edition_in
  edition_fits t = number_fits _

  -- an edition has its own number
  pub number_own : (n : ℕ) → n ≤ 1 → (edition_no E n).number ≡ n
  unfolding edition_no
  number_own n h = go (eqb n 1) refl
    where
      go : (b : Bool) → eqb n 1 ≡ b → (cond b E.long E.standard).number ≡ n
      go true e = fit.number1 ∙ sym (eqb-true n 1 e)
      go false e = fit.number0 ∙ zero_only (eqb-false n 1 e)
        where
          zero_only : ¬ (n ≡ 1) → 0 ≡ n
          zero_only d = omega arith

  -- An edition that its number names.
  abbrev pub Known : Edition → Type 0
  Known ed = edition_no E ed.number ≡ ed

  pub number_known : (n : ℕ) → Known (edition_no E n)
  unfolding edition_no
  number_known n = go (eqb n 1)
    where
      go : (b : Bool) → cond (eqb (cond b E.long E.standard).number 1) E.long E.standard ≡ cond b E.long E.standard
      go true = ap (λ k. cond (eqb k 1) E.long E.standard) fit.number1
      go false = ap (λ k. cond (eqb k 1) E.long E.standard) fit.number0

  pub edition_known : (t : List ℤ) → Known (edition_in E t)
  unfolding edition_in
  edition_known t = number_known _

  -- a layout names its edition
  pub edition_laid : (ed : Edition) → Known ed → (R : Register) (rest : List ℤ) → edition_in E (layout ed R ++ rest) ≡ ed
  unfolding edition_in layout pad
  edition_laid ed k R rest = k

  -- a book written over a table leaves its edition
  edition_left : (t : List ℤ) (B : Book) → edition_in E (with_book (edition_in E t) t B) ≡ edition_in E t
  unfolding with_book
  edition_left t B = edition_laid (edition_in E t) (edition_known t) _ _

  -- so does a call, be it sent back or not
  pub edition_after : (t : List ℤ) (w : Numbers × Book) → edition_in E (answer_and_table (edition_in E t) t w).1 ≡ edition_in E t
  edition_after t w = go (refused w.0)
    where
      go : (b : Bool) → edition_in E (cond b t (with_book (edition_in E t) t w.1)) ≡ edition_in E t
      go true = refl
      go false = edition_left t w.1

  -- a book laid out anew names its own edition
  pub edition_new : (ed : Edition) → Known ed → (t : List ℤ) (B : Book) → edition_in E (with_new_book ed t B) ≡ ed
  unfolding with_new_book
  edition_new ed k t B = edition_laid ed k _ _

-- a register in front of any numbers
pub edition_front : (E : Editions) (t rest : List ℤ) → table_length ≤ length t → edition_in E (take table_length t ++ rest) ≡ edition_in E t
unfolding edition_in
edition_front E t rest h =
    ap (λ z. edition_no E (nat_of z))
    (get_or-append (take table_length t) rest (pos 0) 3 (omega (arith, length-take-le table_length t h)) ∙ get_or-take table_length t 3 (pos 0) (omega arith))

-- and that register alone
pub edition_take : (E : Editions) (t : List ℤ) → edition_in E t ≡ edition_in E (take table_length t)
unfolding edition_in
edition_take E t = ap (λ z. edition_no E (nat_of z)) (sym (get_or-take table_length t 3 (pos 0) (omega arith)))
