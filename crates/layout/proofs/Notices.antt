-- A notice keeps a table sound, and leaves the book that the day book leaves. Assumes nothing.
use mathlib.Core.Path.{◌≡◌, refl, sym, ◌∙◌, ap, subst}
use mathlib.Core.Bool.{Bool, true, false, cond, false≢true}
use mathlib.Core.List.{List, [], ◌++◌, append-nil}
use Prim.Native.Nat.{ℕ, ◌+◌, ◌-◌}
use native.Mathlib.Omega.{arith}
use lib.IntN.{ℤ}
use lib.ListN.{length, take, drop, length-append, length-drop, take-append-drop}
use lib.Seq.{take-take}
use Rattle.numbers.specs.Answers.{refused}
use Rattle.daybook.specs.declared.Edition.{Edition}
use Rattle.daybook.specs.Book.{Book}
use Rattle.daybook.specs.Notices.{Numbers}
use Rattle.daybook.specs.Calls.{Notice, noted}
use Rattle.lists.specs.Lists.{Register, book_of}
use Rattle.lists.specs.InnerSteps.{notice_lists}
use Rattle.lists.specs.InnerWell.{WellFormed}
use Rattle.lists.proofs.Operators.{OperatorsKept}
use Rattle.lists.proofs.Notices.{notice_step, notice_keeps, notice_kept, notice_sent_back}
use Rattle.layout.specs.Layout.{table_length, Fits, layout, register_of, table_book, with_book}
use Rattle.layout.specs.Sound.{sound}
use Rattle.layout.specs.Calls.{answer_and_table}
use Rattle.layout.proofs.Tables.{written_is, book_of_layout}
use Rattle.layout.proofs.PointParts.{all_few_of, layout_length}
use Rattle.layout.proofs.TableSound.{sound_lays}
use Rattle.layout.proofs.SoundTable.{lays_sound}

module _ (ed : Edition) (fits : Fits ed) where
  -- A sound table whose book is B.
  pub record Holds (t : List ℤ) (B : Book) : Type 0 where
    pub is_sound : sound ed t ≡ true
    pub book : table_book ed t ≡ B

  -- a book of well-formed lists, written over any table whose operators they keep, makes a sound one with that book
  pub written_holds : {R : Register} → WellFormed ed R → (t : List ℤ) → OperatorsKept (register_of ed t).points R.points
      → Holds (with_book ed t (book_of R)) (book_of R)
  written_holds {R} ok t kept =
      subst (λ u. Holds u (book_of R)) (sym (written_is ed ok t kept))
      (record {
        is_sound = lays_sound ed fits ok (drop table_length t);
        book = book_of_layout ed ok (drop table_length t);
      })

  -- a sound table's register, in front of any numbers, is sound and has the same book
  pub front_holds : (t : List ℤ) → sound ed t ≡ true → (rest : List ℤ) → Holds (take table_length t ++ rest) (table_book ed t)
  unfolding table_book
  front_holds t s rest =
      let (ok, laid) = sound_lays ed fits t s in
      subst (λ u. Holds (u ++ rest) (table_book ed t)) laid
      (record { is_sound = lays_sound ed fits ok rest; book = book_of_layout ed ok rest })

  -- and so is a table exactly where its register is
  pub front_sound : (t : List ℤ) → sound ed t ≡ sound ed (take table_length t)
  front_sound t = go (sound ed t) refl (sound ed (take table_length t)) refl
    where
      go : (b : Bool) → sound ed t ≡ b → (c : Bool) → sound ed (take table_length t) ≡ c → b ≡ c
      go true e true f = refl
      go false e false f = refl
      go true e false f =
          absurd (false≢true (sym f ∙ ap (sound ed) (sym (append-nil (take table_length t))) ∙ (front_holds t e []).is_sound))
      go false e true f =
          absurd (false≢true (sym e ∙ ap (sound ed) (sym (take-append-drop table_length t) ∙ ap (λ u. u ++ drop table_length t) (sym (take-take table_length table_length t (omega arith))))
          ∙ (front_holds (take table_length t) f (drop table_length t)).is_sound))

  -- and one of a register's length stays that long
  pub laid_length : {R : Register} → WellFormed ed R → (t : List ℤ) → length t ≡ table_length
      → length (layout ed R ++ drop table_length t) ≡ table_length
  laid_length {R} ok t h =
      length-append (layout ed R) (drop table_length t)
      ∙ sum (length (layout ed R)) (length (drop table_length t)) (length t) laid (length-drop table_length t) h
    where
      laid : length (layout ed R) ≡ table_length
      laid = layout_length ed R fits ok.points_few (all_few_of ok.points_ok)

      sum : (x y n : ℕ) → x ≡ table_length → y ≡ n - table_length → n ≡ table_length → x + y ≡ table_length
      sum x y n a b c = omega arith

  pub written_length : {R : Register} → WellFormed ed R → (t : List ℤ) → OperatorsKept (register_of ed t).points R.points
      → length t ≡ table_length → length (with_book ed t (book_of R)) ≡ table_length
  written_length ok t kept h = ap length (written_is ed ok t kept) ∙ laid_length ok t h

  module _ (t : List ℤ) (s : sound ed t ≡ true) (c : Notice) where
    abbrev B : Book
    B = table_book ed t

    ok : WellFormed ed (register_of ed t)
    ok = (sound_lays ed fits t s).0

    after : noted c ed B ≡ ((notice_lists c ed (register_of ed t)).0, book_of (notice_lists c ed (register_of ed t)).1)
    unfolding table_book
    after = notice_step c ed (register_of ed t) ok

    pub notice_holds : Holds (answer_and_table ed t (noted c ed B)).1 (noted c ed B).1
    notice_holds = go (refused (noted c ed B).0) refl
      where
        go : (b : Bool) → refused (noted c ed B).0 ≡ b → Holds (cond b t (with_book ed t (noted c ed B).1)) (noted c ed B).1
        go true e = record { is_sound = s; book = sym (notice_sent_back c ed B e) }
        go false e =
            subst (λ B. Holds (with_book ed t B) B) (sym (ap (λ (w : Numbers × Book). w.1) after))
            (written_holds (notice_keeps c ed ok) t (notice_kept c ed (register_of ed t)))

    pub notice_length : length t ≡ table_length → length (answer_and_table ed t (noted c ed B)).1 ≡ table_length
    notice_length h = go (refused (noted c ed B).0)
      where
        go : (b : Bool) → length (cond b t (with_book ed t (noted c ed B).1)) ≡ table_length
        go true = h
        go false =
            ap (λ (w : Numbers × Book). length (with_book ed t w.1)) after
            ∙ written_length (notice_keeps c ed ok) t (notice_kept c ed (register_of ed t)) h
