-- Entering the batch into the same register gives the trial's answers and counts. Assumes nothing.
use mathlib.Core.Path.{◌≡◌, refl, sym, ◌∙◌, ap, ap₂, subst}
use mathlib.Core.Bool.{Bool, true, false, false≢true}
use mathlib.Core.Option.{Option, none, some}
use mathlib.Core.List.{List, [], ◌∷◌, map, flatten}
use Prim.Native.Nat.{ℕ}
use native.Mathlib.Omega.{arith}
use lib.IntN.{ℤ, pos}
use lib.ListN.{length}
use Rattle.numbers.specs.Naturals.{nat_of}
use Rattle.numbers.specs.Search.{maybe}
use Rattle.numbers.specs.Answers.{refused}
use Rattle.daybook.specs.declared.Edition.{Edition}
use Rattle.daybook.specs.declared.EnergyNotice.{EnergyNotice}
use Rattle.daybook.specs.Book.{Point, Book}
use Rattle.daybook.specs.Notices.{Numbers, find, put, with_point, on_point, entry_of, enter, energy}
use Rattle.daybook.specs.Queries.{sum_of}
use Rattle.daybook.specs.Editions.{Editions, largest, most_records}
use Rattle.daybook.specs.FromNumbers.{num}
use Rattle.daybook.specs.Calls.{energy!, noted}
use Rattle.daybook.specs.Trials.{notices_in, answers_to, books_on_the_way, most_in, removed_in, batch_fits}
use Rattle.lists.proofs.Rows.{decide_keeps}
use Rattle.layout.specs.Layout.{BothFit, edition_in, table_book}
use Rattle.layout.specs.Sound.{sound}
use Rattle.layout.specs.Calls.{answer_and_table, on_edition}
use Rattle.layout.proofs.Editions.{edition_fits, edition_after}
use Rattle.layout.proofs.Notices.{Holds, notice_holds}
use Rattle.point.proofs.Rows.{rows_at}
use Rattle.table.proofs.MostRecords.{point_at, points_at}
use Rattle.energy.specs.Energy.{energy_call}
use Rattle.trial.specs.Trial.{trial_call}
use Rattle.trial.specs.AsEntered.{entered_answers, tables_on_the_way, most_records_of, AsEntered, TriedAsEntered}
use Rattle.trial.proofs.Calls.{trial_unsound, trial_unfit, trial_given}

-- ---- one notice, by the public call

module _ (E : Editions) (fit : BothFit E) where
  abbrev book : List ℤ → Book
  book t = table_book (edition_in E t) t

  -- What is left of a table whose book was B before the notice.
  record Entered (ed : Edition) (n : EnergyNotice) (B : Book) (w : Numbers × List ℤ) : Type 0 where
    answer : w.0 ≡ (energy ed n B).0
    edition : edition_in E w.1 ≡ ed
    is_sound : sound (edition_in E w.1) w.1 ≡ true
    after : book w.1 ≡ (energy ed n B).1

  entered : (t : List ℤ) → sound (edition_in E t) t ≡ true → (n : EnergyNotice) → Entered (edition_in E t) n (book t) (energy_call E t n)
  unfolding energy_call on_edition noted
  entered t s n = rw s (record {
    answer = refl;
    edition = same;
    is_sound = subst (λ ed. sound ed left ≡ true) (sym same) h.is_sound;
    after = subst (λ ed. table_book ed left ≡ (energy (edition_in E t) n (book t)).1) (sym same) h.book;
  })
    where
      left : List ℤ
      left = (answer_and_table (edition_in E t) t (energy (edition_in E t) n (book t))).1

      h : Holds (edition_in E t) (edition_fits E fit t) left (energy (edition_in E t) n (book t)).1
      h = notice_holds (edition_in E t) (edition_fits E fit t) t s (energy! n)

      same : edition_in E left ≡ edition_in E t
      same = edition_after E fit t (energy (edition_in E t) n (book t))

  -- ---- the batch

  pub answers_are : (ns : List EnergyNotice) (t : List ℤ) → sound (edition_in E t) t ≡ true
      → entered_answers E ns t ≡ answers_to (edition_in E t) ns (book t)
  unfolding entered_answers answers_to
  answers_are [] t s = refl
  answers_are (n ∷ ns) t s =
      let d = entered t s n in
      ap₂ ◌∷◌ d.answer (answers_are ns (energy_call E t n).1 d.is_sound ∙ ap₂ (λ ed (B : Book). answers_to ed ns B) d.edition d.after)

  pub books_are : (ns : List EnergyNotice) (t : List ℤ) → sound (edition_in E t) t ≡ true
      → map (most_records_of E) (tables_on_the_way E ns t) ≡ map (λ (B : Book). most_records B.points) (books_on_the_way (edition_in E t) ns (book t))
  unfolding tables_on_the_way books_on_the_way
  books_are [] t s = refl
  books_are (n ∷ ns) t s =
      let d = entered t s n in
      ap (λ l. most_records_of E t ∷ l)
      (books_are ns (energy_call E t n).1 d.is_sound
      ∙ ap₂ (λ ed (B : Book). map (λ (B : Book). most_records B.points) (books_on_the_way ed ns B)) d.edition d.after)

-- ---- with no point

-- a notice opens none
no_point_lem : (ed : Edition) (n : EnergyNotice) (B : Book) → B.points ≡ [] → (energy ed n B).1.points ≡ []
unfolding energy on_point with_point put
no_point_lem ed n B e = decide_keeps 4 B _ (λ (B : Book). B.points ≡ []) _ e (λ z. go (find m B.points))
  where
    m : ℕ
    m = nat_of n.mirn

    after : Option Point → Numbers × Book
    after o = maybe ([], B) (λ p. ((enter (entry_of n) p).0, with_point m (enter (entry_of n) p).1 B)) o

    go : (o : Option Point) → (after o).1.points ≡ []
    go none = e
    go (some p) = ap (λ ps. put m (enter (entry_of n) p).1 ps) e

none_at_all : (ed : Edition) (ns : List EnergyNotice) (B : Book) → B.points ≡ [] → most_in (books_on_the_way ed ns B) ≡ 0
unfolding books_on_the_way most_records largest
none_at_all ed [] B e = omega (arith, ap most_records e)
none_at_all ed (n ∷ ns) B e = omega (arith, ap most_records e, none_at_all ed ns (energy ed n B).1 (no_point_lem ed n B e))

-- ---- the promise

module _ (E : Editions) (fit : BothFit E) (t : List ℤ) (count : ℤ) (notices : List ℤ) (room : ℕ) where
  abbrev ed : Edition
  ed = edition_in E t

  abbrev ns : List EnergyNotice
  ns = notices_in (nat_of count) notices

  abbrev w : Numbers × List ℤ
  w = trial_call E t count notices room

  given : sound ed t ≡ true → batch_fits count (length notices) room ≡ true → AsEntered E t ns w
  unfolding rows_at
  given s f =
      let e = trial_given E t count notices room s f in
      let most : num w.0 1 ≡ pos (most_in (books_on_the_way ed ns (table_book ed t))) = ap (λ v. num v.0 1) e in
      record {
        answers = ap (λ v. v.1) e ∙ ap flatten (sym (answers_are E fit ns t s));
        most = most ∙ ap (λ l. pos (largest l)) (sym (books_are E fit ns t s));
        removed = ap (λ v. num v.0 2) e ∙ ap (sum_of removed_in) (sym (answers_are E fit ns t s));
        no_point = λ z. most ∙ ap pos (none_at_all ed ns (table_book ed t) (points_at ed t ∙ ap (rows_at (point_at ed t) 0) z));
      }

  sent_back_lem : {v : Numbers × List ℤ} → w ≡ v → refused v.0 ≡ true → refused w.0 ≡ false → AsEntered E t ns w
  sent_back_lem e r h = absurd (false≢true (sym h ∙ ap (λ v. refused v.0) e ∙ r))

  by_tests : (s f : Bool) → sound ed t ≡ s → batch_fits count (length notices) room ≡ f → refused w.0 ≡ false → AsEntered E t ns w
  by_tests false f s g h = sent_back_lem (trial_unsound E t count notices room s) refl h
  by_tests true false s g h = sent_back_lem (trial_unfit E t count notices room s g) refl h
  by_tests true true s g h = given s g

pub tried_as_entered : TriedAsEntered
tried_as_entered E fit t count notices room h = by_tests E fit t count notices room _ _ refl refl h
