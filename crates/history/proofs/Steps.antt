-- A call on what stands for a state answers as the day book does, and leaves what stands for the state after it. Assumes
-- nothing.
use mathlib.Core.Path.{◌≡◌, refl, sym, ◌∙◌, ap, subst}
use mathlib.Core.Bool.{true}
use mathlib.Core.List.{List, []}
use mathlib.Core.Option.{Option}
use Prim.Native.Nat.{ℕ, zero, suc}
use lib.Dec.{eqb-suc-zero}
use lib.IntN.{ℤ}
use lib.ListN.{length}
use borrow.Author.Tests.{le-ltb}
use Rattle.numbers.specs.Naturals.{nat_of}
use Rattle.daybook.specs.declared.Edition.{Edition}
use Rattle.daybook.specs.declared.NewRegister.{NewRegister}
use Rattle.daybook.specs.Book.{Book}
use Rattle.daybook.specs.Notices.{least, Numbers, decide, fresh_rows, fresh_book}
use Rattle.daybook.specs.Editions.{Editions, edition_no, other_than, convert_rows}
use Rattle.daybook.specs.Calls.{Notice, open!, energy!, status!, request!, withdraw!, correct!, Query, account!, allocate!, trial!, Call, fresh!, notice!, query!, state!, convert!, Answer, noted, given, State, on_with, renewed, converted, step}
use Rattle.lists.specs.Lists.{book_of}
use Rattle.lists.proofs.Rows.{least_skip, least_none, decide_keeps}
use Rattle.lists.proofs.OpenStep.{no_points}
use Rattle.layout.specs.Layout.{BothFit, edition_in, table_book, with_new_book}
use Rattle.layout.specs.Sound.{sound}
use Rattle.layout.specs.Calls.{answer_and_table, on_edition}
use Rattle.layout.proofs.Editions.{number_fits, number_known, edition_fits, edition_after, edition_new}
use Rattle.layout.proofs.Notices.{Holds, notice_holds}
use Rattle.layout.proofs.NewBooks.{new_holds}
use Rattle.table.proofs.Laws.{sound_long}
use Rattle.table.proofs.Calls.{query_sound}
use Rattle.opening.specs.Opening.{fresh_call, open_call}
use Rattle.energy.specs.Energy.{energy_call}
use Rattle.status.specs.Status.{status_call}
use Rattle.transfer.specs.Transfer.{request_call, withdraw_call}
use Rattle.correction.specs.Correction.{correct_call}
use Rattle.account.specs.Account.{account_call}
use Rattle.allocate.specs.Allocate.{allocate_call}
use Rattle.trial.specs.Trial.{trial_call}
use Rattle.conversion.specs.Conversion.{convert_call}
use Rattle.conversion.proofs.Calls.{convert_rows_lem}
use Rattle.conversion.proofs.SameBook.{in_edition}
use Rattle.history.specs.Runs.{notice_call, query_call, Lent, with_table, goes_on, lent_step}
use Rattle.history.specs.Agreement.{TableOf, ImagesHold, StandsFor}
use Rattle.history.proofs.States.{own_sound, Agreed, state_agrees}

-- The answer and what is left, v, beside the book's answer and state, w.
pub record Follows (E : Editions) (v : Answer × Lent) (w : Answer × State) : Type 0 where
  pub answer : v.0 ≡ w.0
  pub stands_for : StandsFor E v.1 w.1

follows : {E : Editions} {v : Numbers × Lent} {w : Numbers × State} → Agreed E v w → Follows E ((v.0, []), v.1) ((w.0, []), w.1)
follows a = record { answer = ap (λ (l : Numbers). (l, [])) a.answer; stands_for = a.stands_for }

-- ---- fresh

-- an accepted one makes a table, of any, that stands for the book that it begins
pub fresh_stands : (E : Editions) → BothFit E → (t : List ℤ) (n : NewRegister) → least (fresh_rows n) ≡ 0
    → let to : Edition = edition_no E (nat_of n.edition) in TableOf E to (fresh_book n) (with_new_book to t (fresh_book n))
unfolding book_of
fresh_stands E fit t n z =
    let to : Edition = edition_no E (nat_of n.edition) in
    let h : Holds to (number_fits E fit _) (with_new_book to t (fresh_book n)) (fresh_book n) = new_holds to (number_fits E fit _) (no_points to n z) t in
    record { edition = edition_new E fit to (number_known E fit _) t _; is_sound = h.is_sound; book = h.book }

-- what holds of the table and of what stands for that book holds of what fresh leaves
pub fresh_left : (E : Editions) → BothFit E → (t : List ℤ) (n : NewRegister) (P : List ℤ → Type 0) → P t
    → ((u : List ℤ) → TableOf E (edition_no E (nat_of n.edition)) (fresh_book n) u → P u) → P (fresh_call E t n).1
unfolding fresh_call
fresh_left E fit t n P as_was made =
    decide_keeps 0 t _ P _ as_was (λ z. made _ (fresh_stands E fit t n (least_none 0 _ (fresh_rows n) z).1))

-- ---- a call on a sound table

module _ (E : Editions) (fit : BothFit E) (t : List ℤ) (s : sound (edition_in E t) t ≡ true) where
  abbrev ed : Edition
  ed = edition_in E t

  -- a notice is the book's step, written over the table
  pub notice_is : (c : Notice) → notice_call E c t ≡ answer_and_table ed t (noted c ed (table_book ed t))
  unfolding notice_call noted open_call energy_call status_call request_call withdraw_call correct_call on_edition
  notice_is (open! n) = rw s
  notice_is (energy! n) = rw s
  notice_is (status! n) = rw s
  notice_is (request! n holidays) = rw s
  notice_is (withdraw! n) = rw s
  notice_is (correct! n) = rw s

  -- a query is the book's
  pub query_is : (q : Query) → query_call E q t ≡ given q ed (table_book ed t)
  unfolding query_call given account_call allocate_call trial_call
  query_is (account! n) = ap (λ (a : Numbers). (a, [])) (query_sound _ _ ed t s)
  query_is (allocate! n room) = query_sound _ _ ed t s
  query_is (trial! count notices room) = query_sound _ _ ed t s

  -- the edition stays
  pub left_edition : (c : Notice) → edition_in E (notice_call E c t).1 ≡ ed
  left_edition c = ap (λ (w : Numbers × List ℤ). edition_in E w.1) (notice_is c) ∙ edition_after E fit t (noted c ed (table_book ed t))

  -- and what a notice leaves stands for the book after it
  pub notice_table : (c : Notice) → TableOf E ed (noted c ed (table_book ed t)).1 (notice_call E c t).1
  notice_table c =
      let h : Holds ed (edition_fits E fit t) (answer_and_table ed t (noted c ed (table_book ed t))).1 (noted c ed (table_book ed t)).1 = notice_holds ed (edition_fits E fit t) t s c in
      record {
        edition = left_edition c;
        is_sound = ap (λ (w : Numbers × List ℤ). sound ed w.1) (notice_is c) ∙ h.is_sound;
        book = ap (λ (w : Numbers × List ℤ). table_book ed w.1) (notice_is c) ∙ h.book;
      }

  own_table : TableOf E ed (table_book ed t) t
  own_table = record { edition = refl; is_sound = s; book = refl }

  -- ---- a conversion

  -- the second table stands for the same book, in the other edition
  convert_stands : (second : List ℤ) → least (convert_rows (other_than E ed) (length second) (table_book ed t)) ≡ 0
      → TableOf E (other_than E ed) (table_book ed t) (with_new_book (other_than E ed) second (table_book ed t))
  unfolding convert_rows
  convert_stands second z =
      let w = in_edition E fit t s (least_none 21 _ [] (least_none 0 _ _ z).1).0 second in
      record { edition = w.edition; is_sound = w.is_sound; book = w.book }

  -- what holds of the table and of what stands for its book there holds of the table that a list goes on in
  pub convert_left : (second : List ℤ) (P : List ℤ → Type 0) → P t
      → ((u : List ℤ) → TableOf E (other_than E ed) (table_book ed t) u → P u) → P (goes_on t (convert_call E t second))
  unfolding decide
  convert_left second P as_was made =
      subst (λ w. P (goes_on t w)) (sym (convert_rows_lem E t second s)) (go (least (convert_rows (other_than E ed) (length second) (table_book ed t))) refl)
    where
      go : (r : ℕ) → least (convert_rows (other_than E ed) (length second) (table_book ed t)) ≡ r
          → P (goes_on t (decide r 0 second ([], with_new_book (other_than E ed) second (table_book ed t))))
      go zero z = made _ (convert_stands second z)
      go (suc r) z = rw (eqb-suc-zero r) as_was

-- ---- a call on what is lent

-- The state that a table stands for, beside saved books.
abbrev pub state_of : Editions → List ℤ → (ℕ → Option (Edition × Book)) → State
state_of E t saved = record { edition = edition_in E t; book = table_book (edition_in E t) t; saved = saved }

module _ (E : Editions) (fit : BothFit E) (t : List ℤ) (s : sound (edition_in E t) t ≡ true) (images : ℕ → List ℕ) (saved : ℕ → Option (Edition × Book)) (h : ImagesHold E saved images) where
  abbrev lent : Lent
  lent = record { table = t; images = images }

  abbrev S : State
  S = state_of E t saved

  -- where a row sends the call back, all is as it was
  as_was : StandsFor E lent S
  as_was = record { table = own_table E fit t s; images = h }

  -- fresh, on a table that is long enough
  fresh_agrees : (n : NewRegister) → Agreed E ((fresh_call E t n).0, with_table lent (fresh_call E t n).1) (renewed E n S)
  unfolding fresh_call renewed decide
  fresh_agrees n =
      subst (λ r. Agreed E ((fresh r).0, with_table lent (fresh r).1) (renewed E n S)) (sym (least_skip 1 _ (fresh_rows n) (le-ltb _ _ (sound_long _ t s).0)))
      (go (least (fresh_rows n)) refl)
    where
      to : Edition
      to = edition_no E (nat_of n.edition)

      fresh : ℕ → Numbers × List ℤ
      fresh r = decide r 0 t ([], with_new_book to t (fresh_book n))

      go : (r : ℕ) → least (fresh_rows n) ≡ r → Agreed E ((fresh r).0, with_table lent (fresh r).1) (decide r 0 S ([], on_with S (to, fresh_book n)))
      go zero z = record { answer = refl; stands_for = record { table = fresh_stands E fit t n z; images = h } }
      go (suc r) z = record { answer = refl; stands_for = as_was }

  convert_agrees : (second : List ℤ)
      → Agreed E ((convert_call E t second).0, with_table lent (goes_on t (convert_call E t second))) (converted E (length second) S)
  unfolding converted decide
  convert_agrees second =
      subst (λ w. Agreed E (w.0, with_table lent (goes_on t w)) (converted E (length second) S)) (sym (convert_rows_lem E t second s))
      (go (least (convert_rows to (length second) B)) refl)
    where
      to : Edition
      to = other_than E (edition_in E t)

      B : Book
      B = table_book (edition_in E t) t

      given : ℕ → Numbers × List ℤ
      given r = decide r 0 second ([], with_new_book to second B)

      go : (r : ℕ) → least (convert_rows to (length second) B) ≡ r
          → Agreed E ((given r).0, with_table lent (goes_on t (given r))) (decide r 0 S ([], on_with S (to, B)))
      go zero z = record { answer = refl; stands_for = record { table = convert_stands E fit t s second z; images = h } }
      go (suc r) z = rw (eqb-suc-zero r) (record { answer = refl; stands_for = as_was })

  call_follows : (c : Call) → Follows E (lent_step E c lent) (step E c S)
  unfolding lent_step step
  call_follows (fresh! n) = follows (fresh_agrees n)
  call_follows (notice! c) =
      record {
        answer = ap (λ (w : Numbers × List ℤ). (w.0, [])) (notice_is E fit t s c);
        stands_for = record { table = notice_table E fit t s c; images = h };
      }
  call_follows (query! q) = record { answer = query_is E fit t s q; stands_for = as_was }
  call_follows (state! c) = follows (state_agrees E fit t s images saved h c)
  call_follows (convert! second) = follows (convert_agrees second)

-- it is the state that is stood for
pub state_is : {E : Editions} {ed : Edition} {B : Book} {t : List ℤ} → TableOf E ed B t → (saved : ℕ → Option (Edition × Book))
    → state_of E t saved ≡ record { edition = ed; book = B; saved = saved }
state_is {ed = ed} {B = B} {t = t} r saved =
    ap {B = State} (λ ed. record { edition = ed; book = table_book ed t; saved = saved }) r.edition
    ∙ ap {B = State} (λ B. record { edition = ed; book = B; saved = saved }) r.book

pub call_agrees : (E : Editions) → BothFit E → (L : Lent) (S : State) → StandsFor E L S → (c : Call) → Follows E (lent_step E c L) (step E c S)
call_agrees E fit L S r c =
    subst (λ S. Follows E (lent_step E c L) (step E c S)) (state_is r.table S.saved)
    (call_follows E fit L.table (own_sound r.table) L.images S.saved r.images c)
