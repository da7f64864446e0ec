-- A call through the hub on bytes that stand for a state replies as the book does, and leaves bytes that stand for the
-- state after it. Assumes nothing.
use mathlib.Core.Path.{◌≡◌, refl, sym, ◌∙◌, ap, subst, fun_ext}
use mathlib.Core.Bool.{Bool, true, false, not, cond, and-false, false≢true}
use mathlib.Core.List.{List, [], ◌∷◌, ◌++◌}
use Prim.Native.Nat.{ℕ, zero, suc, ◌*◌, ◌≤◌}
use native.Mathlib.Omega.{arith}
use lib.Dec.{leb, ltb, eqb, eqb-suc-zero}
use lib.IntN.{ℤ, pos}
use lib.ListN.{length, get_or, take, drop, take-append-drop, length-append, length-drop}
use borrow.Author.Tests.{ltb-false, eqb-true}
use Rattle.numbers.specs.Naturals.{nat_of, same_z}
use Rattle.numbers.specs.Answers.{refused}
use Rattle.numbers.proofs.Bools.{cond_same}
use Rattle.words.specs.Tables.{encoded_into}
use Rattle.numbers.specs.Search.{is_some}
use Rattle.daybook.specs.declared.Edition.{Edition}
use Rattle.daybook.specs.declared.NewRegister.{NewRegister}
use Rattle.daybook.specs.Book.{Book}
use Rattle.daybook.specs.Notices.{least, Numbers, decide, fresh_rows}
use Rattle.daybook.specs.States.{is_state, state_row, under}
use Rattle.daybook.specs.Editions.{Editions, edition_no, other_than, convert_rows}
use Rattle.daybook.specs.Calls.{Notice, StateCall, save!, restore!, fresh!, state!, convert!, State, Answer, noted, stated, step}
use Rattle.daybook.proofs.Kept.{kept_by}
use Rattle.lists.specs.Lists.{book_of}
use Rattle.lists.proofs.Rows.{least_none, decide_keeps}
use Rattle.lists.proofs.OpenStep.{no_points}
use Rattle.layout.specs.Layout.{table_length, BothFit, edition_in, table_book, with_book, with_new_book}
use Rattle.layout.specs.Sound.{sound}
use Rattle.layout.specs.Calls.{answer_and_table}
use Rattle.layout.proofs.Editions.{number_fits, edition_fits}
use Rattle.layout.proofs.Notices.{notice_length}
use Rattle.layout.proofs.NewBooks.{new_length}
use Rattle.opening.specs.Opening.{fresh_call}
use Rattle.images.specs.Blocks.{image_numbers}
use Rattle.images.specs.Images.{save_call, restore_call}
use Rattle.images.proofs.Saved.{length_numbers}
use Rattle.images.proofs.Calls.{asked, save_kept, save_out, restore_kept, restore_out}
use Rattle.conversion.specs.Conversion.{convert_call}
use Rattle.conversion.proofs.Calls.{convert_rows_lem}
use Rattle.conversion.proofs.SameBook.{in_length}
use Rattle.history.specs.Runs.{notice_call, query_call, state_call, goes_on, lent_step}
use Rattle.history.specs.Agreement.{StandsFor}
use Rattle.history.proofs.Steps as OnTables
use Rattle.history.proofs.States.{own_sound}
use Rattle.history.proofs.Steps.{notice_is, call_agrees}
use Rattle.buffers.specs.Buffers.{with_numbers, table_in, replied, written_bytes, written, image_in}
use Rattle.buffers.proofs.Images.{bytes_left, bytes_short}
use Rattle.bytelists.specs.ByteLists.{HubState, HubCall, petlumas_fresh, hub_notice, hub_query, hub_state, petlumas_convert, petlumas_save, petlumas_restore, Reply, notice_in, query_in, state_in, call_in, LentBytes, lent_in, state_step, with_register, byte_step, book_step}
use Rattle.bytelists.proofs.Back.{bytes_length, table_whole, table_enough, table_back}

-- Bytes of a register that stands for the state S, beside images.
pub record Holds (E : Editions) (L : LentBytes) (S : State) : Type 0 where
  pub long : 61504 ≤ length L.register
  pub stands_for : StandsFor E (lent_in L) S

-- A reply and what is left, v, beside the book's reply and state, w.
pub record Follows (E : Editions) (v : Reply × LentBytes) (w : Reply × State) : Type 0 where
  pub reply : v.0 ≡ w.0
  pub holds : Holds E v.1 w.1

refused_is : (ns : Numbers) → same_z (get_or ns 0 (pos 0)) (pos 0) ≡ false → refused ns ≡ true
refused_is [] e = absurd (false≢true (sym e))
refused_is (r ∷ ns) e = ap not e

given_is : (ns : Numbers) → same_z (get_or ns 0 (pos 0)) (pos 0) ≡ true → refused ns ≡ false
given_is [] e = refl
given_is (r ∷ ns) e = ap not e

-- a table that stands for a book, written over a register's bytes
pub table_put : (E : Editions) → BothFit E → (t : List ℤ) (b : List ℕ) (images : ℕ → List ℕ) (S : State) → StandsFor E (record { table = t; images = images }) S
    → length t ≡ table_length → 61504 ≤ length b → Holds E (record { register = with_numbers t b; images = images }) S
table_put E fit t b images S r e h =
    record {
      long = omega (arith, bytes_length t b, h);
      stands_for = subst (λ u. StandsFor E (record { table = u; images = images }) S) (sym (table_back (edition_in E t) (edition_fits E fit t) t b (own_sound r.table) e h)) r;
    }

-- a call with no numbers for its second buffer leaves it
second_kept : (ns : Numbers) (second answer : List ℕ)
    → ((replied ns answer).0, (second, (replied ns answer).1)) ≡ written (ns, []) second answer
unfolding written with_numbers encoded_into
second_kept ns second answer =
    let r : ℤ × List ℕ = replied ns answer in
    ap (λ s. (r.0, (s, r.1))) (sym (cond_same (same_z r.0 (pos 0)) second))

module _ (E : Editions) (fit : BothFit E) (L : LentBytes) (S : State) (r : Holds E L S) (second answer : List ℕ) where
  abbrev b : List ℕ
  b = L.register

  abbrev t : List ℤ
  t = table_in b

  t_sound : sound (edition_in E t) t ≡ true
  t_sound = own_sound r.stands_for.table

  abbrev fits : Numbers → Bool
  fits ns = leb (8 * length ns) (length answer)

  -- ---- what is written at the end of a call that writes the register

  -- What a call's answer and the table left, w, are beside the table that it was lent.
  record Left (w : Numbers × List ℤ) : Type 0 where
    long : length w.1 ≡ table_length
    sent_back : refused w.0 ≡ true → w.1 ≡ t

  written_leaves : (w : Numbers × List ℤ) → Left w → (T : State) → StandsFor E (record { table = w.1; images = L.images }) T
      → Holds E (record { register = (written w b answer).1.0; images = L.images }) (cond (fits w.0) T S)
  unfolding written replied
  written_leaves w l T s = go (fits w.0)
    where
      refusal : ℤ
      refusal = get_or w.0 0 (pos 0)

      result : Bool → ℤ
      result was = (cond {A = ℤ × List ℕ} was (refusal, with_numbers w.0 answer) (cond (same_z refusal (pos 1)) (pos 1) (pos 2), answer)).0

      done : (z : Bool) → same_z refusal (pos 0) ≡ z → Holds E (record { register = cond z (with_numbers w.1 b) b; images = L.images }) T
      done true e = table_put E fit w.1 b L.images T s l.long r.long
      done false e =
          record {
            long = r.long;
            stands_for = subst (λ u. StandsFor E (record { table = u; images = L.images }) T) (l.sent_back (refused_is w.0 e)) s;
          }

      short : (z : Bool)
          → Holds E (record { register = cond (same_z (cond z (pos 1) (pos 2)) (pos 0)) (with_numbers w.1 b) b; images = L.images }) S
      short true = r
      short false = r

      go : (was : Bool)
          → Holds E (record { register = cond (same_z (result was) (pos 0)) (with_numbers w.1 b) b; images = L.images }) (cond was T S)
      go true = done (same_z refusal (pos 0)) refl
      go false = short (same_z refusal (pos 1))

  -- ---- a call, by the call on the table

  -- a reply and what is left
  follows : (h : HubCall) (v : Reply × LentBytes) → v.0 ≡ written (lent_step E (call_in h second) (lent_in L)).0 second answer
      → Holds E v.1 (cond (fits (lent_step E (call_in h second) (lent_in L)).0.0) (step E (call_in h second) S).1 S)
      → Follows E v (book_step E h second answer S)
  unfolding book_step
  follows h v e k =
      let f : OnTables.Follows E _ (step E (call_in h second) S) = call_agrees E fit (lent_in L) S r.stands_for (call_in h second) in
      record {
        reply = e ∙ ap (λ (a : Answer). written a second answer) f.answer;
        holds = subst (λ (a : Answer). Holds E v.1 (cond (fits a.0) (step E (call_in h second) S).1 S)) f.answer k;
      }

  notice_left : (c : Notice) → Left (notice_call E c t)
  notice_left c =
      record {
        long = ap (λ (w : Numbers × List ℤ). length w.1) is ∙ notice_length (edition_in E t) (edition_fits E fit t) t t_sound c (table_whole b r.long);
        sent_back = λ e. ap (λ (w : Numbers × List ℤ). w.1) is
            ∙ ap (λ x. cond x t (with_book (edition_in E t) t (noted c (edition_in E t) (table_book (edition_in E t) t)).1)) (sym (ap (λ (w : Numbers × List ℤ). refused w.0) is) ∙ e);
      }
    where
      is : notice_call E c t ≡ answer_and_table (edition_in E t) t (noted c (edition_in E t) (table_book (edition_in E t) t))
      is = notice_is E fit t t_sound c

  -- ---- a named state

  -- an answer of one number that has no room
  one_short : (row : ℕ) (ns : Numbers) → ns ≡ pos row ∷ [] → eqb row 1 ≡ false → leb 8 (length answer) ≡ false
      → (buffer : List ℕ) (xs : List ℤ) → written (ns, xs) buffer answer ≡ (pos 2, (buffer, answer))
  unfolding written
  one_short row ns a d e buffer xs = bytes_short row (ns, with_numbers xs buffer) a d buffer answer e

  -- the book's row is never 1
  record Rowed (w : Numbers × State) : Type 0 where
    row : ℕ
    is : w.0 ≡ pos row ∷ []
    not_one : eqb row 1 ≡ false

  rowed : (c : StateCall) → Rowed (stated c S)
  unfolding stated decide least
  rowed (save! n lent) = go (state_row n lent).1 _
    where
      go : (b : Bool) (T : State) → Rowed (decide (least ((2, b) ∷ [])) 0 S ([], T))
      go true T = record { row = 2; is = refl; not_one = refl }
      go false T = record { row = 0; is = refl; not_one = refl }
  rowed (restore! n lent) = go (state_row n lent).1 (not (is_some (S.saved (nat_of n)))) _
    where
      go : (a b : Bool) (T : State) → Rowed (decide (least ((2, a) ∷ (17, b) ∷ [])) 0 S ([], T))
      go true true T = record { row = 2; is = refl; not_one = refl }
      go true false T = record { row = 2; is = refl; not_one = refl }
      go false true T = record { row = 17; is = refl; not_one = refl }
      go false false T = record { row = 0; is = refl; not_one = refl }

  -- by room for its answer
  state_fits : (c : StateCall) (b : Bool) → leb 8 (length answer) ≡ b → fits (lent_step E (state! c) (lent_in L)).0.0 ≡ b
  unfolding step
  state_fits c b e =
      ap (λ (a : Answer). fits a.0) (call_agrees E fit (lent_in L) S r.stands_for (state! c)).answer
      ∙ ap fits (rowed c).is ∙ e

  -- a call that gets 2 and leaves everything, where there is none
  sent_back_lem : (h : HubState) (v : Reply × LentBytes) → leb 8 (length answer) ≡ false → v ≡ ((pos 2, (second, answer)), L)
      → Follows E v (book_step E (hub_state h) second answer S)
  unfolding step
  sent_back_lem h v e is =
      subst (λ v. Follows E v (book_step E (hub_state h) second answer S)) (sym is)
      (follows (hub_state h) ((pos 2, (second, answer)), L)
      (sym
      (ap (λ (a : Answer). written a second answer) (call_agrees E fit (lent_in L) S r.stands_for (state! (state_in h))).answer
      ∙ one_short (rowed (state_in h)).row _ (rowed (state_in h)).is (rowed (state_in h)).not_one e second []))
      (subst (λ b. Holds E L (cond b (step E (state! (state_in h)) S).1 S)) (sym (state_fits (state_in h) false e)) r))

  module _ (n : ℤ) (lent : ℕ) where
    abbrev image : List ℕ
    image = L.images (nat_of n)

    abbrev first : List ℕ
    first = take lent image

    -- the lent bytes, by room for the answer
    lent_bytes : (b : Bool) → leb 8 (length answer) ≡ b → image_in first answer ≡ cond b first []
    unfolding image_in
    lent_bytes b e = ap (λ b. cond b first []) e

    no_bytes : asked n [] ≡ false
    no_bytes = and-false (is_state n)

    -- ---- restore

    abbrev restores : List ℕ → Reply × LentBytes
    restores i =
        let w : ℤ × (List ℕ × List ℕ) = written (restore_call E t n i) b answer in
        ((w.0, (second, w.1.1)), record { register = w.1.0; images = L.images })

    restore_left : Left (restore_call E t n first)
    unfolding restore_call
    restore_left =
        record {
          long = decide_keeps 0 t _ (λ u. length u ≡ table_length) _ whole (λ z.
              omega (arith, length-append (image_numbers first) (drop table_length t), length_numbers first, length-drop table_length t, whole));
          sent_back = (restore_kept E t n first).sent_back;
        }
      where
        whole : length t ≡ table_length
        whole = table_whole b r.long

    restore_follows : Follows E (byte_step E (hub_state (petlumas_restore n lent)) second answer L) (book_step E (hub_state (petlumas_restore n lent)) second answer S)
    unfolding byte_step state_step lent_step state_call state_in written
    restore_follows = go (leb 8 (length answer)) refl
      where
        h : HubCall
        h = hub_state (petlumas_restore n lent)

        long : table_length ≤ length t
        long = omega (arith, table_whole b r.long)

        out : ℤ × (List ℕ × List ℕ) → Reply × LentBytes
        out w = ((w.0, (second, w.1.1)), record { register = w.1.0; images = L.images })

        go : (x : Bool) → leb 8 (length answer) ≡ x → Follows E (restores (image_in first answer)) (book_step E h second answer S)
        go true e =
            subst (λ i. Follows E (restores i) (book_step E h second answer S)) (sym (lent_bytes true e))
            (follows h (restores first) (second_kept _ second answer)
            (written_leaves (restore_call E t n first) restore_left _ (call_agrees E fit (lent_in L) S r.stands_for (call_in h second)).stands_for))
        go false e =
            sent_back_lem (petlumas_restore n lent) _ e
            (ap restores (lent_bytes false e) ∙ ap (λ u. out (written u b answer)) (restore_out E t n [] long no_bytes)
            ∙ ap out (one_short 2 (pos 2 ∷ []) refl refl e b t))

    -- ---- save

    abbrev saves : List ℕ → Reply × LentBytes
    saves i =
        let w : ℤ × (List ℕ × List ℕ) = written_bytes (save_call E t n i) first answer in
        ((w.0, (second, w.1.1)), record { register = b; images = under (nat_of n) (w.1.0 ++ drop lent image) L.images })

    -- an image written back as it was
    same_images : under (nat_of n) (first ++ drop lent image) L.images ≡ L.images
    same_images = fun_ext (λ k. go k (eqb k (nat_of n)) refl)
      where
        go : (k : ℕ) (x : Bool) → eqb k (nat_of n) ≡ x → cond x (first ++ drop lent image) (L.images k) ≡ L.images k
        go k true e = take-append-drop lent image ∙ ap L.images (sym (eqb-true k (nat_of n) e))
        go k false e = refl

    save_follows : Follows E (byte_step E (hub_state (petlumas_save n lent)) second answer L) (book_step E (hub_state (petlumas_save n lent)) second answer S)
    unfolding byte_step state_step lent_step state_call state_in
    save_follows = go (leb 8 (length answer)) refl
      where
        h : HubCall
        h = hub_state (petlumas_save n lent)

        with_image_lem : List ℕ → LentBytes
        with_image_lem i = record { register = b; images = under (nat_of n) (i ++ drop lent image) L.images }

        out : ℤ × (List ℕ × List ℕ) → Reply × LentBytes
        out w = ((w.0, (second, w.1.1)), with_image_lem w.1.0)

        go : (x : Bool) → leb 8 (length answer) ≡ x → Follows E (saves (image_in first answer)) (book_step E h second answer S)
        go true e =
            subst (λ i. Follows E (saves i) (book_step E h second answer S)) (sym (lent_bytes true e))
            (follows h (saves first) (second_kept _ second answer)
            (subst (λ i. Holds E (with_image_lem i) (cond (fits (save_call E t n first).0) (step E (state! (save! n lent)) S).1 S)) (sym (bytes_left (save_call E t n first) first answer (save_kept E t n first) e))
            (subst (λ x. Holds E (with_image_lem (save_call E t n first).1) (cond x (step E (state! (save! n lent)) S).1 S)) (sym (state_fits (save! n lent) true e))
            (record { long = r.long; stands_for = (call_agrees E fit (lent_in L) S r.stands_for (state! (save! n lent))).stands_for }))))
        go false e =
            sent_back_lem (petlumas_save n lent) _ e
            (ap saves (lent_bytes false e) ∙ ap (λ u. out (written_bytes u first answer)) (save_out E t n [] t_sound no_bytes)
            ∙ ap out (bytes_short 2 (pos 2 ∷ [], []) refl refl first answer e) ∙ ap (λ is. ((pos 2, (second, answer)), record { register = b; images = is })) same_images)

  -- ---- fresh

  fresh_left : (n : NewRegister) → Left (fresh_call E t n)
  unfolding fresh_call book_of
  fresh_left n =
      record {
        long = decide_keeps 0 t _ (λ u. length u ≡ table_length) _ whole (λ z.
            let to : Edition = edition_no E (nat_of n.edition) in
            new_length to (number_fits E fit _) (no_points to n (least_none 0 _ (fresh_rows n) z).1) t whole);
        sent_back = (kept_by _ t _).sent_back;
      }
    where
      whole : length t ≡ table_length
      whole = table_whole b r.long

  -- ---- a conversion

  -- the calls go on in the second buffer where the result is 0
  abbrev on : Numbers × List ℤ → Bool
  on w = same_z (written w second answer).0 (pos 0)

  convert_holds : (w : Numbers × List ℤ)
      → (refused w.0 ≡ false → (length w.1 ≡ table_length) × (61504 ≤ length second)) → (T : State)
      → StandsFor E (record { table = goes_on t w; images = L.images }) T
      → Holds E (with_register L (cond (on w) (written w second answer).1.0 b)) (cond (fits w.0) T S)
  unfolding written replied
  convert_holds w k T s = go (fits w.0)
    where
      refusal : ℤ
      refusal = get_or w.0 0 (pos 0)

      result : Bool → ℤ
      result was = (cond {A = ℤ × List ℕ} was (refusal, with_numbers w.0 answer) (cond (same_z refusal (pos 1)) (pos 1) (pos 2), answer)).0

      left : ℤ → List ℕ
      left z = cond (same_z z (pos 0)) (cond (same_z z (pos 0)) (with_numbers w.1 second) second) b

      done : (z : Bool) → same_z refusal (pos 0) ≡ z → Holds E (with_register L (cond z (cond z (with_numbers w.1 second) second) b)) T
      done true e =
          let given : refused w.0 ≡ false = given_is w.0 e in
          let stands = subst (λ x. StandsFor E (record { table = cond x t w.1; images = L.images }) T) given s in
          table_put E fit w.1 second L.images T stands (k given).0 (k given).1
      done false e =
          let stands = subst (λ x. StandsFor E (record { table = cond x t w.1; images = L.images }) T) (refused_is w.0 e) s in
          record { long = r.long; stands_for = stands }

      go : (was : Bool) → Holds E (with_register L (left (result was))) (cond was T S)
      go true = done (same_z refusal (pos 0)) refl
      go false = short (same_z refusal (pos 1))
        where
          short : (z : Bool) → Holds E (with_register L (left (cond z (pos 1) (pos 2)))) S
          short true = r
          short false = r

  -- its reply has the second buffer as it was lent
  converted_reply : (w : Numbers × List ℤ)
      → ((written w second answer).0, (cond (on w) second (written w second answer).1.0, (written w second answer).1.1)) ≡ written (w.0, []) second answer
  unfolding written
  converted_reply w =
      let v : ℤ × List ℕ = replied w.0 answer in
      ap (λ s. (v.0, (s, v.1))) (go (same_z v.0 (pos 0))) ∙ second_kept w.0 second answer
    where
      go : (z : Bool) → cond z second (cond z (with_numbers w.1 second) second) ≡ second
      go true = refl
      go false = refl

  -- an accepted one found a second register that is long enough, and fills it
  convert_accepted : (b' : List ℕ) → refused (convert_call E t (table_in b')).0 ≡ false
      → (length (convert_call E t (table_in b')).1 ≡ table_length) × (61504 ≤ length b')
  unfolding convert_rows decide
  convert_accepted b' =
      subst (λ w. refused w.0 ≡ false → (length w.1 ≡ table_length) × (61504 ≤ length b')) (sym (convert_rows_lem E t u t_sound))
      (go (least (convert_rows to (length u) B)) refl)
    where
      u : List ℤ
      u = table_in b'

      to : Edition
      to = other_than E (edition_in E t)

      B : Book
      B = table_book (edition_in E t) t

      go : (x : ℕ) → least (convert_rows to (length u) B) ≡ x → refused (decide x 0 u ([], with_new_book to u B)).0 ≡ false
          → (length (decide x 0 u ([], with_new_book to u B)).1 ≡ table_length) × (61504 ≤ length b')
      go zero z e =
          let (short, room) = least_none 0 (ltb (length u) table_length) _ z in
          let enough : 61504 ≤ length b' = table_enough b' (ltb-false (length u) table_length short) in
          (in_length E fit t t_sound (least_none 21 _ [] room).0 u (table_whole b' enough), enough)
      go (suc x) z e = absurd (false≢true (sym e ∙ ap not (eqb-suc-zero x)))

  each : (h : HubCall) → Follows E (byte_step E h second answer L) (book_step E h second answer S)
  unfolding byte_step lent_step written step
  each (petlumas_fresh n) =
      follows (petlumas_fresh n) (byte_step E (petlumas_fresh n) second answer L) (second_kept _ second answer)
      (written_leaves (fresh_call E t n) (fresh_left n) _ (call_agrees E fit (lent_in L) S r.stands_for (fresh! n)).stands_for)
  each (hub_notice c) =
      follows (hub_notice c) (byte_step E (hub_notice c) second answer L) (second_kept _ second answer)
      (written_leaves (notice_call E (notice_in c second) t) (notice_left (notice_in c second)) _ (call_agrees E fit (lent_in L) S r.stands_for (call_in (hub_notice c) second)).stands_for)
  each (hub_query q) =
      follows (hub_query q) (byte_step E (hub_query q) second answer L) refl (rw (cond_same (fits (query_call E (query_in q second) t).0) S) r)
  each (hub_state (petlumas_save n lent)) = save_follows n lent
  each (hub_state (petlumas_restore n lent)) = restore_follows n lent
  each petlumas_convert =
      follows petlumas_convert (byte_step E petlumas_convert second answer L) (converted_reply (convert_call E t u))
      (convert_holds (convert_call E t u) (convert_accepted second) _ (call_agrees E fit (lent_in L) S r.stands_for (convert! u)).stands_for)
    where
      u : List ℤ
      u = table_in second

pub call_follows : (E : Editions) → BothFit E → (h : HubCall) (second answer : List ℕ) (L : LentBytes) (S : State) → Holds E L S
    → Follows E (byte_step E h second answer L) (book_step E h second answer S)
call_follows E fit h second answer L S r = each E fit L S r second answer h
