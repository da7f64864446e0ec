-- A save and a restore on what stands for a state answer as the book does, and leave what stands for the state after it.
-- Assumes nothing.
use mathlib.Core.Path.{◌≡◌, refl, sym, ◌∙◌, ap, ap₂, subst}
use mathlib.Core.Bool.{Bool, true, false, not, ◌&&◌, cond}
use mathlib.Core.Option.{Option, none, some}
use mathlib.Core.List.{List, [], ◌∷◌, ◌++◌}
use Prim.Native.Nat.{ℕ, ◌≤◌}
use native.Mathlib.Omega.{arith}
use lib.Dec.{leb, eqb}
use lib.IntN.{ℤ, pos}
use lib.ListN.{length, take, drop, length-append, length-take, take-append-drop}
use lib.Seq.{take-append-le, take-take}
use borrow.Author.Tests.{le-leb, lt-leb, leb-true, leb-false, eqb-true}
use Rattle.numbers.specs.Naturals.{nat_of}
use Rattle.numbers.specs.Search.{maybe, is_some}
use Rattle.numbers.proofs.Bools.{both}
use Rattle.daybook.specs.declared.Edition.{Edition}
use Rattle.daybook.specs.Book.{Book}
use Rattle.daybook.specs.Notices.{least, Numbers, decide}
use Rattle.daybook.specs.States.{is_state, image_length, under}
use Rattle.daybook.specs.Editions.{Editions}
use Rattle.daybook.specs.Calls.{StateCall, save!, restore!, State, on_with, stated}
use Rattle.layout.specs.Layout.{table_length, Fits, BothFit, edition_in, table_book}
use Rattle.layout.specs.Sound.{sound}
use Rattle.layout.proofs.Editions.{edition_fits, edition_front}
use Rattle.layout.proofs.Notices.{front_holds}
use Rattle.table.proofs.Laws.{sound_long}
use Rattle.images.specs.Blocks.{with_image}
use Rattle.images.specs.Images.{save_call, restore_call}
use Rattle.images.proofs.Blocks.{length_image}
use Rattle.images.proofs.Calls.{save_out, save_entered, restore_out}
use Rattle.images.proofs.GivesBack.{back_same, zero_image}
use Rattle.history.specs.Runs.{Lent, state_call}
use Rattle.history.specs.Agreement.{TableOf, ImageOf, HoldsSaved, ImagesHold, StandsFor}

pub own_sound : {E : Editions} {ed : Edition} {B : Book} {t : List ℤ} → TableOf E ed B t → sound (edition_in E t) t ≡ true
own_sound r = rw r.edition r.is_sound

-- Of a whole image as many bytes are lent as are said, up to its length.
lent_enough : (image : List ℕ) (lent : ℕ) → image_length ≤ length image → leb image_length (length (take lent image)) ≡ leb image_length lent
lent_enough image lent h = go (leb image_length lent) refl
  where
    go : (b : Bool) → leb image_length lent ≡ b → leb image_length (length (take lent image)) ≡ b
    go true e = le-leb image_length (length (take lent image)) (omega (arith, length-take lent image, leb-true image_length lent e))
    go false e = lt-leb image_length (length (take lent image)) (omega (arith, length-take lent image, leb-false image_length lent e))

-- The answer and what is left, v, beside the book's answer and state, w.
pub record Agreed (E : Editions) (v : Numbers × Lent) (w : Numbers × State) : Type 0 where
  pub answer : v.0 ≡ w.0
  pub stands_for : StandsFor E v.1 w.1

-- What holds of x and of all that f has holds of f with x under a number.
under_holds : {A : Type 0} (P : ℕ → A → Type 0) (n : ℕ) (x : A) (f : ℕ → A) → P n x → ((k : ℕ) → P k (f k)) → (k : ℕ) → P k (under n x f k)
under_holds P n x f p q k = go (eqb k n) refl
  where
    go : (b : Bool) → eqb k n ≡ b → P k (cond b x (f k))
    go true e = subst (λ j. P j x) (sym (eqb-true k n e)) p
    go false e = q k

module _ (E : Editions) (fit : BothFit E) (t : List ℤ) (s : sound (edition_in E t) t ≡ true) (images : ℕ → List ℕ) (saved : ℕ → Option (Edition × Book)) (h : ImagesHold E saved images) (n : ℤ) (lent : ℕ) where
  abbrev ed : Edition
  ed = edition_in E t

  abbrev B : Book
  B = table_book ed t

  abbrev L : Lent
  L = record { table = t; images = images }

  abbrev S : State
  S = record { edition = ed; book = B; saved = saved }

  abbrev image : List ℕ
  image = images (nat_of n)

  abbrev first : List ℕ
  first = take lent image

  abbrev ranged : Bool
  ranged = is_state n && leb image_length lent

  own : TableOf E ed B t
  own = record { edition = refl; is_sound = s; book = refl }

  -- row 2 of the lent bytes is that of the bytes said
  ranged_is : (is_state n && leb image_length (length first)) ≡ ranged
  ranged_is = ap (λ b. is_state n && b) (lent_enough image lent (h.whole (nat_of n)))

  -- ---- save

  abbrev saves : Numbers × List ℕ → Numbers × Lent
  saves w = (w.0, record { table = t; images = under (nat_of n) (w.1 ++ drop lent image) images })

  abbrev book_saves : Bool → Numbers × State
  book_saves b = decide (least ((2, not b) ∷ [])) 0 S ([], record { edition = ed; book = B; saved = under (nat_of n) (some (ed, B)) saved })

  -- an image written back as it was
  same_image : first ++ drop lent image ≡ image
  same_image = take-append-drop lent image

  kept_images : ImagesHold E saved (under (nat_of n) (first ++ drop lent image) images)
  kept_images =
      record {
        whole = under_holds (λ k i. image_length ≤ length i) (nat_of n) _ images (subst (λ i. image_length ≤ length i) (sym same_image) (h.whole (nat_of n))) h.whole;
        holds = under_holds (λ k i. HoldsSaved E (saved k) k i) (nat_of n) _ images (subst (HoldsSaved E (saved (nat_of n)) (nat_of n)) (sym same_image) (h.holds (nat_of n))) h.holds;
      }

  -- an image of the table
  abbrev written : List ℕ
  written = with_image (nat_of n) t first

  new_images : image_length ≤ lent → ImagesHold E (under (nat_of n) (some (ed, B)) saved) (under (nat_of n) (written ++ drop lent image) images)
  new_images l =
      record {
        whole = under_holds (λ k i. image_length ≤ length i) (nat_of n) _ images (omega (arith, long, length-append written (drop lent image))) h.whole;
        holds = λ k. go k (eqb k (nat_of n)) refl;
      }
    where
      enough : image_length ≤ length first
      enough = omega (arith, length-take lent image, h.whole (nat_of n))

      long : image_length ≤ length written
      long = omega (arith, length_image (nat_of n) t first, enough)

      own_image : ImageOf E ed B (nat_of n) (written ++ drop lent image)
      own_image =
          record {
            table = t;
            stands_for = own;
            before = first;
            enough = enough;
            bytes = take-append-le image_length written (drop lent image) long;
          }

      go : (k : ℕ) (b : Bool) → eqb k (nat_of n) ≡ b → HoldsSaved E (cond b (some (ed, B)) (saved k)) k (cond b (written ++ drop lent image) (images k))
      go k true e = subst (λ j. ImageOf E ed B j (written ++ drop lent image)) (sym (eqb-true k (nat_of n) e)) own_image
      go k false e = h.holds k

  save_agrees : Agreed E (state_call E (save! n lent) L) (stated (save! n lent) S)
  unfolding state_call stated least decide
  save_agrees = go ranged refl
    where
      go : (b : Bool) → ranged ≡ b → Agreed E (saves (save_call E t n first)) (book_saves ranged)
      go false e =
          subst (λ w. Agreed E (saves (save_call E t n first)) (book_saves w)) (sym e)
          (subst (λ v. Agreed E (saves v) (book_saves false)) (sym (save_out E t n first s (ranged_is ∙ e)))
          (record { answer = refl; stands_for = record { table = own; images = kept_images } }))
      go true e =
          subst (λ w. Agreed E (saves (save_call E t n first)) (book_saves w)) (sym e)
          (subst (λ v. Agreed E (saves v) (book_saves true)) (sym (save_entered E t n first s (ranged_is ∙ e)))
          (record { answer = refl; stands_for = record { table = own; images = new_images (leb-true image_length lent (both (is_state n) (leb image_length lent) e).1) } }))

  -- ---- restore

  abbrev restores : Numbers × List ℤ → Numbers × Lent
  restores w = (w.0, record { table = w.1; images = images })

  abbrev book_restores : Bool → Option (Edition × Book) → Numbers × State
  book_restores b o = decide (least ((2, not b) ∷ (17, not (is_some o)) ∷ [])) 0 S ([], maybe S (on_with S) o)

  -- a table that is restored from the image of a book, whatever its edition
  back : (w : Edition × Book) → ImageOf E w.0 w.1 (nat_of n) image → is_state n ≡ true → image_length ≤ lent
      → Agreed E (restores (restore_call E t n first)) (pos 0 ∷ [], on_with S w)
  back w i number l =
      subst (λ v. Agreed E (restores v) (pos 0 ∷ [], on_with S w))
      (sym (back_same E fit u t n i.before first (own_sound i.stands_for) number i.enough enough (take-take image_length lent image l ∙ i.bytes) long))
      (record { answer = refl; stands_for = record { table = left; images = h } })
    where
      u : List ℤ
      u = i.table

      enough : image_length ≤ length first
      enough = omega (arith, length-take lent image, h.whole (nat_of n))

      long : table_length ≤ length t
      long = (sound_long ed t s).0

      left : TableOf E w.0 w.1 (take table_length u ++ drop table_length t)
      left =
          let own : Fits w.0 = rw (← i.stands_for.edition) (edition_fits E fit u) in
          let f = front_holds w.0 own u i.stands_for.is_sound (drop table_length t) in
          record {
            edition = edition_front E u (drop table_length t) (sound_long w.0 u i.stands_for.is_sound).0 ∙ i.stands_for.edition;
            is_sound = f.is_sound;
            book = f.book ∙ i.stands_for.book;
          }

  restore_agrees : Agreed E (state_call E (restore! n lent) L) (stated (restore! n lent) S)
  unfolding state_call stated least decide
  restore_agrees = go ranged refl (saved (nat_of n)) refl (h.holds (nat_of n))
    where
      long : table_length ≤ length t
      long = (sound_long ed t s).0

      number : ranged ≡ true → is_state n ≡ true
      number e = (both (is_state n) (leb image_length lent) e).0

      said : ranged ≡ true → image_length ≤ lent
      said e = leb-true image_length lent (both (is_state n) (leb image_length lent) e).1

      enough : ranged ≡ true → image_length ≤ length first
      enough e = omega (arith, length-take lent image, h.whole (nat_of n), said e)

      out : (o : Option (Edition × Book)) → Agreed E (pos 2 ∷ [], L) (book_restores false o)
      out none = record { answer = refl; stands_for = record { table = own; images = h } }
      out (some w) = record { answer = refl; stands_for = record { table = own; images = h } }

      go : (b : Bool) → ranged ≡ b → (o : Option (Edition × Book)) → saved (nat_of n) ≡ o → HoldsSaved E o (nat_of n) image
          → Agreed E (restores (restore_call E t n first)) (book_restores ranged (saved (nat_of n)))
      go false e o f held =
          subst (λ w. Agreed E (restores (restore_call E t n first)) (book_restores w (saved (nat_of n)))) (sym e)
          (subst (λ v. Agreed E (restores v) (book_restores false (saved (nat_of n)))) (sym (restore_out E t n first long (ranged_is ∙ e)))
          (out (saved (nat_of n))))
      go true e none f held =
          subst (λ w. Agreed E (restores (restore_call E t n first)) w) (sym (ap₂ book_restores e f))
          (subst (λ v. Agreed E (restores v) (book_restores true none)) (sym (zero_image E t n first long (number e) (enough e) (take-take image_length lent image (said e) ∙ held)))
          (record { answer = refl; stands_for = record { table = own; images = h } }))
      go true e (some w) f held =
          subst (λ w. Agreed E (restores (restore_call E t n first)) w) (sym (ap₂ book_restores e f)) (back w held (number e) (said e))

pub state_agrees : (E : Editions) → BothFit E → (t : List ℤ) (s : sound (edition_in E t) t ≡ true) (images : ℕ → List ℕ) (saved : ℕ → Option (Edition × Book))
    → ImagesHold E saved images → (c : StateCall)
    → Agreed E (state_call E c (record { table = t; images = images }))
    (stated c (record { edition = edition_in E t; book = table_book (edition_in E t) t; saved = saved }))
state_agrees E fit t s images saved h (save! n lent) = save_agrees E fit t s images saved h n lent
state_agrees E fit t s images saved h (restore! n lent) = restore_agrees E fit t s images saved h n lent
