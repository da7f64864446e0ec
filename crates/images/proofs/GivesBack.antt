-- A restore gives back what a save wrote, zero bytes get 17, and an accepted restore holds the blocks' numbers. Assumes
-- nothing.
use Rattle.std.proofs.Common.{◌≡◌, ℕ, zero, suc, ◌+◌, ◌-◌, ◌<◌, ◌≤◌, Bool, true, false, ◌&&◌, eqb, ltb, leb, List, [], ◌∷◌, ◌++◌, length, get_or, take, drop, replicate, ℤ, pos, negsuc, sym, refl, ap, ◌∙◌, subst, arith, take_all, get_or-take, take_at, w64, SFits, ltb-false, ltb-true, eq-eqb, ne_eqb, le-leb, leb-true}
use mathlib.Core.Bool.{and-false, false≢true}
use lib.ListN.{length-replicate, replicate-append-replicate, get_or-append}
use Rattle.numbers.specs.Naturals.{nat_of}
use Rattle.numbers.proofs.Bools.{both}
use Rattle.lists.proofs.Bounds.{within_bounds}
use Rattle.numbers.proofs.Rows.{all_of, all_fails}
use Rattle.words.specs.Words.{number_at}
use Rattle.daybook.specs.Notices.{Numbers}
use Rattle.daybook.specs.States.{is_state, image_length, first_row}
use Rattle.daybook.specs.Editions.{Editions}
use Rattle.layout.specs.Layout.{table_length, BothFit, edition_in, table_book}
use Rattle.layout.specs.Sound.{sound}
use Rattle.layout.proofs.Editions.{edition_fits, edition_front, edition_take}
use Rattle.layout.proofs.Notices.{Holds, front_holds, front_sound}
use Rattle.layout.proofs.Words.{fit_at, sound_fits}
use Rattle.table.proofs.Laws.{sound_long}
use Rattle.images.specs.Blocks.{block_at, block_count, state_place, number_place, check_place, check_of, with_image, intact_at, intact, of_state, image_numbers}
use Rattle.images.specs.Images.{save_call, restore_call}
use Rattle.images.specs.NamedStates.{Restored, NamedStates}
use Rattle.images.proofs.Blocks.{length_image}
use Rattle.images.proofs.Alike.{number_in, state_alike, block_same, image_intact, image_numbers_lem}
use Rattle.images.proofs.Saved.{saved_intact, saved_state_at, saved_numbers, length_numbers, number_held}
use Rattle.images.proofs.Calls.{asked, save_unsound, save_out, save_entered, image_rows, image_broken, image_other, image_clear, restore_row_lem, restore_unsound, restore_entered, restore_short}

-- ---- an accepted save

-- What is known of one.
pub record Saves (E : Editions) (t : List ℤ) (n : ℤ) (image : List ℕ) : Type 0 where
  pub is_sound : sound (edition_in E t) t ≡ true
  pub is_number : is_state n ≡ true
  pub enough : image_length ≤ length image
  pub left : (save_call E t n image).1 ≡ with_image (nat_of n) t image

answers_differ : (a b : ℕ) → ◌≡◌ {A = Numbers} (pos a ∷ []) (pos b ∷ []) → a ≡ b
answers_differ a b e = ap (λ (l : Numbers). nat_of (get_or l 0 (pos 0))) e

pub saves : (E : Editions) (t : List ℤ) (n : ℤ) (image : List ℕ) → (save_call E t n image).0 ≡ pos 0 ∷ [] → Saves E t n image
saves E t n image = go (sound (edition_in E t) t) refl (asked n image) refl
  where
    go : (whole : Bool) → sound (edition_in E t) t ≡ whole → (ranged : Bool) → asked n image ≡ ranged
        → (save_call E t n image).0 ≡ pos 0 ∷ [] → Saves E t n image
    go false e r f a = let z : ◌≡◌ {A = ℕ} 1 0 = answers_differ _ _ (sym (ap (λ (w : Numbers × List ℕ). w.0) (save_unsound E t n image e)) ∙ a) in absurd (omega arith)
    go true e false f a = let z : ◌≡◌ {A = ℕ} 2 0 = answers_differ _ _ (sym (ap (λ (w : Numbers × List ℕ). w.0) (save_out E t n image e f)) ∙ a) in absurd (omega arith)
    go true e true f a =
        let (number, long) = both (is_state n) (leb image_length (length image)) f in
        record {
          is_sound = e;
          is_number = number;
          enough = leb-true image_length (length image) long;
          left = ap (λ (w : Numbers × List ℕ). w.1) (save_entered E t n image e f);
        }

-- ---- bytes that begin as a save left them

-- row 2 is passed
all_asked : (n : ℤ) (image : List ℕ) → is_state n ≡ true → image_length ≤ length image → asked n image ≡ true
all_asked n image number enough = rw (number, le-leb image_length (length image) enough)

-- state numbers are equal where their naturals are
pub state_same : (m n : ℤ) → is_state m ≡ true → is_state n ≡ true → nat_of m ≡ nat_of n → m ≡ n
state_same (pos a) (pos b) h k e = ap pos e
state_same (pos a) (negsuc b) h k e = absurd (false≢true k)
state_same (negsuc a) n h k e = absurd (false≢true h)

module _ (E : Editions) (fit : BothFit E) (t t' : List ℤ) (n : ℤ) (before image : List ℕ) (s : sound (edition_in E t) t ≡ true) (number : is_state n ≡ true)
    (h : image_length ≤ length before) (enough : image_length ≤ length image)
    (e : take image_length image ≡ take image_length (with_image (nat_of n) t before)) (long : table_length ≤ length t') where
  small : nat_of n ≤ 4
  small = (within_bounds 1 4 n number).1

  whole : intact image ≡ true
  whole = image_intact image (with_image (nat_of n) t before) e ∙ saved_intact (nat_of n) t before h

  held : image_numbers image ≡ take table_length t
  held =
      image_numbers_lem image (with_image (nat_of n) t before) e
      ∙ saved_numbers (nat_of n) t before h (sound_long (edition_in E t) t s).0 fits
    where
      fits : (j : ℕ) → j < table_length → SFits w64 (get_or t j (pos 0))
      fits j l =
          subst (SFits w64) (get_or-take table_length t j (pos 0) l) (fit_at (sound_fits (edition_in E t) (edition_fits E fit t) t s) j)

  -- its state number is n in every block, and so no other
  state_at : (k : ℕ) → k < block_count → number_at image (state_place k) 4 ≡ nat_of n
  state_at k l =
      state_alike image (with_image (nat_of n) t before) k (block_same image (with_image (nat_of n) t before) e k l)
      ∙ saved_state_at (nat_of n) t before h small k l

  named : of_state (nat_of n) image ≡ true
  unfolding of_state
  named = all_of _ block_count (λ k l. eq-eqb _ _ (state_at k l))

  another : (m : ℤ) → is_state m ≡ true → ¬ (m ≡ n) → of_state (nat_of m) image ≡ false
  unfolding of_state
  another m other differ =
      all_fails _ 0 block_count (omega arith) (ne_eqb _ _ (λ e. differ (state_same m n other number (sym e ∙ state_at 0 (omega arith)))))

  pub back_same : restore_call E t' n image ≡ (pos 0 ∷ [], take table_length t ++ drop table_length t')
  back_same =
      restore_entered E t' n image long (image_clear n image (all_asked n image number enough) whole named)
      (ap (λ u. sound (edition_in E u) u) held ∙ own)
      ∙ ap (λ u. (pos 0 ∷ [], u ++ drop table_length t')) held
    where
      own : sound (edition_in E (take table_length t)) (take table_length t) ≡ true
      own = ap (λ ed. sound ed (take table_length t)) (sym (edition_take E t)) ∙ sym (front_sound (edition_in E t) (edition_fits E fit t) t) ∙ s

  pub back_other : (m : ℤ) → is_state m ≡ true → ¬ (m ≡ n) → restore_call E t' m image ≡ (pos 18 ∷ [], t')
  back_other m other differ =
      restore_row_lem E t' m image long 17 (image_other m image (all_asked m image other enough) whole (another m other differ))

-- ---- zero bytes

zeros_at : (m k : ℕ) → get_or {A = ℕ} (replicate m 0) k 0 ≡ 0
zeros_at zero k = refl
zeros_at (suc m) zero = refl
zeros_at (suc m) (suc k) = zeros_at m k

zeros_number : (m at w : ℕ) → number_at (replicate m 0) at w ≡ 0
unfolding number_at
zeros_number m at zero = refl
zeros_number m at (suc w) = rw (zeros_at m at, zeros_number m (at + 1) w)

pub zero_image : (E : Editions) (t : List ℤ) (n : ℤ) (image : List ℕ) → table_length ≤ length t → is_state n ≡ true → image_length ≤ length image
    → take image_length image ≡ replicate image_length 0 → restore_call E t n image ≡ (pos 17 ∷ [], t)
unfolding intact intact_at
zero_image E t n image long number enough e =
    restore_row_lem E t n image long 16 (image_broken n image (all_asked n image number enough) broken)
  where
    -- the block number of block 1 is 0
    zero_number : number_at image (number_place 1) 4 ≡ 0
    zero_number =
        number_in image (replicate image_length 0) (block_at 1) 512 500 4 (omega arith)
        (block_same image (replicate image_length 0) (e ∙ sym (take_all image_length _ (omega (arith, length-replicate {A = ℕ} image_length 0)))) 1 (omega arith))
        ∙ zeros_number image_length (number_place 1) 4

    broken : intact image ≡ false
    broken =
        all_fails (intact_at image) 1 block_count (omega arith) (ap (λ b. eqb (number_at image (check_place 1) 8) (check_of image 1) && b) (ne_eqb _ _ (λ (q : number_at image (number_place 1) 4 ≡ 1). absurd (omega (arith, zero_number)))) ∙ and-false (eqb (number_at image (check_place 1) 8) (check_of image 1)))

-- ---- an accepted restore

record Accepts (E : Editions) (t : List ℤ) (n : ℤ) (image : List ℕ) : Type 0 where
  is_sound : sound (edition_in E (image_numbers image)) (image_numbers image) ≡ true
  left : (restore_call E t n image).1 ≡ image_numbers image ++ drop table_length t

accepts : (E : Editions) (t : List ℤ) (n : ℤ) (image : List ℕ) → (restore_call E t n image).0 ≡ pos 0 ∷ [] → Accepts E t n image
accepts E t n image a = short (ltb (length t) table_length) refl
  where
    given : (r : ℕ) (u : List ℤ) → restore_call E t n image ≡ (pos r ∷ [], u) → r ≡ 0
    given r u e = answers_differ r 0 (sym (ap (λ (w : Numbers × List ℤ). w.0) e) ∙ a)

    whole : table_length ≤ length t → first_row (image_rows n image) ≡ 0 → (b : Bool) → sound (edition_in E (image_numbers image)) (image_numbers image) ≡ b → Accepts E t n image
    whole l z true s = record { is_sound = s; left = ap (λ (w : Numbers × List ℤ). w.1) (restore_entered E t n image l z s) }
    whole l z false s = absurd (omega (arith, given 1 t (restore_unsound E t n image l z s)))

    row : table_length ≤ length t → (r : ℕ) → first_row (image_rows n image) ≡ r → Accepts E t n image
    row l zero z = whole l z (sound (edition_in E (image_numbers image)) (image_numbers image)) refl
    row l (suc r) z = absurd (omega (arith, given (suc r) t (restore_row_lem E t n image l r z)))

    short : (b : Bool) → ltb (length t) table_length ≡ b → Accepts E t n image
    short true e = absurd (omega (arith, given 1 t (restore_short E t n image (ltb-true (length t) table_length e))))
    short false e = row (ltb-false (length t) table_length e) (first_row (image_rows n image)) refl

restored : (E : Editions) → BothFit E → (t : List ℤ) (n : ℤ) (image : List ℕ) → (restore_call E t n image).0 ≡ pos 0 ∷ [] → Restored E (restore_call E t n image).1 image
restored E fit t n image a =
    let z = accepts E t n image a in
    record {
      number = λ j l.
          ap (λ u. get_or u j (pos 0)) z.left ∙ get_or-append held (drop table_length t) (pos 0) j (omega (arith, length_numbers image))
          ∙ number_held image j l;
      is_sound = subst (λ u. sound (edition_in E u) u ≡ true) (sym z.left) (ap (λ ed. sound ed (held ++ drop table_length t)) same ∙ front.is_sound);
      book = ap (λ u. table_book (edition_in E u) u) z.left ∙ ap (λ ed. table_book ed (held ++ drop table_length t)) same ∙ front.book;
    }
  where
    held : List ℤ
    held = image_numbers image

    all : take table_length held ≡ held
    all = take_all table_length held (omega (arith, length_numbers image))

    same : edition_in E (held ++ drop table_length t) ≡ edition_in E held
    same = subst (λ u. edition_in E (u ++ drop table_length t) ≡ edition_in E held) all (edition_front E held (drop table_length t) (omega (arith, length_numbers image)))

    front : Holds (edition_in E held) (edition_fits E fit held) (held ++ drop table_length t) (table_book (edition_in E held) held)
    front =
        subst (λ u. Holds (edition_in E held) (edition_fits E fit held) (u ++ drop table_length t) (table_book (edition_in E held) held)) all
        (front_holds (edition_in E held) (edition_fits E fit held) held (accepts E t n image a).is_sound (drop table_length t))

pub take_zeros : (lent : ℕ) → image_length ≤ lent → take {A = ℕ} image_length (replicate lent 0) ≡ replicate image_length 0
take_zeros lent h =
    let e : image_length + (lent - image_length) ≡ lent = omega arith in
    ap (λ k. take image_length (replicate {A = ℕ} k 0)) (sym e)
    ∙ ap (take image_length) (sym (replicate-append-replicate image_length (lent - image_length) 0))
    ∙ take_at (replicate image_length 0) (replicate (lent - image_length) 0) image_length (length-replicate {A = ℕ} image_length 0)

left_enough : (E : Editions) (t : List ℤ) (n : ℤ) (image : List ℕ) → Saves E t n image → image_length ≤ length (save_call E t n image).1
left_enough E t n image s = omega (arith, ap length s.left ∙ length_image (nat_of n) t image, s.enough)

pub named_states : (E : Editions) → BothFit E → NamedStates E
named_states E fit =
    record {
      gives_back = λ t t' n image a long.
          let s = saves E t n image a in
          back_same E fit t t' n image (save_call E t n image).1 s.is_sound s.is_number s.enough (left_enough E t n image s) (ap (take image_length) s.left) long;
      another_number = λ t t' n m image a long other differ.
          let s = saves E t n image a in
          back_other E fit t t' n image (save_call E t n image).1 s.is_sound s.is_number s.enough (left_enough E t n image s) (ap (take image_length) s.left) long m other differ;
      zero_bytes = λ t n lent long number enough. zero_image E t n (replicate lent 0) long number (omega (arith, length-replicate {A = ℕ} lent 0)) (take_zeros lent enough);
      accepted = restored E fit;
    }
