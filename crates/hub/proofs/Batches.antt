-- The batch and the answers of a trial, on bytes: 600 numbers and room for 500 are all that decides.
use mathlib.Core.Path.{◌≡◌, refl, sym, ◌∙◌, ap, ap₂, subst}
use mathlib.Core.Bool.{Bool, true, false, ◌&&◌}
use mathlib.Core.List.{List, [], ◌∷◌, flatten}
use Prim.Native.Nat.{ℕ, suc, ◌*◌, ◌/◌, ◌≤◌, ◌<◌, min}
use native.Mathlib.Nat.{zero-add, mul-le-mul_left}
use native.Mathlib.Omega.{arith}
use lib.Dec.{leb}
use lib.IntN.{ℤ, pos}
use lib.ListN.{length, get_or, take, replicate, length-replicate}
use lib.Seq.{take_at}
use borrow.Author.Tests.{leb-true, leb-false, le-leb, lt-leb}
use Rattle.numbers.specs.Naturals.{nat_of}
use Rattle.calendar.specs.Calendar.{within}
use Rattle.words.specs.Words.{word_at}
use Rattle.words.proofs.Tables.{decoded_at}
use Rattle.daybook.specs.Notices.{Numbers}
use Rattle.daybook.specs.FromNumbers.{num}
use Rattle.daybook.specs.Editions.{editions}
use Rattle.daybook.specs.Queries.{sum_of}
use Rattle.daybook.specs.Trials.{notices_in, answers_to, books_on_the_way, most_in, removed_in, batch_fits}
use Rattle.lists.proofs.Bounds.{within_bounds}
use Rattle.layout.specs.Layout.{edition_of, table_book}
use Rattle.layout.specs.Sound.{sound}
use Rattle.layout.specs.Calls.{placed}
use Rattle.trial.specs.Trial.{trial_call}
use Rattle.trial.proofs.Answers.{answers_length, notices_length, notices_alike}
use Rattle.trial.proofs.Calls.{fits_few, trial_unsound, trial_unfit, trial_given}
use Rattle.buffers.specs.Buffers.{numbers_in, numbers_held}
use Rattle.buffers.proofs.Bytes.{numbers_length}

-- ---- what fits

module _ (c : ℕ) (h : c ≤ 100) where
  cut : (k m most : ℕ) → k * 100 ≤ most → leb (k * c) (min most m) ≡ leb (k * c) m
  cut k m most l = go (leb (k * c) m) refl
    where
      go : (b : Bool) → leb (k * c) m ≡ b → leb (k * c) (min most m) ≡ b
      go true e = le-leb (k * c) (min most m) (omega (arith, leb-true (k * c) m e, mul-le-mul_left k h))
      go false e = lt-leb (k * c) (min most m) (omega (arith, leb-false (k * c) m e))

module _ (t : List ℤ) (count : ℤ) (b : List ℕ) (r : ℕ) where
  abbrev k : ℕ
  k = length b / 8

  -- the numbers that are read
  abbrev first : List ℤ
  first = numbers_in b (min 600 k)

  fits_same : batch_fits count (length first) (min 500 r) ≡ batch_fits count (length (numbers_held b)) r
  fits_same = rw (numbers_length b (min 600 k), numbers_length b k) (go (within (pos 0) (pos 100) count) refl)
    where
      go : (w : Bool) → within (pos 0) (pos 100) count ≡ w
          → (w && leb (6 * nat_of count) (min 600 k) && leb (5 * nat_of count) (min 500 r)) ≡ (w && leb (6 * nat_of count) k && leb (5 * nat_of count) r)
      go true e = ap₂ ◌&&◌ (cut (nat_of count) (within_bounds 0 100 count e).1 6 k 600 (omega arith)) (cut (nat_of count) (within_bounds 0 100 count e).1 5 r 500 (omega arith))
      go false e = refl

  -- a batch that fits
  abbrev Fitting : Type 0
  Fitting = (nat_of count ≤ 100) × (6 * nat_of count ≤ k) × (5 * nat_of count ≤ r)

  fitting : batch_fits count (length (numbers_held b)) r ≡ true → Fitting
  fitting e = let f = fits_few count (length (numbers_in b k)) r e in (f.0, omega (arith, f.1, numbers_length b k), f.2)

  number_at : (n i : ℕ) → i < n → num (numbers_in b n) i ≡ word_at b (8 * i)
  unfolding numbers_in
  number_at n i h =
      rw (zero-add i, zero-add (8 * i)) at (decoded_at (replicate n (pos 0)) 0 b 0 n i (pos 0) (omega (arith, length-replicate n (pos 0))) h)

  read_same : Fitting → notices_in (nat_of count) first ≡ notices_in (nat_of count) (numbers_held b)
  read_same f =
      notices_alike (nat_of count) first (numbers_in b k) (λ i h.
      number_at (min 600 k) i (omega (arith, f.0, f.1)) ∙ sym (number_at k i (omega (arith, f.1))))

  abbrev w : Numbers × List ℤ
  w = trial_call editions t count (numbers_held b) r

  trial_cut : trial_call editions t count first (min 500 r) ≡ w
  trial_cut = go (sound (edition_of t) t) refl (batch_fits count (length (numbers_held b)) r) refl
    where
      go : (s : Bool) → sound (edition_of t) t ≡ s → (f : Bool) → batch_fits count (length (numbers_held b)) r ≡ f → trial_call editions t count first (min 500 r) ≡ w
      go false s f e = trial_unsound editions t count first (min 500 r) s ∙ sym (trial_unsound editions t count (numbers_held b) r s)
      go true s false e = trial_unfit editions t count first (min 500 r) s (fits_same ∙ e) ∙ sym (trial_unfit editions t count (numbers_held b) r s e)
      go true s true e =
          trial_given editions t count first (min 500 r) s (fits_same ∙ e)
          ∙ ap (λ ns. (pos 0 ∷ pos (most_in (books_on_the_way (edition_of t) ns (table_book (edition_of t) t))) ∷ sum_of removed_in (answers_to (edition_of t) ns (table_book (edition_of t) t)) ∷ [], flatten (answers_to (edition_of t) ns (table_book (edition_of t) t)))) (read_same (fitting e))
          ∙ sym (trial_given editions t count (numbers_held b) r s e)

  -- the call on what was read is the call on what is lent
  pub as_lent : {u l : List ℤ} {c : ℤ} {m : ℕ} → u ≡ t → c ≡ count → l ≡ first → m ≡ min 500 r → trial_call editions u c l m ≡ w
  as_lent e f g h = (λ i. trial_call editions (e i) (f i) (g i) (h i)) ∙ trial_cut

  -- ---- the answers that are given

  abbrev Given : Numbers × List ℤ → Type 0
  Given v = get_or v.0 0 (pos 0) ≡ pos 0 → length v.1 ≡ 5 * nat_of count

  not_given : (m : ℕ) (l : Numbers) → Given (pos (suc m) ∷ l, [])
  not_given m l z = absurd (omega (arith, ap nat_of z))

  given_length : Given w
  given_length = go (sound (edition_of t) t) refl (batch_fits count (length (numbers_held b)) r) refl
    where
      go : (s : Bool) → sound (edition_of t) t ≡ s → (f : Bool) → batch_fits count (length (numbers_held b)) r ≡ f → Given w
      go false s f e = subst Given (sym (trial_unsound editions t count (numbers_held b) r s)) (not_given 0 (replicate 2 (pos 0)))
      go true s false e = subst Given (sym (trial_unfit editions t count (numbers_held b) r s e)) (not_given 1 (replicate 2 (pos 0)))
      go true s true e =
          subst Given (sym (trial_given editions t count (numbers_held b) r s e)) (λ z.
          answers_length (edition_of t) (notices_in (nat_of count) (numbers_held b)) (table_book (edition_of t) t) ∙ ap (λ m. 5 * m) (notices_length (nat_of count) (numbers_held b)))

  -- are the first numbers of the answer table
  pub first_given : (out : List ℤ) → get_or w.0 0 (pos 0) ≡ pos 0 → take (5 * nat_of count) (placed w.1 out) ≡ w.1
  unfolding placed
  first_given out z = take_at w.1 _ (5 * nat_of count) (given_length z)
