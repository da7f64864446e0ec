-- An accepted conversion makes a sound register of the other edition, with the same day book. Assumes nothing.
use mathlib.Core.Path.{◌≡◌, refl, sym, ◌∙◌, ap, subst}
use mathlib.Core.Bool.{Bool, true, false}
use mathlib.Core.List.{List, [], ◌∷◌, ◌++◌, map}
use Prim.Native.Nat.{ℕ, zero, suc, ◌≤◌}
use native.Mathlib.Omega.{arith}
use lib.Dec.{leb, ltb}
use lib.IntN.{ℤ, pos}
use lib.ListN.{length, get_or, drop}
use lib.Seq.{drop_at}
use borrow.Author.Tests.{le-leb, leb-true, ltb-true, ltb-false}
use Rattle.numbers.specs.Naturals.{nat_of}
use Rattle.numbers.proofs.Bools.{join}
use Rattle.numbers.proofs.Rows.{all_at}
use Rattle.daybook.specs.declared.Edition.{Edition}
use Rattle.daybook.specs.Book.{Book}
use Rattle.daybook.specs.Notices.{Numbers}
use Rattle.daybook.specs.Editions.{table_length, Editions, other_than, no_room}
use Rattle.lists.specs.Lists.{Lists, Register, operator_of, book_of, with_facts}
use Rattle.lists.specs.InnerWell.{WellFormed}
use Rattle.lists.proofs.Operators.{named_lists}
use Rattle.lists.proofs.OtherRoom.{room_well}
use Rattle.layout.specs.Layout.{Fits, BothFit, edition_in, part_of, layout, num_at, point_from, register_of, table_book, with_new_book}
use Rattle.layout.specs.Sound.{each, sound}
use Rattle.layout.proofs.Editions.{number_fits, number_known, edition_fits, edition_new}
use Rattle.layout.proofs.PointParts.{all_few_of, layout_length}
use Rattle.layout.proofs.Tables.{named_register, register_back}
use Rattle.layout.proofs.Mirns.{each_point}
use Rattle.layout.proofs.TableSound.{sound_lays}
use Rattle.layout.proofs.Notices.{Holds}
use Rattle.layout.proofs.NewBooks.{register_named, new_is, new_holds, new_length}
use Rattle.conversion.specs.Conversion.{convert_call}
use Rattle.conversion.specs.SameBook.{InEdition, SameBook}
use Rattle.conversion.proofs.Calls.{convert_unsound, convert_short, convert_full, convert_entered}

-- ---- operators

operator_low_lem : (o : ℕ) → 1 ≤ operator_of o
operator_low_lem zero = omega arith
operator_low_lem (suc o) = omega arith

abbrev is_named : Lists → Bool
is_named q = leb 1 q.facts.operator

all_named : (qs : List Lists) → each is_named (map named_lists qs) ≡ true
unfolding each with_facts
all_named [] = refl
all_named (q ∷ qs) = join (le-leb 1 (operator_of q.facts.operator) (operator_low_lem q.facts.operator)) (all_named qs)

-- ---- a sound table, and another edition that has room for its book

module _ (E : Editions) (fit : BothFit E) (t : List ℤ) (s : sound (edition_in E t) t ≡ true)
    (room : no_room (other_than E (edition_in E t)) (table_book (edition_in E t) t) ≡ false) (second : List ℤ) where
  abbrev ed : Edition
  ed = edition_in E t

  abbrev to : Edition
  to = other_than E ed

  abbrev R : Register
  R = register_of ed t

  abbrev u : List ℤ
  u = with_new_book to second (table_book ed t)

  fits : Fits to
  fits = number_fits E fit _

  ok : WellFormed to R
  unfolding table_book
  ok = room_well to (sound_lays ed (edition_fits E fit t) t s).0 room

  laid : u ≡ layout to (named_register R) ++ drop table_length second
  unfolding table_book
  laid = new_is to fits ok second

  named : each is_named (register_of to u).points ≡ true
  named =
      ap (λ v. each is_named (register_of to v).points) laid
      ∙ ap (λ (S : Register). each is_named S.points) (register_back to (register_named ok) (drop table_length second))
      ∙ all_named R.points

  pub in_edition : InEdition E to t u
  unfolding table_book point_from
  in_edition =
      let h : Holds to fits u (book_of R) = new_holds to fits ok second in
      record {
        edition = edition_new E fit to (number_known E fit _) second _;
        is_sound = h.is_sound;
        book = h.book;
        operators = λ i l. leb-true 1 _ (all_at (λ i. is_named (point_from (part_of to u i))) (num_at u 0) (sym (each_point to u is_named) ∙ named) i l);
      }

  pub past_kept : drop table_length u ≡ drop table_length second
  past_kept =
      let n = register_named ok in
      ap (drop table_length) laid
      ∙ drop_at (layout to (named_register R)) (drop table_length second) table_length (layout_length to (named_register R) fits n.points_few (all_few_of n.points_ok))

  pub in_length : length second ≡ table_length → length u ≡ table_length
  unfolding table_book
  in_length h = new_length to fits ok second h

-- ---- an accepted conversion

answers_differ : (a b : ℕ) → ◌≡◌ {A = Numbers} (pos a ∷ []) (pos b ∷ []) → a ≡ b
answers_differ a b e = ap (λ (l : Numbers). nat_of (get_or l 0 (pos 0))) e

pub same_book : SameBook
same_book E fit t second accepted = whole (sound (edition_in E t) t) refl
  where
    to : Edition
    to = other_than E (edition_in E t)

    B : Book
    B = table_book (edition_in E t) t

    Claimed : Numbers × List ℤ → Type 0
    Claimed w = InEdition E to t w.1 × (drop table_length w.1 ≡ drop table_length second)

    given : (r : ℕ) (v : List ℤ) → convert_call E t second ≡ (pos r ∷ [], v) → r ≡ 0
    given r v e = answers_differ r 0 (sym (ap (λ (w : Numbers × List ℤ). w.0) e) ∙ accepted)

    full : sound (edition_in E t) t ≡ true → table_length ≤ length second → (b : Bool) → no_room to B ≡ b → Claimed (convert_call E t second)
    full s h true e = absurd (omega (arith, given 22 _ (convert_full E t second s h e)))
    full s h false e =
        subst Claimed (sym (convert_entered E t second s h e)) (in_edition E fit t s e second, past_kept E fit t s e second)

    short : sound (edition_in E t) t ≡ true → (b : Bool) → ltb (length second) table_length ≡ b → Claimed (convert_call E t second)
    short s true e = absurd (omega (arith, given 1 _ (convert_short E t second s (ltb-true _ _ e))))
    short s false e = full s (ltb-false _ _ e) (no_room to B) refl

    whole : (b : Bool) → sound (edition_in E t) t ≡ b → Claimed (convert_call E t second)
    whole true s = short s (ltb (length second) table_length) refl
    whole false s = absurd (omega (arith, given 1 _ (convert_unsound E t second s)))
