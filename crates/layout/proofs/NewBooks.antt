-- A book laid out anew, whatever stood in the table: a sound register with that book. Assumes nothing.
use mathlib.Core.Path.{◌≡◌, sym, ◌∙◌, ap, subst}
use mathlib.Core.List.{List, ◌++◌}
use Prim.Native.Nat.{◌≤◌}
use lib.IntN.{ℤ}
use lib.ListN.{length, drop, length-map}
use Rattle.daybook.specs.declared.Edition.{Edition}
use Rattle.lists.specs.Lists.{Register, book_of}
use Rattle.lists.specs.InnerWell.{WellFormed}
use Rattle.lists.proofs.Operators.{named_lists}
use Rattle.lists.proofs.OtherRoom.{named_points, named_book}
use Rattle.layout.specs.Layout.{table_length, Fits, layout, with_new_book}
use Rattle.layout.proofs.Tables.{named_register, book_back, book_of_layout}
use Rattle.layout.proofs.SoundTable.{lays_sound}
use Rattle.layout.proofs.Notices.{Holds, laid_length}

-- the lists of a book, with their operators named
pub register_named : {ed : Edition} {R : Register} → WellFormed ed R → WellFormed ed (named_register R)
register_named {ed} {R} w =
    record {
      nondaily_ok = w.nondaily_ok;
      daily_ok = w.daily_ok;
      points_few = subst (λ n. n ≤ ed.points) (sym (length-map R.points named_lists)) w.points_few;
      points_ok = named_points w.points_ok;
    }

same_book : (R : Register) → book_of (named_register R) ≡ book_of R
unfolding book_of
same_book R = λ i. record { nondaily = R.nondaily; daily = R.daily; points = named_book R.points i }

module _ (ed : Edition) (fits : Fits ed) {R : Register} (w : WellFormed ed R) (t : List ℤ) where
  pub new_is : with_new_book ed t (book_of R) ≡ layout ed (named_register R) ++ drop table_length t
  unfolding with_new_book
  new_is = ap (λ S. layout ed S ++ drop table_length t) (book_back w)

  pub new_holds : Holds ed fits (with_new_book ed t (book_of R)) (book_of R)
  new_holds =
      subst (λ u. Holds ed fits u (book_of R)) (sym new_is)
      (record {
        is_sound = lays_sound ed fits (register_named w) (drop table_length t);
        book = book_of_layout ed (register_named w) (drop table_length t) ∙ same_book R;
      })

  pub new_length : length t ≡ table_length → length (with_new_book ed t (book_of R)) ≡ table_length
  new_length h = ap length new_is ∙ laid_length ed fits (register_named w) t h
