-- What the call gives, row by row. Assumes nothing.
use mathlib.Core.Path.{◌≡◌, refl, ◌∙◌, ap, ap₂}
use mathlib.Core.Bool.{Bool, true, false, not}
use mathlib.Core.List.{List, [], ◌∷◌}
use Prim.Native.Nat.{◌≤◌, ◌<◌}
use lib.Dec.{ltb}
use lib.IntN.{ℤ, pos}
use lib.ListN.{length}
use borrow.Author.Tests.{lt-ltb, le-ltb}
use Rattle.daybook.specs.declared.Edition.{Edition}
use Rattle.daybook.specs.Book.{Book}
use Rattle.daybook.specs.Notices.{least, Numbers, decide}
use Rattle.daybook.specs.Editions.{table_length, Editions, other_than, no_room, convert_rows}
use Rattle.lists.proofs.Rows.{least_skip}
use Rattle.layout.specs.Layout.{edition_in, table_book, with_new_book}
use Rattle.layout.specs.Sound.{sound}
use Rattle.conversion.specs.Conversion.{convert_call}

module _ (E : Editions) (t second : List ℤ) where
  abbrev ed : Edition
  ed = edition_in E t

  abbrev to : Edition
  to = other_than E ed

  abbrev B : Book
  B = table_book ed t

  abbrev made : Numbers × List ℤ
  made = ([], with_new_book to second B)

  -- by its three tests
  abbrev by : Bool → Bool → Bool → Numbers × List ℤ
  by whole short full = decide (least ((1, not whole) ∷ (1, short) ∷ (22, full) ∷ [])) 0 second made

  -- the last of them as the code makes it
  pub full_is : (own other : Edition) (room : Bool) → own ≡ ed → other ≡ other_than E own → room ≡ not (no_room other (table_book own t)) → room ≡ not (no_room to B)
  full_is own other room e f g =
      g ∙ ap₂ (λ other own. not (no_room other (table_book own t))) (f ∙ ap (λ (own : Edition). other_than E own) e) e

  convert_is : convert_call E t second ≡ by (sound ed t) (ltb (length second) table_length) (no_room to B)
  unfolding convert_call convert_rows
  convert_is = refl

  pub convert_unsound : sound ed t ≡ false → convert_call E t second ≡ (pos 1 ∷ [], second)
  unfolding least decide
  convert_unsound e =
      convert_is ∙ ap (λ s. by s (ltb (length second) table_length) (no_room to B)) e ∙ go (ltb (length second) table_length) (no_room to B)
    where
      go : (short full : Bool) → by false short full ≡ (pos 1 ∷ [], second)
      go true true = refl
      go true false = refl
      go false true = refl
      go false false = refl

  module _ (s : sound ed t ≡ true) where
    -- the rows of its book
    pub convert_rows_lem : convert_call E t second ≡ decide (least (convert_rows to (length second) B)) 0 second made
    unfolding convert_call
    convert_rows_lem = ap (λ r. decide r 0 second made) (least_skip 1 (not (sound ed t)) _ (ap not s))

    pub convert_short : length second < table_length → convert_call E t second ≡ (pos 1 ∷ [], second)
    unfolding least decide
    convert_short h = convert_is ∙ ap₂ (λ s l. by s l (no_room to B)) s (lt-ltb _ _ h) ∙ go (no_room to B)
      where
        go : (full : Bool) → by true true full ≡ (pos 1 ∷ [], second)
        go true = refl
        go false = refl

    module _ (h : table_length ≤ length second) where
      roomy : (full : Bool) → no_room to B ≡ full → convert_call E t second ≡ by true false full
      roomy full e = convert_is ∙ ap₂ (λ s l. by s l (no_room to B)) s (le-ltb _ _ h) ∙ ap (by true false) e

      pub convert_full : no_room to B ≡ true → convert_call E t second ≡ (pos 22 ∷ [], second)
      unfolding least decide
      convert_full e = roomy true e

      pub convert_entered : no_room to B ≡ false → convert_call E t second ≡ (pos 0 ∷ [], with_new_book to second B)
      unfolding least decide
      convert_entered e = roomy false e
