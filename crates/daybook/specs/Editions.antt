-- The editions of the table, and the conversion of a book from one to the other (document 02, k).
use Rattle.std.specs.Prelude.{Bool, ◌||◌, cond, List, [], ◌∷◌, map, ℕ, ◌+◌, ◌-◌, max, ltb, eqb, length}
use Rattle.daybook.specs.declared.Edition.{Edition}
use Rattle.daybook.specs.Book.{Point, Book, records}
use Rattle.daybook.specs.Notices.{Row, operators_in, unfilled, over_four}

-- How many numbers a register has, in every edition; those past them are never touched.
abbrev pub table_length : ℕ
table_length = 7688

-- The editions of the numbers 0 and 1.
pub record Editions : Type 0 where
  pub standard : Edition
  pub long : Edition

-- Document 01's, with document 02's reserve (g); and the long one, for daily meters.
abbrev pub editions : Editions
editions =
    record {
      standard = record { number = 0; points = 32; records = 48; reserve = 4 };
      long = record { number = 1; points = 16; records = 108; reserve = 2 };
    }

-- The edition of a number.
unfoldable pub edition_no : Editions → ℕ → Edition
edition_no E n = cond (eqb n 1) E.long E.standard

-- The one that a register of the edition ed is converted to.
abbrev pub other_than : Editions → Edition → Edition
other_than E ed = edition_no E (1 - ed.number)

-- ---- convert: the same book in the other edition

-- The largest of some numbers, 0 of none.
unfoldable pub largest : List ℕ → ℕ
largest [] = 0
largest (n ∷ ns) = max n (largest ns)

-- The largest number of records that a point has, 0 with no point.
unfoldable pub most_records : List Point → ℕ
most_records ps = largest (map (λ (p : Point). length (records p)) ps)

-- An edition has no room for a book with more points or more records than it holds, or with fewer points left there
-- than its operators' unfilled reserves. (The first follows from the last: more points than it holds leave fewer than
-- none.)
unfoldable pub no_room : Edition → Book → Bool
no_room ed B =
    ltb ed.points (length B.points) || ltb ed.records (most_records B.points)
    || ltb ed.points (length B.points + over_four (unfilled ed (operators_in B.points)))

-- The rows of a conversion into the edition ed, in a second table that has room for so many numbers.
unfoldable pub convert_rows : Edition → ℕ → Book → List Row
convert_rows ed room B = (1, ltb room table_length) ∷ (22, no_room ed B) ∷ []
