-- Where the point of a MIRN stands in a table, and the numbers that a look-up hands back.
use Rattle.std.specs.Prelude.{cond, List, [], ℕ, eqb, ℤ}
use mathlib.Core.Option.{Option}
use Rattle.numbers.specs.Naturals.{nat_of}
use Rattle.numbers.specs.Search.{maybe, first_from}
use Rattle.daybook.specs.declared.Edition.{Edition}
use Rattle.layout.specs.Places.{points_place}
use Rattle.daybook.specs.Editions.{Editions}
use Rattle.layout.specs.Layout.{place_of, edition_in, part_of, num_at}
use Rattle.layout.specs.Sound.{sound}

-- The first point, of those in use, whose MIRN is m.
unfoldable pub index_of : Edition → List ℤ → ℕ → Option ℕ
index_of ed t m = first_from (λ i. eqb (num_at t (place_of ed i)) m) 0 (num_at t points_place)

-- That point's numbers; nothing if the table is short or unsound or has no such point.
unfoldable pub look_up : Editions → List ℤ → ℤ → List ℤ
look_up E t mirn =
    let ed : Edition = edition_in E t in cond (sound ed t) (maybe [] (part_of ed t) (index_of ed t (nat_of mirn))) []
