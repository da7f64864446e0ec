-- What the inner functions say of a whole table, and of a call on one point's part.
use Rattle.std.specs.Prelude.{Result, Ok, Err, Bool, ◌&&◌, cond, List, ℕ, ◌+◌, eqb, ℤ, pos, get_or, drop}
use Rattle.refusals.specs.declared.Refusal.{Refusal}
use Rattle.refusals.specs.declared.Refusal.TheVariants as Refusal·
use Rattle.numbers.specs.Naturals.{nat_of}
use Rattle.numbers.specs.Rows.{all}
use Rattle.numbers.specs.Search.{maybe}
use Rattle.daybook.specs.declared.Edition.{Edition}
use Rattle.daybook.specs.Notices.{Row, least, Numbers, decide, is_range}
use Rattle.lists.specs.Lists.{Lists}
use Rattle.layout.specs.Places.{points_place, nondaily_place, daily_place, edition_place, header_spare, header_length}
use Rattle.layout.specs.Layout.{table_length, place_of, edition_of, part_of, num_at, points_from, point_numbers, point_from}
use Rattle.layout.specs.Sound.{zeros, part_sound, mirns_differ, sound}
use Rattle.layout.specs.InnerParts.{room_of}
use Rattle.table.specs.Lookup.{index_of}
use Rattle.table.specs.declared.Located.{Located}

-- What is tested of a table that is long enough and does not say that it has too many points.
unfoldable pub body_sound : Edition → List ℤ → Bool
body_sound ed t =
    is_range (get_or t nondaily_place (pos 0)) && is_range (get_or t daily_place (pos 0))
    && eqb (num_at t edition_place) ed.number && zeros t header_spare header_length
    && all (λ i. part_sound (part_of ed t i)) (num_at t points_place)
    && mirns_differ (points_from ed (num_at t points_place) (drop header_length t))
    && zeros t (place_of ed (num_at t points_place)) table_length

-- A call with k fields on a part: its rows and its effect, on the point's lists.
unfoldable pub on_part : ℕ → (Lists → List Row) → (Lists → Numbers × Lists) → List ℤ → Numbers × List ℤ
on_part k rows effect p =
    let w : Numbers × Lists = effect (point_from p) in
    decide (least (rows (point_from p))) k p (w.0, point_numbers (room_of p) w.1)

-- The edition of a sound table; row 1 of any other.
unfoldable pub sound_edition : List ℤ → Result Edition Refusal
sound_edition t = let ed : Edition = edition_of t in cond (sound ed t) (Ok ed) (Err Refusal·.Unsound)

-- Where the part of a MIRN's point stands; row 4 of an unknown MIRN.
unfoldable pub place_of_mirn : Edition → List ℤ → ℤ → Result Located Refusal
place_of_mirn ed t mirn =
    maybe (Err Refusal·.UnknownMirn) (λ i. Ok (record { from = place_of ed i; to = place_of ed (i + 1) }))
    (index_of ed t (nat_of mirn))
