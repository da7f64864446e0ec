-- Two editions (document 02, k), computed from the definitions.
use mathlib.Core.Path.{◌≡◌, refl}
use mathlib.Core.List.{List, [], ◌∷◌, ◌++◌, map}
use Prim.Native.Nat.{ℕ}
use lib.IntN.{pos, negsuc}
use lib.ListN.{replicate}
use Rattle.daybook.specs.Editions.{Editions, editions}
use Rattle.daybook.specs.Calls.{Call}
use Rattle.cases.specs.Journal.{FreshIn, Fresh, OpenBy, Open, Energy, Convert, Save, Restore, replies_from, answers_in, sized, naturals}

-- the answers of calls that answer a refusal alone
abbrev refusals : List ℕ → List (List ℕ)
refusals l = map (λ r. r ∷ []) l

-- there is no edition 2 or -1; sixteen points in the long one, of which two are reserved for each operator: operator 1
-- opens ten, and an eleventh would eat a reserve; the others take theirs, and a 17th finds the table full
long_points : List Call
long_points =
    FreshIn (pos 2) (negsuc 0) (negsuc 0) ∷ FreshIn (negsuc 0) (negsuc 0) (negsuc 0) ∷ FreshIn (pos 1) (negsuc 0) (negsuc 0)
    ∷ map (OpenBy (pos 1)) (1 ∷ 2 ∷ 3 ∷ 4 ∷ 5 ∷ 6 ∷ 7 ∷ 8 ∷ 9 ∷ 10 ∷ 11 ∷ [])
    ++ (map (OpenBy (pos 2)) (21 ∷ 22 ∷ 23 ∷ []) ++ (map (OpenBy (pos 3)) (31 ∷ 32 ∷ []) ++ map (OpenBy (pos 4)) (41 ∷ 42 ∷ 43 ∷ [])))

long_points_answers :
    answers_in editions long_points
    ≡ naturals (refusals (2 ∷ 2 ∷ 0 ∷ (replicate 10 0 ++ (19 ∷ 0 ∷ 0 ∷ 19 ∷ 0 ∷ 0 ∷ 0 ∷ 0 ∷ 16 ∷ []))))
unfolding replies_from long_points
long_points_answers = refl

-- 3 points of 1 record and none reserved, or 2 points of 2 records
two : Editions
two =
    record {
      standard = record { number = 0; points = 3; records = 1; reserve = 0 };
      long = record { number = 1; points = 2; records = 2; reserve = 0 };
    }

-- a third record gets 16; a second table of 7,687 numbers gets 1, two records get 22, and one is converted; then a third
-- point is let in, and gets 22 on the way back; a restore goes back to the long edition, where it is a third point again
conversions : List Call
conversions =
    FreshIn (pos 1) (negsuc 0) (negsuc 0)
    ∷ Open 1 0 1 0 (negsuc 0)
    ∷ Energy 1 0 1 (pos 3)
    ∷ Energy 1 2 3 (pos 5)
    ∷ Energy 1 4 5 (pos 7)
    ∷ Convert 7687
    ∷ Convert 7688
    ∷ Energy 1 0 2 (pos 6)
    ∷ Save (pos 2)
    ∷ Convert 7704
    ∷ Energy 1 3 4 (pos 7)
    ∷ Open 2 0 1 0 (negsuc 0)
    ∷ Open 3 0 1 0 (negsuc 0)
    ∷ Convert 7688
    ∷ Restore (pos 2)
    ∷ Open 2 0 1 0 (negsuc 0)
    ∷ Open 3 0 1 0 (negsuc 0)
    ∷ []

conversions_answers :
    answers_in two conversions
    ≡ naturals
    ((0 ∷ [])
    ∷ (0 ∷ [])
    ∷ (0 ∷ 1 ∷ 0 ∷ 0 ∷ 0 ∷ [])
    ∷ (0 ∷ 1 ∷ 0 ∷ 0 ∷ 0 ∷ [])
    ∷ (16 ∷ 0 ∷ 0 ∷ 0 ∷ 0 ∷ [])
    ∷ (1 ∷ [])
    ∷ (22 ∷ [])
    ∷ (0 ∷ 3 ∷ 1 ∷ 0 ∷ 0 ∷ [])
    ∷ (0 ∷ [])
    ∷ (0 ∷ [])
    ∷ (16 ∷ 0 ∷ 0 ∷ 0 ∷ 0 ∷ [])
    ∷ (0 ∷ [])
    ∷ (0 ∷ [])
    ∷ (22 ∷ [])
    ∷ (0 ∷ [])
    ∷ (0 ∷ [])
    ∷ (16 ∷ [])
    ∷ [])
unfolding replies_from two conversions
conversions_answers = refl

-- three points are operator 1's, and two are reserved for each of the others: eight are too few, and nine are enough
reserved : List Call
reserved = Fresh (negsuc 0) (negsuc 0) ∷ OpenBy (pos 1) 1 ∷ OpenBy (pos 1) 2 ∷ OpenBy (pos 1) 3 ∷ Convert 7688 ∷ []

reserved_answers :
    (answers_in (record { standard = sized 4 1 0; long = record { number = 1; points = 8; records = 1; reserve = 2 } }) reserved
    ≡ naturals (refusals (0 ∷ 0 ∷ 0 ∷ 0 ∷ 22 ∷ [])))
    × (answers_in (record { standard = sized 4 1 0; long = record { number = 1; points = 9; records = 1; reserve = 2 } }) reserved
    ≡ naturals (refusals (0 ∷ 0 ∷ 0 ∷ 0 ∷ 0 ∷ [])))
unfolding replies_from reserved
reserved_answers = (refl, refl)
