-- Named states (document 02, d), computed from the definitions.
use mathlib.Core.Path.{◌≡◌, refl}
use mathlib.Core.Bool.{true, false}
use mathlib.Core.List.{List, [], ◌∷◌, map}
use lib.IntN.{pos, negsuc}
use Rattle.daybook.specs.States.{first_row}
use Rattle.daybook.specs.Calls.{save!, restore!, Call, state! }
use Rattle.cases.specs.Journal.{Fresh, OpenBy, Save, Restore, replies_from, answers_of, sized, naturals}

-- restore's rows in their order, not by their numbers: 2 before 17 before 18 before 1
order :
    (first_row ((1, false) ∷ (2, true) ∷ (17, true) ∷ (18, true) ∷ (1, true) ∷ []) ≡ 2)
    × (first_row ((1, false) ∷ (2, false) ∷ (17, true) ∷ (18, true) ∷ (1, true) ∷ []) ≡ 17)
    × (first_row ((1, false) ∷ (2, false) ∷ (17, false) ∷ (18, true) ∷ (1, true) ∷ []) ≡ 18)
    × (first_row ((1, false) ∷ (2, false) ∷ (17, false) ∷ (18, false) ∷ (1, true) ∷ []) ≡ 1)
unfolding replies_from
order = (refl, refl, refl, refl)

-- nothing saved; state numbers 0, 5 and −1, and an image a byte short; a point that is there again or not after each
-- restore; a second save of a number that replaces the first; fresh leaves what is saved
calls : List Call
calls =
    Fresh (negsuc 0) (negsuc 0)
    ∷ Restore (pos 1)
    ∷ Save (pos 0)
    ∷ Save (pos 5)
    ∷ Restore (negsuc 0)
    ∷ state! (save! (pos 1) 63487)
    ∷ Restore (pos 1)
    ∷ Save (pos 1)
    ∷ OpenBy (pos 1) 7
    ∷ Save (pos 4)
    ∷ state! (restore! (pos 1) 63487)
    ∷ OpenBy (pos 1) 7
    ∷ Restore (pos 1)
    ∷ OpenBy (pos 1) 7
    ∷ Restore (pos 1)
    ∷ Restore (pos 4)
    ∷ OpenBy (pos 1) 7
    ∷ Save (pos 1)
    ∷ Fresh (negsuc 0) (negsuc 0)
    ∷ Restore (pos 2)
    ∷ Restore (pos 1)
    ∷ OpenBy (pos 1) 7
    ∷ []

calls_answers :
    answers_of (sized 4 1 0) calls
    ≡ naturals
    (map (λ r. r ∷ [])
    (0 ∷ 17 ∷ 2 ∷ 2 ∷ 2 ∷ 2 ∷ 17 ∷ 0 ∷ 0 ∷ 0 ∷ 2 ∷ 5 ∷ 0 ∷ 0 ∷ 0 ∷ 0 ∷ 5 ∷ 0 ∷ 0 ∷ 17 ∷ 0 ∷ 5 ∷ []))
unfolding replies_from calls
calls_answers = refl
