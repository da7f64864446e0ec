-- Trials of batches (document 02, i), computed from the definitions.
use mathlib.Core.Path.{◌≡◌, refl}
use mathlib.Core.List.{List, [], ◌∷◌, ◌++◌, map, flatten}
use Prim.Native.Nat.{ℕ}
use lib.IntN.{ℤ, pos, negsuc}
use lib.ListN.{replicate}
use Rattle.daybook.specs.Calls.{Call, Answer}
use Rattle.daybook.specs.Editions.{Editions}
use Rattle.cases.specs.Journal.{FreshIn, Fresh, Open, Request, Trial, replies_from, replies_in, alone, sized}

-- an actual reading, not confirmed
abbrev reading : ℕ → ℕ → ℕ → ℕ → List ℤ
reading m s e x = map pos (m ∷ s ∷ e ∷ x ∷ 0 ∷ 0 ∷ [])

-- a trial's answer, and its answers
abbrev tried : List ℕ → List (List ℕ) → Answer
tried a l = (map pos a, map pos (flatten l))

-- another call's answer
abbrev entered : List ℕ → Answer
entered a = (map pos a, [])

-- ---- a batch

-- with room for two records: an append that ends after the request's period and lets it lapse, another append, a third
-- record that is refused, a MIRN out of range, and a recut of the first record that removes the second; the batch goes
-- on after a refusal, and the most records are those of the middle
batch : List (List ℤ)
batch = reading 1 0 30 10 ∷ reading 1 31 32 7 ∷ reading 1 33 34 5 ∷ reading 0 33 34 5 ∷ reading 1 0 29 4 ∷ []

pending : List Call
pending = Fresh (negsuc 0) (negsuc 0) ∷ Open 1 0 1 0 (negsuc 0) ∷ Request 1 2 14 [] ∷ []

made : List Answer
made = entered (0 ∷ []) ∷ entered (0 ∷ []) ∷ entered (0 ∷ 0 ∷ 28 ∷ []) ∷ []

batch_tried :
    replies_in (alone (sized 2 2 0)) (pending ++ (Trial (pos 5) batch 25 ∷ []))
    ≡ made
    ++ (tried (0 ∷ 2 ∷ 1 ∷ []) ((0 ∷ 1 ∷ 0 ∷ 0 ∷ 1 ∷ []) ∷ (0 ∷ 1 ∷ 0 ∷ 0 ∷ 0 ∷ []) ∷ (16 ∷ 0 ∷ 0 ∷ 0 ∷ 0 ∷ []) ∷ (2 ∷ 0 ∷ 0 ∷ 0 ∷ 0 ∷ []) ∷ (0 ∷ 3 ∷ 1 ∷ 0 ∷ 0 ∷ []) ∷ [])
    ∷ [])
unfolding replies_from flatten batch pending made
batch_tried = refl

-- a trial enters nothing, so that the next one finds the register as it was; and with no point every notice gets 4
twice : List Call
twice =
    Fresh (negsuc 0) (negsuc 0)
    ∷ Trial (pos 2) batch 10
    ∷ Open 1 0 1 0 (negsuc 0)
    ∷ Trial (pos 1) batch 6
    ∷ Trial (pos 0) [] 0
    ∷ []

twice_answers :
    replies_in (alone (sized 2 2 0)) twice
    ≡ entered (0 ∷ [])
    ∷ tried (0 ∷ 0 ∷ 0 ∷ []) ((4 ∷ 0 ∷ 0 ∷ 0 ∷ 0 ∷ []) ∷ (4 ∷ 0 ∷ 0 ∷ 0 ∷ 0 ∷ []) ∷ [])
    ∷ entered (0 ∷ [])
    ∷ tried (0 ∷ 1 ∷ 0 ∷ []) ((0 ∷ 1 ∷ 0 ∷ 0 ∷ 0 ∷ []) ∷ [])
    ∷ tried (0 ∷ 0 ∷ 0 ∷ []) []
    ∷ []
unfolding replies_from flatten batch twice
twice_answers = refl

-- ---- counts and tables

-- counts of -1 and 101, and tables one number short for one notice and for a hundred; a hundred notices of zeros are a
-- hundred numbers out of range
refusal : Answer
refusal = tried (2 ∷ 0 ∷ 0 ∷ []) []

bounds : List Call
bounds =
    Fresh (negsuc 0) (negsuc 0)
    ∷ Trial (negsuc 0) (reading 1 0 9 10 ∷ []) 5
    ∷ Trial (pos 101) (replicate 606 (pos 0) ∷ []) 505
    ∷ Trial (pos 1) (map pos (1 ∷ 0 ∷ 9 ∷ 10 ∷ 0 ∷ []) ∷ []) 5
    ∷ Trial (pos 1) (reading 1 0 9 10 ∷ []) 4
    ∷ Trial (pos 100) (replicate 599 (pos 0) ∷ []) 500
    ∷ Trial (pos 100) (replicate 600 (pos 0) ∷ []) 499
    ∷ Trial (pos 100) (replicate 600 (pos 0) ∷ []) 500
    ∷ []

bounds_answers :
    replies_in (alone (sized 2 2 0)) bounds
    ≡ entered (0 ∷ [])
    ∷ refusal
    ∷ refusal
    ∷ refusal
    ∷ refusal
    ∷ refusal
    ∷ refusal
    ∷ tried (0 ∷ 0 ∷ 0 ∷ []) (replicate 100 (2 ∷ 0 ∷ 0 ∷ 0 ∷ 0 ∷ []))
    ∷ []
unfolding replies_from flatten refusal bounds
bounds_answers = refl

-- ---- in either edition

-- a second record finds room in the long edition alone
two : Editions
two = record { standard = sized 1 1 0; long = record { number = 1; points = 1; records = 2; reserve = 0 } }

both : ℤ → List Call
both e =
    FreshIn e (negsuc 0) (negsuc 0)
    ∷ Open 1 0 1 0 (negsuc 0)
    ∷ Trial (pos 2) (reading 1 0 9 10 ∷ reading 1 10 20 7 ∷ []) 10
    ∷ []

both_answers :
    (replies_in two (both (pos 0))
    ≡ entered (0 ∷ []) ∷ entered (0 ∷ []) ∷ tried (0 ∷ 1 ∷ 0 ∷ []) ((0 ∷ 1 ∷ 0 ∷ 0 ∷ 0 ∷ []) ∷ (16 ∷ 0 ∷ 0 ∷ 0 ∷ 0 ∷ []) ∷ []) ∷ [])
    × (replies_in two (both (pos 1))
    ≡ entered (0 ∷ []) ∷ entered (0 ∷ []) ∷ tried (0 ∷ 2 ∷ 0 ∷ []) ((0 ∷ 1 ∷ 0 ∷ 0 ∷ 0 ∷ []) ∷ (0 ∷ 1 ∷ 0 ∷ 0 ∷ 0 ∷ []) ∷ []) ∷ [])
unfolding replies_from flatten two both
both_answers = (refl, refl)
