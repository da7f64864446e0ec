-- Answers at the boundaries, as the outside vectors have them, each list computed from the definitions.
use mathlib.Core.Path.{◌≡◌, refl}
use mathlib.Core.Bool.{false, ◌&&◌, cond}
use mathlib.Core.Option.{Option, none, some}
use mathlib.Core.List.{List, [], ◌∷◌, ◌++◌, map}
use Prim.Native.Nat.{ℕ, zero, suc, ◌+◌, ◌-◌}
use native.Mathlib.Nat.{mul-one}
use native.Mathlib.Omega.{arith}
use lib.Dec.{leb, ltb, eqb}
use lib.IntN.{pos, negsuc}
use lib.ListN.{replicate}
use Rattle.numbers.specs.Search.{first_from}
use Rattle.numbers.specs.Shares.{share}
use Rattle.daybook.specs.declared.Edition.{Edition}
use Rattle.daybook.specs.Book.{Entry, Pending, Point, Book}
use Rattle.daybook.specs.Notices.{least, append, replacement, recut, Outcome, registers, lapses, stays, outcome_of, status_rows, request_rows}
use Rattle.daybook.specs.Queries.{active, some_filled, weight}
use Rattle.daybook.specs.Editions.{editions}
use Rattle.daybook.specs.Calls.{Call, State}
use Rattle.lists.specs.Lists.{Lists, user_on, off_on, entry_on, point_of, book_of, with_facts, unnamed_again}
use Rattle.cases.specs.Journal.{Fresh, OpenIn, OpenBy, Open, Read, Energy, Status, Request, Withdraw, Account, Allocate, replies_from, answers_from, answers_in, alone, answers_of, sized, naturals}

-- an odd megajoule goes early, also below 0 and over the most days; 0 is shared as 0 (document 02, f)
odd :
    (map (share (pos 1) 3) (0 ∷ 1 ∷ 2 ∷ []) ≡ pos 1 ∷ pos 0 ∷ pos 0 ∷ [])
    × (map (share (negsuc 0) 2) (0 ∷ 1 ∷ []) ≡ pos 0 ∷ negsuc 0 ∷ [])
    × (map (share (negsuc 0) 3) (0 ∷ 1 ∷ 2 ∷ []) ≡ pos 0 ∷ pos 0 ∷ negsuc 0 ∷ [])
    × (map (share (pos 0) 3) (0 ∷ 1 ∷ 2 ∷ []) ≡ replicate 3 (pos 0))
    × (map (share (pos 1000000) 40000) (0 ∷ 19999 ∷ 39999 ∷ []) ≡ replicate 3 (pos 25))
    × (map (share (negsuc 999999) 40000) (0 ∷ 19999 ∷ 39999 ∷ []) ≡ replicate 3 (negsuc 24))
    × (map (share (pos 999999) 40000) (0 ∷ 39998 ∷ 39999 ∷ []) ≡ pos 25 ∷ pos 25 ∷ pos 24 ∷ [])
    × (map (share (negsuc 999998) 40000) (0 ∷ 1 ∷ 39999 ∷ []) ≡ negsuc 23 ∷ negsuc 24 ∷ negsuc 24 ∷ [])
unfolding replies_from
odd = (refl, refl, refl, refl, refl, refl, refl, refl)

-- 1 point of 1 record, where only the bounds of the edition count
abbrev small : Edition
small = sized 1 1 0

-- a full point takes a replacement and no append; a full table takes no point
full : List Call
full =
    Fresh (negsuc 0) (negsuc 0)
    ∷ Open 1 1 1 0 (negsuc 0)
    ∷ Energy 1 0 0 (pos 1)
    ∷ Energy 1 1 1 (pos 1)
    ∷ Energy 1 2 2 (pos 1)
    ∷ Energy 1 0 0 (pos 5)
    ∷ Open 2 0 1 0 (pos 7)
    ∷ Open 1 0 1 0 (pos 7)
    ∷ []

full_answers :
    answers_of small full
    ≡ naturals
    ((0 ∷ [])
    ∷ (0 ∷ [])
    ∷ (0 ∷ 1 ∷ 0 ∷ 0 ∷ 0 ∷ [])
    ∷ (16 ∷ 0 ∷ 0 ∷ 0 ∷ 0 ∷ [])
    ∷ (7 ∷ 0 ∷ 0 ∷ 0 ∷ 0 ∷ [])
    ∷ (0 ∷ 2 ∷ 0 ∷ 0 ∷ 0 ∷ [])
    ∷ (16 ∷ [])
    ∷ (5 ∷ [])
    ∷ [])
unfolding replies_from full
full_answers = refl

-- off while off, at or before the last on day or the last filled day, before install; on while on, not after the off day
switched : List Call
switched =
    Fresh (negsuc 0) (negsuc 0)
    ∷ Open 1 1 1 5 (negsuc 0)
    ∷ Status 1 4 0
    ∷ Status 1 5 0
    ∷ Status 1 6 0
    ∷ Status 1 5 1
    ∷ Energy 1 5 5 (pos 1)
    ∷ Status 1 6 1
    ∷ Status 1 7 1
    ∷ Status 1 6 0
    ∷ Energy 1 6 6 (pos 1)
    ∷ Status 1 7 0
    ∷ []

switched_answers :
    answers_of small switched
    ≡ naturals
    ((0 ∷ [])
    ∷ (0 ∷ [])
    ∷ (14 ∷ [])
    ∷ (0 ∷ [])
    ∷ (14 ∷ [])
    ∷ (14 ∷ [])
    ∷ (7 ∷ 0 ∷ 0 ∷ 0 ∷ 0 ∷ [])
    ∷ (0 ∷ [])
    ∷ (14 ∷ [])
    ∷ (14 ∷ [])
    ∷ (0 ∷ 1 ∷ 0 ∷ 0 ∷ 0 ∷ [])
    ∷ (0 ∷ [])
    ∷ [])
unfolding replies_from switched
switched_answers = refl

-- with eight closed spans an off notice would be the ninth; an on notice is refused by 14
eight : List (ℕ × Option ℕ)
eight =
    (0, some 1) ∷ (2, some 3) ∷ (4, some 5) ∷ (6, some 7) ∷ (8, some 9) ∷ (10, some 11) ∷ (12, some 13) ∷ (14, some 15) ∷ []

ninth_span :
    (least (status_rows 16 0 0 none eight) ≡ 16) × (least (status_rows 15 0 0 none eight) ≡ 14) × (least (status_rows 16 1 0 none eight) ≡ 14)
unfolding replies_from eight
ninth_span = (refl, refl, refl)

-- with eight registrations no request is taken; of two rows that apply the lower is returned
ninth_registration :
    (least (request_rows 2 (some (0, 28)) none (replicate 8 (0, 1)) 1) ≡ 16)
    × (least (request_rows 2 (some (0, 28)) none (replicate 7 (0, 1)) 1) ≡ 0)
    × (least (request_rows 1 none none (replicate 8 (0, 1)) 1) ≡ 12)
unfolding replies_from
ninth_registration = (refl, refl, refl)

-- an append that ends before the window leaves the request, on its first and on its last day it registers, unless a
-- later registration stands there already, and after it the request lapses
ending : ℕ → ℕ → Entry
ending y d = record { start = 1; end = d; energy = pos 10; type = y }

waiting : Option Pending
waiting = some (record { user = 2; first = 11; last = 39 })

by_end : ℕ → ℕ → List Outcome
by_end section y =
    map (λ d. outcome_of append section (ending y d) 1 waiting) (10 ∷ 11 ∷ 39 ∷ 40 ∷ [])
    ++ map (λ d. outcome_of append section (ending y d) 40 waiting) (39 ∷ 40 ∷ [])

registering : List Outcome
registering = stays ∷ registers 2 ∷ registers 2 ∷ lapses ∷ stays ∷ lapses ∷ []

-- in section 1 an estimated or substituted one in the window leaves it too, and after the window it lapses all the same
-- (document 02, a)
waits : List Outcome
waits = stays ∷ stays ∷ stays ∷ lapses ∷ stays ∷ lapses ∷ []

window :
    (map (by_end 0) (0 ∷ 1 ∷ 2 ∷ []) ≡ replicate 3 registering) × (map (by_end 1) (0 ∷ 1 ∷ 2 ∷ []) ≡ registering ∷ waits ∷ waits ∷ [])
unfolding by_end ending waiting registering waits
window = (refl, refl)

-- a replacement or recut leaves any request, wherever it ends (document 02, c)
left : (c : ℕ) (x : Entry) (s : ℕ) (o : Option Pending) → (outcome_of replacement c x s o ≡ stays) × (outcome_of recut c x s o ≡ stays)
left c x s o = (refl, refl)

-- a point in section 1: the estimate in the window leaves the request, the reading after it registers, and the later days
-- are User 2's; there is no section 2 or -1
sectioned : List Call
sectioned =
    Fresh (negsuc 0) (negsuc 0)
    ∷ OpenIn (pos 2) 5 1 1 1 (negsuc 0)
    ∷ OpenIn (negsuc 0) 5 1 1 1 (negsuc 0)
    ∷ OpenIn (pos 1) 5 1 1 1 (negsuc 0)
    ∷ Request 5 2 14 []
    ∷ Read 1 5 1 1 (pos 10)
    ∷ Read 0 5 2 2 (pos 20)
    ∷ Read 2 5 3 3 (pos 30)
    ∷ Account 1 1 3
    ∷ Account 2 1 3
    ∷ []

sectioned_answers :
    answers_of (sized 1 3 0) sectioned
    ≡ naturals
    ((0 ∷ [])
    ∷ (2 ∷ [])
    ∷ (2 ∷ [])
    ∷ (0 ∷ [])
    ∷ (0 ∷ 0 ∷ 28 ∷ [])
    ∷ (0 ∷ 1 ∷ 0 ∷ 0 ∷ 0 ∷ [])
    ∷ (0 ∷ 1 ∷ 0 ∷ 2 ∷ 0 ∷ [])
    ∷ (0 ∷ 1 ∷ 0 ∷ 0 ∷ 0 ∷ [])
    ∷ (0 ∷ 30 ∷ [])
    ∷ (0 ∷ 30 ∷ [])
    ∷ [])
unfolding replies_from sectioned
sectioned_answers = refl

-- n openings by operator o, of the MIRNs from m on
by : ℕ → ℕ → ℕ → List Call
by o m zero = []
by o m (suc n) = OpenBy (pos o) m ∷ by o (suc m) n

-- operator 2 opens twenty points, and its 21st would eat a reserve; a MIRN that is known is said first. Then the others
-- take their twelve; a fifth point would eat a reserve or, the last one, finds the table full. There is no operator 0, 5
-- or -1 (document 02, g).
reserves : List Call
reserves =
    Fresh (negsuc 0) (negsuc 0) ∷ OpenBy (pos 0) 1 ∷ OpenBy (pos 5) 1 ∷ OpenBy (negsuc 0) 1
    ∷ (by 2 101 20 ++ by 2 121 1 ++ by 2 101 1 ++ by 1 201 5 ++ by 3 301 5 ++ by 4 401 5 ++ by 2 101 1)

reserves_answers :
    answers_in editions reserves
    ≡ naturals
    (map (λ r. r ∷ [])
    (0 ∷ 2 ∷ 2 ∷ 2 ∷ (replicate 20 0 ++ (19 ∷ 5 ∷ 0 ∷ 0 ∷ 0 ∷ 0 ∷ 19 ∷ 0 ∷ 0 ∷ 0 ∷ 0 ∷ 19 ∷ 0 ∷ 0 ∷ 0 ∷ 0 ∷ 16 ∷ 5 ∷ []))))
unfolding replies_from reserves by
reserves_answers = refl

-- where every reserve is filled, the last points are anybody's; with a reserve of 0 all are
unreserved_answers :
    (answers_of (sized 5 1 1) (by 1 1 3 ++ by 2 11 1 ++ by 3 21 1 ++ by 4 31 1 ++ by 1 41 1)
    ≡ naturals (map (λ r. r ∷ []) (0 ∷ 0 ∷ 19 ∷ 0 ∷ 0 ∷ 0 ∷ 16 ∷ [])))
    × (answers_of (sized 6 1 1) (by 1 1 1 ++ by 2 11 1 ++ by 3 21 1 ++ by 4 31 1 ++ by 1 41 3)
    ≡ naturals (map (λ r. r ∷ []) (0 ∷ 0 ∷ 0 ∷ 0 ∷ 0 ∷ 0 ∷ 16 ∷ [])))
    × (answers_of (sized 3 1 0) (by 4 1 4) ≡ naturals (map (λ r. r ∷ []) (0 ∷ 0 ∷ 0 ∷ 16 ∷ [])))
unfolding replies_from by
unreserved_answers = (refl, refl, refl)

-- an older register: points with 0 for the operator are operator 1's, so that operator 1 has filled its reserve of 2 and
-- the others have theirs; and the 0 of a point that was there stays, whatever the book names it
older : ℕ → ℕ → Lists
older m o =
    record {
      facts = record { mirn = m; kind = 1; install = 0; base = 1000; section = 0; operator = o };
      regs = (0, 1) ∷ [];
      offs = [];
      recs = [];
      pending = none;
    }

older_answers :
    (answers_from (alone small)
    (record {
      edition = sized 8 1 2;
      book = book_of (record { nondaily = negsuc 0; daily = negsuc 0; points = older 1 0 ∷ older 2 1 ∷ [] });
      saved = λ n. none;
    }) (by 1 11 1 ++ by 2 21 3)
    ≡ naturals (map (λ r. r ∷ []) (19 ∷ 0 ∷ 0 ∷ 19 ∷ [])))
    × (unnamed_again (older 1 0 ∷ older 2 3 ∷ []) (older 1 1 ∷ older 2 3 ∷ older 3 4 ∷ []) ≡ older 1 0 ∷ older 2 3 ∷ older 3 4 ∷ [])
unfolding replies_from by older book_of point_of user_on off_on entry_on unnamed_again with_facts
older_answers = (refl, refl)

-- so a replacement in the window and a recut past it leave a request that can be withdrawn, and nobody is registered
corrected : List Call
corrected =
    Fresh (negsuc 0) (negsuc 0)
    ∷ Open 5 0 1 1 (negsuc 0)
    ∷ Energy 5 1 3 (pos 10)
    ∷ Request 5 2 14 []
    ∷ Energy 5 1 3 (pos 20)
    ∷ Energy 5 1 29 (pos 29)
    ∷ Withdraw 5 2
    ∷ Account 1 1 29
    ∷ []

corrected_answers :
    answers_of small corrected
    ≡ naturals
    ((0 ∷ [])
    ∷ (0 ∷ [])
    ∷ (0 ∷ 1 ∷ 0 ∷ 0 ∷ 0 ∷ [])
    ∷ (0 ∷ 0 ∷ 28 ∷ [])
    ∷ (0 ∷ 2 ∷ 0 ∷ 0 ∷ 0 ∷ [])
    ∷ (0 ∷ 3 ∷ 0 ∷ 0 ∷ 0 ∷ [])
    ∷ (0 ∷ [])
    ∷ (0 ∷ 29 ∷ [])
    ∷ [])
unfolding replies_from corrected
corrected_answers = refl

-- a lapsed request is gone
lapsed : List Call
lapsed =
    Fresh (negsuc 0) (negsuc 0)
    ∷ Open 5 0 1 1 (negsuc 0)
    ∷ Request 5 2 14 []
    ∷ Request 5 3 14 []
    ∷ Energy 5 1 29 (pos 10)
    ∷ Withdraw 5 2
    ∷ []

lapsed_answers :
    answers_of small lapsed
    ≡ naturals
    ((0 ∷ []) ∷ (0 ∷ []) ∷ (0 ∷ 0 ∷ 28 ∷ []) ∷ (10 ∷ 0 ∷ 0 ∷ []) ∷ (0 ∷ 1 ∷ 0 ∷ 0 ∷ 1 ∷ []) ∷ (11 ∷ []) ∷ [])
unfolding replies_from lapsed
lapsed_answers = refl

-- the last days: a window that would end on day 40,000, a registration from day 40,000, and no day left to append
last_days : List Call
last_days =
    Fresh (negsuc 0) (negsuc 0)
    ∷ Open 7 0 1 39980 (negsuc 0)
    ∷ Request 8 2 39985 (pos 5 ∷ pos 5 ∷ [])
    ∷ Request 8 2 39985 []
    ∷ Request 7 2 39988 []
    ∷ Request 7 2 39987 []
    ∷ Energy 7 39980 39999 (pos 10)
    ∷ Request 7 2 39985 []
    ∷ Energy 7 39998 39999 (pos 1)
    ∷ Account 1 39990 39999
    ∷ []

last_days_answers :
    answers_of small last_days
    ≡ naturals
    ((0 ∷ [])
    ∷ (0 ∷ [])
    ∷ (3 ∷ 0 ∷ 0 ∷ [])
    ∷ (4 ∷ 0 ∷ 0 ∷ [])
    ∷ (13 ∷ 0 ∷ 0 ∷ [])
    ∷ (0 ∷ 39974 ∷ 39999 ∷ [])
    ∷ (0 ∷ 1 ∷ 0 ∷ 2 ∷ 0 ∷ [])
    ∷ (12 ∷ 0 ∷ 0 ∷ [])
    ∷ (7 ∷ 0 ∷ 0 ∷ 0 ∷ 0 ∷ [])
    ∷ (0 ∷ 5 ∷ [])
    ∷ [])
unfolding replies_from last_days
last_days_answers = refl

-- TDM: day g; else g - 7 where all seven days are filled; else g - 1; else 0. Here day d of a daily point has 10 + d,
-- for the days before n, and a non-daily point of User 2 takes the rest.
metered : ℕ → State
metered n =
    let reading : ℕ → Entry = λ d. record { start = d; end = d; energy = pos (10 + d); type = 0 } in
    let daily : Point = record {
      facts = record { mirn = 1; kind = 1; install = 0; base = 1000; section = 0; operator = 1 };
      entry = λ d. cond (ltb d n) (some (reading d)) none;
      off = λ d. false;
      fro = λ d. 1;
      pending = none;
    } in
    let other : Point = record {
      facts = record { mirn = 2; kind = 0; install = 0; base = 7; section = 0; operator = 1 };
      entry = λ d. none;
      off = λ d. leb 9 d;
      fro = λ d. 2;
      pending = none;
    } in
    let book : Book = record { nondaily = negsuc 0; daily = negsuc 0; points = daily ∷ other ∷ [] } in
    record { edition = small; book = book; saved = λ n. none }

-- all goes to User 2
load : ℕ → List ℕ
load nsl = 0 ∷ nsl ∷ 0 ∷ nsl ∷ replicate 14 0

metered_answers :
    (answers_from (alone small) (metered 6) (Allocate 6 0 1 50 ∷ Allocate 7 0 1 50 ∷ []) ≡ naturals (load 35 ∷ load 50 ∷ []))
    × (answers_from (alone small) (metered 7) (Allocate 6 0 1 50 ∷ Allocate 7 0 1 50 ∷ Allocate 7 0 1 5 ∷ Allocate 8 0 1 50 ∷ []) ≡ naturals (load 34 ∷ load 40 ∷ load 0 ∷ load 50 ∷ []))
    × (answers_from (alone small) (metered 7) (Allocate 9 0 1 50 ∷ Allocate 8 8 8 50 ∷ []) ≡ naturals ((15 ∷ replicate 17 0) ∷ (2 ∷ replicate 17 0) ∷ []))
unfolding replies_from metered load
metered_answers = (refl, refl, refl)

-- a window of no days, a = b + 1: T of an active non-daily point is its base load, once (document 02, h)
no_days : (g b : ℕ) (p : Point) → weight g (suc b) b p ≡ cond (active g p && eqb p.facts.kind 0) p.facts.base 0
unfolding weight some_filled first_from
no_days g b p = let no-day : suc b - suc b ≡ 0 = omega arith in rw (no-day, mul-one p.facts.base)

-- it may end on the day before g, and not on g; a = b + 2 is refused, and an account with a = b + 1 as before
no_days_answers :
    answers_from (alone small) (metered 7) (Allocate 8 8 7 50 ∷ Allocate 8 9 8 50 ∷ Allocate 8 9 7 50 ∷ Account 2 8 7 ∷ [])
    ≡ naturals (load 50 ∷ (2 ∷ replicate 17 0) ∷ (2 ∷ replicate 17 0) ∷ (2 ∷ 0 ∷ []) ∷ [])
unfolding replies_from metered load
no_days_answers = refl
