-- Two calls that read the book: account and allocate.
use Rattle.std.specs.Prelude.{Bool, not, ◌&&◌, cond, List, [], ◌∷◌, ◌++◌, map, ℕ, suc, ◌+◌, ◌-◌, ◌*◌, max, leb, eqb, length, replicate, ℤ, pos, negsuc, ◌+ℤ◌, ◌-ℤ◌}
use Rattle.std.specs.Int.Signed.{le_z, lt_z}
use Rattle.numbers.specs.Naturals.{nat_of}
use Rattle.numbers.specs.Search.{is_some, first_from}
use Rattle.numbers.specs.Sums.{sum_over}
use Rattle.numbers.specs.Shares.{floor_part}
use Rattle.calendar.specs.Calendar.{within, is_day}
use Rattle.daybook.specs.declared.AccountQuery.{AccountQuery}
use Rattle.daybook.specs.declared.AllocationQuery.{AllocationQuery}
use Rattle.daybook.specs.Book.{Point, Book, filled, day_share}
use Rattle.daybook.specs.Notices.{Row, least, Numbers, decide, is_user, users}

-- The sum of f over a list.
unfoldable pub sum_of : {X : Type 0} → (X → ℤ) → List X → ℤ
sum_of f [] = pos 0
sum_of f (x ∷ l) = f x +ℤ sum_of f l

-- ---- account: the shares of the days a to b on which the User is FRO, summed over points

unfoldable pub own_share : ℕ → Point → ℕ → ℤ
own_share u p d = cond (eqb (p.fro d) u) (day_share p d) (pos 0)

unfoldable pub account_of : ℕ → ℕ → ℕ → Book → ℤ
account_of u a b B = sum_of (λ p. sum_over (own_share u p) a b) B.points

unfoldable pub account_rows : AccountQuery → List Row
account_rows n = (2, not (is_user n.user && is_day n.from && is_day n.to && le_z n.from n.to)) ∷ []

unfoldable pub account : AccountQuery → Book → Numbers
account n B =
    let sum : ℤ = account_of (nat_of n.user) (nat_of n.from) (nat_of n.to) B in
    (decide (least (account_rows n)) 1 B (sum ∷ [], B)).0

-- ---- allocate (8.11.2 to 8.11.6)

-- A point is active on gas day g if it is installed and not off.
abbrev pub active : ℕ → Point → Bool
active g p = leb p.facts.install g && not (p.off g)

-- Is a day from a to b filled? Are all n days from a on?
unfoldable pub some_filled : Point → ℕ → ℕ → Bool
some_filled p a b = is_some (first_from (filled p) a (suc b - a))

unfoldable pub all_filled : Point → ℕ → ℕ → Bool
all_filled p a n = not (is_some (first_from (λ d. not (filled p d)) a n))

-- A daily point's gas: of day g if it is filled; else of g - 7 if g - 7 to g - 1 all are; else of g - 1 if it is; else 0
-- (8.11.2(b)). A day before 0 counts as not filled; g is at least 1, since b < g.
unfoldable pub daily_gas : ℕ → Point → ℤ
daily_gas g p =
    let day_before : ℤ = cond (filled p (g - 1)) (day_share p (g - 1)) (pos 0) in
    let weekBefore : ℤ = cond (leb 7 g && all_filled p (g - 7) 7) (day_share p (g - 7)) day_before in
    cond (filled p g) (day_share p g) weekBefore

-- TDM sums the active daily points.
unfoldable pub metered_of : ℕ → Point → ℤ
metered_of g p = cond (active g p && eqb p.facts.kind 1) (daily_gas g p) (pos 0)

unfoldable pub tdm_of : ℕ → Book → ℤ
tdm_of g B = sum_of (metered_of g) B.points

-- A negative number counts 0.
abbrev pub at_least0 : ℤ → ℕ
at_least0 (pos n) = n
at_least0 (negsuc n) = 0

-- The net section load.
unfoldable pub nsl_of : AllocationQuery → Book → ℕ
nsl_of n B = at_least0 (n.tdq -ℤ tdm_of (nat_of n.gasday) B -ℤ n.uag -ℤ n.clp)

-- A base load (8.11.5) is MJ for one day: it counts once for each of the days a to b (document 02, b), and once where
-- a = b + 1, a window of no days (document 02, h).
abbrev pub base_over : ℕ → ℕ → ℕ → ℕ
base_over base a b = base * max 1 (suc b - a)

-- T of an active non-daily point: its shares over a to b or, with no day there filled, its base load over these days.
unfoldable pub weight : ℕ → ℕ → ℕ → Point → ℕ
weight g a b p =
    let measured : ℕ = at_least0 (sum_over (day_share p) a b) in
    let t : ℕ = cond (some_filled p a b) measured (base_over p.facts.base a b) in
    cond (active g p && eqb p.facts.kind 0) t 0

unfoldable pub weights : AllocationQuery → Book → List ℕ
weights n B = map (weight (nat_of n.gasday) (nat_of n.from) (nat_of n.to)) B.points

unfoldable pub total : List ℕ → ℕ
total [] = 0
total (t ∷ ts) = t + total ts

-- The split of the net section load (*ours*; 8.11.4 normalises): S is the sum of T, C that of the earlier points.
unfoldable pub split : ℕ → ℕ → ℕ → List ℕ → List ℤ
split nsl S C [] = []
split nsl S C (t ∷ ts) = (floor_part (pos nsl) S (C + t) -ℤ floor_part (pos nsl) S C) ∷ split nsl S (C + t) ts

unfoldable pub point_shares : AllocationQuery → Book → List ℤ
point_shares n B = split (nsl_of n B) (total (weights n B)) 0 (weights n B)

-- A User's total: each point counts for its FRO on g.
unfoldable pub total_of : ℕ → ℕ → List Point → List ℤ → ℤ
total_of g u [] xs = pos 0
total_of g u (p ∷ ps) [] = pos 0
total_of g u (p ∷ ps) (x ∷ xs) = cond (eqb (p.fro g) u) x (pos 0) +ℤ total_of g u ps xs

-- How many shares an allocation gives the answer table.
abbrev pub share_count : ℕ
share_count = 32

-- a ≤ b + 1, b < g, at most 400 days and maybe none (document 02, h); `room` is the answer table's length.
abbrev pub allocation_in_range : AllocationQuery → ℕ → Bool
allocation_in_range n room =
    is_day n.gasday && is_day n.from && is_day n.to && le_z n.from (n.to +ℤ pos 1) && lt_z n.to n.gasday
    && leb (nat_of n.to - nat_of n.from) 399 && within (pos 0) (pos 1000000000) n.tdq
    && within (negsuc 999999999) (pos 1000000000) n.uag && within (negsuc 999999999) (pos 1000000000) n.clp
    && leb share_count room

unfoldable pub allocate_rows : AllocationQuery → ℕ → Book → List Row
allocate_rows n room B = (2, not (allocation_in_range n room)) ∷ (15, eqb (total (weights n B)) 0) ∷ []

-- NSL and the sixteen totals; and the answer table's first numbers, the shares in opening order and 0 past the last
-- point. A refused allocation gives the answer table nothing.
unfoldable pub allocate : AllocationQuery → ℕ → Book → Numbers × List ℤ
allocate n room B =
    let totals : Numbers = map (λ u. total_of (nat_of n.gasday) u B.points (point_shares n B)) users in
    let table : List ℤ = point_shares n B ++ replicate (share_count - length B.points) (pos 0) in
    decide (least (allocate_rows n room B)) 17 [] (pos (nsl_of n B) ∷ totals, table)
