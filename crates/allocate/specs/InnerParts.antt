-- What the functions behind allocate say: of arrays of 32, a place for each point and 0 past the last one.
use Rattle.std.specs.Prelude.{◌≡◌, true, cond, List, ◌∷◌, ◌++◌, map, ℕ, zero, suc, ◌+◌, ◌-◌, ◌*◌, ◌≤◌, ◌<◌, eqb, ℤ, pos, ◌-ℤ◌, length, get_or, replicate}
use lib.IntN.{sub_ℕ}
use Rattle.numbers.specs.Naturals.{nat_of}
use Rattle.daybook.specs.declared.AllocationQuery.{AllocationQuery}
use Rattle.daybook.specs.Book.{Book}
use Rattle.daybook.specs.Notices.{Numbers, users}
use Rattle.daybook.specs.Queries.{share_count, allocation_in_range, nsl_of, weights, total, point_shares, total_of}
use Rattle.layout.specs.Layout.{num_at}
use Rattle.table.specs.declared.register.Register.{Register}
use Rattle.table.specs.InnerRegisters.{book}

-- Numbers of points, in an array with a place for each share.
unfoldable pub padded : List ℕ → List ℕ
padded l = l ++ replicate (share_count - length l) 0

-- What User u has of the first k shares, where us names the Users.
unfoldable pub total_to : List ℕ → List ℤ → ℕ → ℕ → ℕ
total_to us xs u zero = 0
total_to us xs u (suc k) = total_to us xs u k + cond (eqb (get_or us k 0) u) (num_at xs k) 0

-- The load before it is cut at 0, from TDM raised by 1,000,000 for each point.
abbrev pub load_of : AllocationQuery → ℕ → ℕ → ℤ
load_of n tdm raised = n.tdq -ℤ sub_ℕ tdm raised -ℤ n.uag -ℤ n.clp

-- S is at most this, in any edition of the table: 4,000,000 for each of at most 32 points, a base load of 10,000 over
-- 400 days, and 1,000,000 for each record, which takes four of the 7,680 numbers of all points.
abbrev pub most_total : ℕ
most_total = 32 * 4000000 + 250000 * 7680

-- Every share in an answer table is at most `most`.
abbrev pub SharesBelow : ℕ → List ℤ → Type 0
SharesBelow most l = (k : ℕ) → k < share_count → num_at l k ≤ most

-- What a given allocation answers, and what it gives the answer table.
unfoldable pub given_of : AllocationQuery → Book → Numbers × List ℤ
given_of q B = (
  pos (nsl_of q B) ∷ map (λ u. total_of (nat_of q.gasday) u B.points (point_shares q B)) users,
  point_shares q B ++ replicate (share_count - length B.points) (pos 0),
)

-- The tests before the split were passed: ws are the weights, and s is their sum.
pub record MaySplit (r : Register) (q : AllocationQuery) (ws : List ℕ) (s room : ℕ) : Type 0 where
  pub in_range : allocation_in_range q room ≡ true
  pub weigh : ws ≡ padded (weights q (book r))
  pub sum : s ≡ total ws
  pub some : 0 < s
  pub few : s ≤ most_total
