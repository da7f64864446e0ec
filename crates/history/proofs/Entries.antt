-- An entry that stands on a day stands on all of its days, and their shares add up to its energy. Assumes nothing.
use mathlib.Core.Path.{◌≡◌, refl, ◌∙◌, ap, ap₂}
use mathlib.Core.Option.{some}
use Prim.Native.Nat.{ℕ, zero, suc, ◌+◌, ◌-◌, ◌≤◌}
use native.Mathlib.Omega.{arith}
use lib.IntN.{ℤ, ◌+ℤ◌}
use Rattle.numbers.specs.Search.{maybe}
use Rattle.numbers.specs.Sums.{sum_from, sum_over}
use Rattle.numbers.specs.Shares.{share}
use Rattle.numbers.proofs.Sums.{sum_same}
use Rattle.numbers.proofs.Shares.{shares_whole}
use Rattle.daybook.specs.Book.{Entry, Point, day_share}
use Rattle.lists.specs.Lists.{Lists, point_of}
use Rattle.lists.specs.InnerWell.{Well}
use Rattle.lists.proofs.Apart.{recs_apart, stands, Stands as StandsListed}
use Rattle.history.specs.Agreement.{Stands}

-- The days from b on, which is k days after a, counted from a.
sum_since : (f : ℕ → ℤ) (a b k n : ℕ) → b ≡ a + k → sum_from (λ d. f (d - a)) b n ≡ sum_from f k n
unfolding sum_from
sum_since f a b k zero e = refl
sum_since f a b k (suc n) e =
    let h : b - a ≡ k = omega arith in ap₂ ◌+ℤ◌ (ap f h) (sum_since f a (suc b) (suc k) n (omega arith))

-- The shares of an entry's days, where it stands on all of them.
shares_of : (p : Point) (e : Entry) → e.start ≤ e.end → ((d : ℕ) → e.start ≤ d → d ≤ e.end → p.entry d ≡ some e)
    → sum_over (day_share p) e.start e.end ≡ e.energy
unfolding day_share
shares_of p e h whole =
    sum_same _ _ e.start n (λ d i j. ap (maybe _ _) (whole d i (omega arith)))
    ∙ sum_since (share e.energy n) e.start e.start 0 n (omega arith)
    ∙ shares_whole e.energy n (omega arith)
  where
    n : ℕ
    n = suc e.end - e.start

pub entry_stands : {room : ℕ} {q : Lists} → Well room q → (d : ℕ) (e : Entry) → (point_of q).entry d ≡ some e → Stands (point_of q) d e
unfolding point_of
entry_stands {q = q} ok d e h =
    let s : StandsListed 40000 q.facts.install q.recs e d = stands (recs_apart ok.recs_ok) d e h in
    record {
      from = s.since;
      to = s.until;
      whole = s.throughout;
      adds_up = shares_of (point_of q) e (omega arith) s.throughout;
    }
