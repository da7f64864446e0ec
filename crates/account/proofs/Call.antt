-- What the public call answers, for each way that its code ends. Assumes nothing.
use mathlib.Core.Path.{◌≡◌, refl, sym, ap, ◌∙◌}
use mathlib.Core.Bool.{Bool, true, false, not, ◌&&◌}
use mathlib.Core.List.{List, [], ◌∷◌}
use Prim.Native.Nat.{ℕ, ◌+◌, ◌-◌, ◌≤◌}
use native.Mathlib.Numerals.{add-one}
use borrow.Author.Tests.{leb-true}
use lib.IntN.{ℤ, pos}
use lib.Signed.{le_z}
use Rattle.numbers.specs.Naturals.{nat_of}
use Rattle.numbers.specs.Sums.{sum_from, sum_over}
use Rattle.numbers.proofs.Bools.{both}
use Rattle.calendar.specs.Calendar.{is_day}
use Rattle.calendar.proofs.Dates.{days_order}
use Rattle.daybook.specs.declared.AccountQuery.{AccountQuery}
use Rattle.daybook.specs.declared.Edition.{Edition}
use Rattle.daybook.specs.Notices.{decide, least, is_user}
use Rattle.daybook.specs.Queries.{own_share, account_of, account_rows, account}
use Rattle.daybook.specs.Book.{Book}
use Rattle.daybook.specs.Editions.{editions}
use Rattle.lists.proofs.Bounds.{within_bounds}
use Rattle.lists.proofs.Rows.{above, least_first, least_skip}
use Rattle.layout.specs.Layout.{edition_of, part_of, num_at, table_book}
use Rattle.layout.specs.Sound.{sound}
use Rattle.layout.specs.Calls.{of_edition}
use Rattle.table.proofs.Calls.{query_unsound, query_sound}
use Rattle.readings.specs.InnerReadings.{point_at}
use Rattle.readings.proofs.Points.{points_sum}
use Rattle.account.specs.Account.{account_call}

-- ---- row 2

abbrev pub in_range : AccountQuery → Bool
in_range n = is_user n.user && is_day n.from && is_day n.to && le_z n.from n.to

-- what row 2 lets through
pub range_bounds : (n : AccountQuery) → in_range n ≡ true → (1 ≤ nat_of n.user) × (nat_of n.from ≤ nat_of n.to) × (nat_of n.to ≤ 39999)
range_bounds n e =
    let a = both (is_user n.user && is_day n.from && is_day n.to) (le_z n.from n.to) e in
    let b = both (is_user n.user && is_day n.from) (is_day n.to) a.0 in
    let c = both (is_user n.user) (is_day n.from) b.0 in (
      (within_bounds 1 16 n.user c.0).0,
      leb-true _ _ ((days_order n.from n.to c.1 b.1).0 ∙ a.1),
      (within_bounds 0 39999 n.to b.1).1,
    )

-- ---- the sum

pub table_sum : (ed : Edition) (t : List ℤ) (u a b : ℕ)
    → sum_from (λ k. sum_from (own_share u (point_at (part_of ed t k))) a (b + 1 - a)) 0 (num_at t 0) ≡ account_of u a b (table_book ed t)
unfolding account_of
table_sum ed t u a b = rw (add-one b) (sym (points_sum ed t (λ p. sum_over (own_share u p) a b)))

-- ---- each way that the code ends

module _ (ed : Edition) (t : List ℤ) (own : ed ≡ edition_of t) (n : AccountQuery) where
  abbrev B : Book
  B = table_book ed t

  -- the call is the query of the table's own edition
  call_is : of_edition (pos 1 ∷ pos 0 ∷ []) (account n) ed t ≡ account_call editions t n
  unfolding account_call
  call_is = ap (λ ed. of_edition (pos 1 ∷ pos 0 ∷ []) (account n) ed t) own

  pub unsound_ends : sound ed t ≡ false → pos 1 ∷ pos 0 ∷ [] ≡ account_call editions t n
  unsound_ends e = sym (query_unsound _ (account n) ed t e) ∙ call_is

  module _ (s : sound ed t ≡ true) where
    decided : (r : ℕ) → least (account_rows n) ≡ r
        → (decide r 1 B (account_of (nat_of n.user) (nat_of n.from) (nat_of n.to) B ∷ [], B)).0 ≡ account_call editions t n
    unfolding account
    decided r e =
        ap (λ r. (decide r 1 B (account_of (nat_of n.user) (nat_of n.from) (nat_of n.to) B ∷ [], B)).0) (sym e)
        ∙ sym (query_sound _ (account n) ed t s) ∙ call_is

    pub range_ends : in_range n ≡ false → pos 2 ∷ pos 0 ∷ [] ≡ account_call editions t n
    unfolding account_rows decide above
    range_ends e = decided 2 (least_first 2 _ [] refl (ap not e))

    pub given_ends : in_range n ≡ true → (u a b : ℕ) → u ≡ nat_of n.user → a ≡ nat_of n.from → b ≡ nat_of n.to
        → pos 0 ∷ account_of u a b B ∷ [] ≡ account_call editions t n
    unfolding account_rows decide least
    given_ends i u a b e f g =
        rw (e, f, g) (decided 0 (least_skip 2 _ [] (ap not i)))
