-- What is claimed of a table and its book holds of every sound table. Assumes nothing.
use mathlib.Core.Path.{◌≡◌, sym, ◌∙◌, ap, ap₂, subst}
use mathlib.Core.Bool.{true, false, not}
use mathlib.Core.Option.{some}
use mathlib.Core.List.{List, [], ◌∷◌}
use Prim.Native.Nat.{ℕ, suc, ◌≤◌, ◌<◌}
use native.Mathlib.Omega.{arith}
use lib.IntN.{ℤ, pos, ◌+ℤ◌}
use lib.ListN.{length, get_or}
use borrow.Author.Tests.{le-leb}
use Rattle.numbers.specs.Sums.{sum_from, sum_over}
use Rattle.numbers.specs.Answers.{refused}
use Rattle.numbers.proofs.Bools.{join}
use Rattle.numbers.proofs.Sums.{sum_same}
use Rattle.daybook.specs.declared.Edition.{Edition}
use Rattle.daybook.specs.Editions.{Editions}
use Rattle.daybook.specs.declared.AllocationQuery.{AllocationQuery}
use Rattle.daybook.specs.Book.{Entry, Point, Book, day_share}
use Rattle.daybook.specs.Notices.{least, Numbers, decide}
use Rattle.daybook.specs.Queries.{sum_of, account_of, account_rows, account, allocate}
use Rattle.lists.specs.InnerWell.{WellFormed}
use Rattle.lists.proofs.Rows.{least_skip, decide_taken}
use Rattle.layout.specs.Layout.{BothFit, edition_in, register_of, table_book}
use Rattle.layout.specs.Sound.{sound}
use Rattle.layout.proofs.Editions.{edition_fits}
use Rattle.layout.proofs.TableSound.{sound_lays}
use Rattle.table.proofs.Calls.{query_sound}
use Rattle.account.specs.Account.{account_call}
use Rattle.allocate.specs.Allocate.{allocate_call}
use Rattle.history.specs.Agreement.{point_no, account_query, account_from, load_in, totals_in, added, Stands, Allocated, AddsUp}
use Rattle.history.proofs.Accounts.{account_splits, accounts_add_up_lem}
use Rattle.history.proofs.Entries.{entry_stands}
use Rattle.history.proofs.Allocations.{totals_add_up, shares_add_up, shares_32}
use Rattle.history.proofs.Points.{point_at_lem, one_user_lem}
use Rattle.history.proofs.Transfers.{sound_transferred}

module _ (E : Editions) (fit : BothFit E) (t : List ℤ) (s : sound (edition_in E t) t ≡ true) where
  abbrev ed : Edition
  ed = edition_in E t

  abbrev B : Book
  B = table_book ed t

  ok : WellFormed ed (register_of ed t)
  ok = (sound_lays ed (edition_fits E fit t) t s).0

  -- ---- accounts

  module _ (u a c : ℕ) (low : 1 ≤ u) (high : u ≤ 16) (h : a ≤ c) (k : c ≤ 39999) where
    no_row : least (account_rows (account_query u a c)) ≡ 0
    unfolding account_rows least
    no_row =
        let user = join (le-leb 1 u low) (le-leb u 16 high) in
        let from = join (le-leb 0 a (omega arith)) (le-leb a 39999 (omega arith)) in
        let to = join (le-leb 0 c (omega arith)) (le-leb c 39999 k) in
        least_skip 2 _ [] (ap not (join (join (join user from) to) (le-leb a c h)))

    account_given : account_call E t (account_query u a c) ≡ pos 0 ∷ account_of u a c B ∷ []
    unfolding account_call account
    account_given =
        query_sound _ _ ed t s ∙ ap (λ r. (decide r 1 B (account_of u a c B ∷ [], B)).0) no_row
        ∙ ap (λ w. w.0) (decide_taken 1 B (account_of u a c B ∷ [], B))

    account_from_lem : account_from E t u a c ≡ account_of u a c B
    unfolding account_from
    account_from_lem = ap (λ l. get_or l 1 (pos 0)) account_given

  accounts_split_lem : (u a b c : ℕ) → 1 ≤ u → u ≤ 16 → a ≤ b → b < c → c ≤ 39999
      → account_from E t u a c ≡ account_from E t u a b +ℤ account_from E t u (suc b) c
  accounts_split_lem u a b c l h i j k =
      account_from_lem u a c l h (omega arith) k ∙ account_splits u a b c B i (omega arith)
      ∙ sym (ap₂ ◌+ℤ◌ (account_from_lem u a b l h i (omega arith)) (account_from_lem u (suc b) c l h j k))

  accounts_sum : (a c : ℕ) → a ≤ c → c ≤ 39999
      → sum_from (λ u. account_from E t u a c) 1 16 ≡ sum_of (λ p. sum_over (day_share p) a c) B.points
  unfolding table_book
  accounts_sum a c h k =
      sum_same _ _ 1 16 (λ u low high. account_from_lem u a c low (omega arith) h k) ∙ accounts_add_up_lem ok a c

  -- ---- entries

  entries_stand : (i : ℕ) (p : Point) (d : ℕ) (e : Entry) → point_no i B.points ≡ some p → p.entry d ≡ some e → Stands p d e
  entries_stand i p d e at =
      let (w, is) = point_at_lem ed t (edition_fits E fit t) s i p at in
      subst (λ p. p.entry d ≡ some e → Stands p d e) is (entry_stands w d e)

  -- ---- allocations

  allocated : (n : AllocationQuery) (room : ℕ) → Allocated E t B n room
  unfolding allocate_call table_book
  allocated n room =
      record {
        as_book = is;
        over_users = subst (Given (λ w. added (totals_in w.0) ≡ load_in w.0)) (sym is) (totals_add_up (edition_fits E fit t) ok n room);
        over_points = subst (Given (λ w. added w.1 ≡ load_in w.0)) (sym is) (shares_add_up (edition_fits E fit t) ok n room);
        all32 = subst (Given (λ w. length w.1 ≡ 32)) (sym is) (shares_32 (edition_fits E fit t) ok n room);
      }
    where
      is : allocate_call E t n room ≡ allocate n room B
      is = query_sound _ _ ed t s

      Given : (Numbers × List ℤ → Type 0) → Numbers × List ℤ → Type 0
      Given P w = refused w.0 ≡ false → P w

  pub sound_adds_up : AddsUp E ed t B
  sound_adds_up =
      record {
        one_user = λ i p d e. one_user_lem ed t (edition_fits E fit t) s i p e d;
        accounts = account_given;
        accounts_split = accounts_split_lem;
        accounts_add_up = accounts_sum;
        entries = entries_stand;
        allocations = allocated;
        transfers = sound_transferred E fit t s;
      }
