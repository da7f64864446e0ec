-- A refusal is a row of "Notices sent back", so at most the highest.
use mathlib.Core.Path.{◌≡◌, refl}
use mathlib.Core.Bool.{Bool, true, false, not, cond}
use mathlib.Core.Option.{Option, none, some}
use mathlib.Core.List.{List, [], ◌∷◌, ◌++◌}
use Prim.Native.Nat.{ℕ, zero, suc, ◌≤◌}
use native.Mathlib.Omega.{arith}
use lib.Dec.{leb, ltb}
use lib.IntN.{ℤ, pos}
use lib.ListN.{length, replicate}
use borrow.Author.Tests.{leb-true}
use Rattle.numbers.specs.Naturals.{nat_of}
use Rattle.numbers.specs.Search.{maybe}
use Rattle.numbers.proofs.Bools.{both}
use Rattle.calendar.specs.Calendar.{day_of, is_date, date_call}
use Rattle.daybook.specs.declared.Edition.{Edition}
use Rattle.daybook.specs.declared.NewRegister.{NewRegister}
use Rattle.daybook.specs.declared.Opening.{Opening}
use Rattle.daybook.specs.declared.EnergyNotice.{EnergyNotice}
use Rattle.daybook.specs.declared.StatusNotice.{StatusNotice}
use Rattle.daybook.specs.declared.TransferRequest.{TransferRequest}
use Rattle.daybook.specs.declared.Withdrawal.{Withdrawal}
use Rattle.daybook.specs.declared.Correction.{Correction}
use Rattle.daybook.specs.declared.AccountQuery.{AccountQuery}
use Rattle.daybook.specs.declared.AllocationQuery.{AllocationQuery}
use Rattle.daybook.specs.Book.{Book, Point}
use Rattle.daybook.specs.Notices.{Row, highest_refusal, Numbers, decide, find, on_point, fresh_rows, operators_in, opening_rows, opening, energy_early, energy_rows, energy_rows_at, energy, status_early, status_rows, status, request_early, request_rows, request, withdraw_early, withdraw_rows, withdraw}
use Rattle.daybook.specs.Corrections.{correct_early, correct_rows, correct_rows_at, correct}
use Rattle.daybook.specs.Queries.{account_rows, account, allocate_rows, allocate}
use Rattle.daybook.specs.States.{state_row, first_row}
use Rattle.daybook.specs.Editions.{editions, other_than, convert_rows}
use Rattle.daybook.specs.Trials.{trial_rows, trial}
use Rattle.lists.proofs.Rows.{up_to, up_to_append, up_to_least}
use Rattle.layout.specs.Layout.{table_length, edition_of, table_book}
use Rattle.layout.specs.Sound.{sound}
use Rattle.layout.specs.Calls.{answer_and_table, on_edition, of_edition}
use Rattle.opening.specs.Opening.{fresh_call, open_call}
use Rattle.energy.specs.Energy.{energy_call}
use Rattle.status.specs.Status.{status_call}
use Rattle.transfer.specs.Transfer.{request_call, withdraw_call}
use Rattle.correction.specs.Correction.{correct_call}
use Rattle.account.specs.Account.{account_call}
use Rattle.allocate.specs.Allocate.{allocate_call}
use Rattle.trial.specs.Trial.{trial_call}
use Rattle.images.specs.Images.{save_call, restore_row, restore_call}
use Rattle.conversion.specs.Conversion.{convert_call}
use Rattle.buffers.proofs.Ends.{refusal_of}

decided : {X : Type 0} (r k : ℕ) (x : X) (w : Numbers × X) → refusal_of (decide r k x w).0 ≡ r
unfolding decide
decided zero k x w = refl
decided (suc r) k x w = refl

on_point_lem : (k : ℕ) (m : ℤ) (early : List Row) (rows : Point → List Row) (effect : Point → Numbers × Point) (B : Book)
    → up_to highest_refusal early ≡ true → ((p : Point) → up_to highest_refusal (rows p) ≡ true) → refusal_of (on_point k m early rows effect B).0 ≤ highest_refusal
unfolding on_point up_to
on_point_lem k m early rows effect B h g =
    rw decided (up_to_least highest_refusal (early ++ maybe ((4, true) ∷ []) rows found) (up_to_append highest_refusal early _ h (go found)))
  where
    found : Option Point
    found = find (nat_of m) B.points

    go : (o : Option Point) → up_to highest_refusal (maybe ((4, true) ∷ []) rows o) ≡ true
    go none = refl
    go (some p) = g p

on_table_lem : (k : ℕ) (step : Book → Numbers × Book) (ed : Edition) (t : List ℤ) → ((B : Book) → refusal_of (step B).0 ≤ highest_refusal)
    → refusal_of (on_edition k step ed t).0 ≤ highest_refusal
unfolding on_edition
on_table_lem k step ed t h = go (sound ed t)
  where
    go : (s : Bool) → refusal_of (cond s (answer_and_table ed t (step (table_book ed t))) (pos 1 ∷ replicate k (pos 0), t)).0 ≤ highest_refusal
    go true = h (table_book ed t)
    go false = omega arith

-- ---- each call

pub fresh_small : (t : List ℤ) (n : NewRegister) → refusal_of (fresh_call editions t n).0 ≤ highest_refusal
unfolding fresh_call fresh_rows up_to
fresh_small t n = rw decided (up_to_least highest_refusal ((1, ltb (length t) table_length) ∷ fresh_rows n) refl)

pub open_small : (t : List ℤ) (n : Opening) → refusal_of (open_call editions t n).0 ≤ highest_refusal
unfolding open_call opening opening_rows up_to
open_small t n = on_table_lem 0 (opening (edition_of t) n) (edition_of t) t (λ B. rw decided (up_to_least highest_refusal (opening_rows (edition_of t) n _ (operators_in B.points)) refl))

pub energy_small : (t : List ℤ) (n : EnergyNotice) → refusal_of (energy_call editions t n).0 ≤ highest_refusal
unfolding energy_call energy energy_early energy_rows_at energy_rows up_to
energy_small t n = on_table_lem 4 (energy (edition_of t) n) (edition_of t) t (λ B. on_point_lem 4 n.mirn (energy_early n) _ _ B refl (λ p. refl))

pub status_small : (t : List ℤ) (n : StatusNotice) → refusal_of (status_call editions t n).0 ≤ highest_refusal
unfolding status_call status status_early status_rows up_to
status_small t n = on_table_lem 0 (status n) (edition_of t) t (λ B. on_point_lem 0 n.mirn (status_early n) _ _ B refl (λ p. refl))

pub request_small : (t : List ℤ) (n : TransferRequest) (hs : List ℤ) → refusal_of (request_call editions t n hs).0 ≤ highest_refusal
unfolding request_call request request_early request_rows up_to
request_small t n hs =
    on_table_lem 2 (request n hs) (edition_of t) t (λ B. on_point_lem 2 n.mirn (request_early n hs) _ _ B refl (λ p. refl))

pub withdraw_small : (t : List ℤ) (n : Withdrawal) → refusal_of (withdraw_call editions t n).0 ≤ highest_refusal
unfolding withdraw_call withdraw withdraw_early withdraw_rows up_to
withdraw_small t n = on_table_lem 0 (withdraw n) (edition_of t) t (λ B. on_point_lem 0 n.mirn (withdraw_early n) _ _ B refl (λ p. refl))

pub correct_small : (t : List ℤ) (n : Correction) → refusal_of (correct_call editions t n).0 ≤ highest_refusal
unfolding correct_call correct correct_early correct_rows_at correct_rows up_to
correct_small t n = on_table_lem 16 (correct n) (edition_of t) t (λ B. on_point_lem 16 n.mirn (correct_early n) _ _ B refl (λ p. refl))

pub date_small : (y m d : ℤ) → refusal_of (date_call y m d) ≤ highest_refusal
unfolding date_call
date_small y m d = go (is_date y m d)
  where
    go : (b : Bool) → refusal_of (cond b (pos 0 ∷ pos (day_of (nat_of y) (nat_of m) (nat_of d)) ∷ []) (pos 2 ∷ pos 0 ∷ [])) ≤ highest_refusal
    go true = omega arith
    go false = omega arith

-- ---- the queries

pub account_small : (t : List ℤ) (n : AccountQuery) → refusal_of (account_call editions t n) ≤ highest_refusal
unfolding account_call account account_rows of_edition up_to
account_small t n = go (sound (edition_of t) t)
  where
    go : (s : Bool) → refusal_of (cond s (account n (table_book (edition_of t) t)) (pos 1 ∷ pos 0 ∷ [])) ≤ highest_refusal
    go true = rw decided (up_to_least highest_refusal (account_rows n) refl)
    go false = omega arith

pub allocate_small : (t : List ℤ) (q : AllocationQuery) (room : ℕ) → refusal_of (allocate_call editions t q room).0 ≤ highest_refusal
unfolding allocate_call allocate allocate_rows of_edition up_to
allocate_small t q room = go (sound (edition_of t) t)
  where
    go : (s : Bool) → refusal_of (cond s (allocate q room (table_book (edition_of t) t)) (pos 1 ∷ replicate 17 (pos 0), [])).0 ≤ highest_refusal
    go true = rw decided (up_to_least highest_refusal (allocate_rows q room (table_book (edition_of t) t)) refl)
    go false = omega arith

pub trial_small : (t : List ℤ) (count : ℤ) (notices : List ℤ) (room : ℕ) → refusal_of (trial_call editions t count notices room).0 ≤ highest_refusal
unfolding trial_call trial trial_rows of_edition up_to
trial_small t count notices room = go (sound (edition_of t) t)
  where
    go : (s : Bool) → refusal_of (cond s (trial (edition_of t) count notices room (table_book (edition_of t) t)) (pos 1 ∷ replicate 2 (pos 0), [])).0 ≤ highest_refusal
    go true = rw decided (up_to_least highest_refusal (trial_rows count (length notices) room) refl)
    go false = omega arith

pub save_small : (t : List ℤ) (n : ℤ) (image : List ℕ) → refusal_of (save_call editions t n image).0 ≤ highest_refusal
unfolding save_call up_to
save_small t n image =
    rw decided (up_to_least highest_refusal ((1, not (sound (edition_of t) t)) ∷ state_row n (length image) ∷ []) refl)

first_small : (n : ℕ) (rs : List Row) → up_to n rs ≡ true → first_row rs ≤ n
unfolding up_to first_row
first_small n [] h = omega arith
first_small n (r ∷ rs) h =
    let (low, rest) = both (leb r.0 n) (up_to n rs) h in go r.1 (leb-true r.0 n low) (first_small n rs rest)
  where
    go : (b : Bool) → r.0 ≤ n → first_row rs ≤ n → cond b r.0 (first_row rs) ≤ n
    go true l k = l
    go false l k = k

pub restore_small : (t : List ℤ) (n : ℤ) (image : List ℕ) → refusal_of (restore_call editions t n image).0 ≤ highest_refusal
unfolding restore_call restore_row up_to
restore_small t n image = rw decided (first_small highest_refusal _ refl)

pub convert_small : (t second : List ℤ) → refusal_of (convert_call editions t second).0 ≤ highest_refusal
unfolding convert_call convert_rows up_to
convert_small t second =
    let to : Edition = other_than editions (edition_of t) in
    rw decided (up_to_least highest_refusal ((1, not (sound (edition_of t) t)) ∷ convert_rows to (length second) (table_book (edition_of t) t)) refl)
