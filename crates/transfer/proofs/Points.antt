-- What the two calls answer and leave on the part of a point, test by test. Assumes nothing.
use mathlib.Core.Path.{◌≡◌, refl, sym, ◌∙◌, ap}
use mathlib.Core.Bool.{false, not}
use mathlib.Core.Option.{Option, none, some}
use mathlib.Core.List.{List, [], ◌∷◌}
use Prim.Native.Nat.{ℕ, zero, suc, ◌-◌, ◌≤◌, ◌<◌}
use native.Mathlib.Omega.{arith}
use lib.Dec.{leb, eqb}
use lib.ListN.{length}
use lib.IntN.{ℤ, pos}
use borrow.Author.Tests.{eq-eqb, ne_eqb, le-leb, lt-leb}
use Rattle.numbers.specs.Search.{maybe, is_some}
use Rattle.daybook.specs.Book.{Pending}
use Rattle.daybook.specs.Notices.{least, request_rows, withdraw_rows}
use Rattle.lists.specs.Lists.{Lists}
use Rattle.lists.specs.InnerSteps.{latest_of, with_pending_lists}
use Rattle.lists.specs.InnerWell.{Well}
use Rattle.lists.proofs.Rows.{above, least_first, least_skip}
use Rattle.layout.specs.Layout.{num_at, pending_from, point_from, point_numbers}
use Rattle.layout.specs.InnerParts.{room_of, SoundPart}
use Rattle.layout.specs.InnerWrites.{set_pending, clear_pending}
use Rattle.layout.proofs.PartBlocks.{few_pending}
use Rattle.layout.proofs.Numbers.{Few, few}
use Rattle.layout.proofs.SoundParts.{part_well, part_laid}
use Rattle.layout.proofs.RowWrites.{set_pending_lem, clear_pending_lem}
use Rattle.point.specs.InnerTests.{reg_user, reg_row}
use Rattle.point.proofs.Rows.{regs_read, length_rows}
use Rattle.point.proofs.Registrations.{latest_user}
use Rattle.table.proofs.OnPart.{part_entered, part_refused}
use Rattle.transfer.specs.InnerParts.{request_rows_of, request_effect, request_part, withdraw_rows_of, withdraw_effect, withdraw_part}

-- another pending request fits the part
pub pending_room : {room : ℕ} (o : Option Pending) (q : Lists) → Well room q → Few room (with_pending_lists o q)
pending_room o q w = few_pending (few w) o

-- ---- withdraw

-- by the pending User's place, where 0 stands for no request
own : (u first last user : ℕ) → 1 ≤ user → maybe false (λ q. eqb q.user user) (pending_from u first last) ≡ eqb u user
own zero first last user h = sym (ne_eqb 0 user (λ (e : 0 ≡ user). omega arith))
own (suc u) first last user h = refl

module _ (p : List ℤ) (user : ℕ) (low : 1 ≤ user) where
  pub withdraw_other : (num_at p 7 ≡ user → ⊥) → withdraw_part user p ≡ (pos 11 ∷ [], p)
  unfolding withdraw_part withdraw_rows point_from above
  withdraw_other n =
      part_refused 0 (withdraw_rows_of user) withdraw_effect p 10
      (least_first 11 _ [] refl (ap not (own (num_at p 7) (num_at p 8) (num_at p 9) user low ∙ ne_eqb (num_at p 7) user n)))

  pub withdraw_own : SoundPart p → num_at p 7 ≡ user → withdraw_part user p ≡ (pos 0 ∷ [], clear_pending p)
  unfolding withdraw_part withdraw_rows point_from least
  withdraw_own s e =
      part_entered 0 (withdraw_rows_of user) withdraw_effect p
      (least_skip 11 _ [] (ap not (own (num_at p 7) (num_at p 8) (num_at p 9) user low ∙ eq-eqb (num_at p 7) user e)))
      ∙ ap (λ u. (pos 0 ∷ [], u)) (sym (ap clear_pending (sym (part_laid s)) ∙ clear_pending_lem (room_of p) (point_from p) (few (part_well s))))

-- ---- request: the places that it reads

waits : (u first last : ℕ) → is_some (pending_from u first last) ≡ not (eqb u 0)
waits zero first last = refl
waits (suc u) first last = ap not (sym (ne_eqb (suc u) 0 (λ (e : suc u ≡ 0). omega arith)))

waiting_is : (p : List ℤ) → is_some (point_from p).pending ≡ not (eqb (num_at p 7) 0)
unfolding point_from
waiting_is p = waits (num_at p 7) (num_at p 8) (num_at p 9)

count_is_lem : (p : List ℤ) → length (point_from p).regs ≡ num_at p 4
unfolding point_from
count_is_lem p = ap length (regs_read p (num_at p 4) 0) ∙ length_rows (reg_row p) 0 (num_at p 4)

latest_is_lem : (p : List ℤ) → 1 ≤ num_at p 4 → (latest_of (point_from p).regs).1 ≡ reg_user p (num_at p 4 - 1)
unfolding point_from
latest_is_lem p h = ap (λ l. (latest_of l).1) (regs_read p (num_at p 4) 0) ∙ latest_user p (num_at p 4) h

-- ---- request: its rows in order, each after those before it

module _ {p : List ℤ} (s : SoundPart p) (user : ℕ) (period : Option (ℕ × ℕ)) where
  abbrev regs : List (ℕ × ℕ)
  regs = (point_from p).regs

  answers : (r : ℕ) → least (request_rows_of user period (point_from p)) ≡ suc r → request_part user period p ≡ (pos (suc r) ∷ pos 0 ∷ pos 0 ∷ [], p)
  unfolding request_part
  answers = part_refused 2 (request_rows_of user period) (request_effect user period) p

  pub request_waiting : (num_at p 7 ≡ 0 → ⊥) → request_part user period p ≡ (pos 10 ∷ pos 0 ∷ pos 0 ∷ [], p)
  unfolding request_rows above
  request_waiting n = answers 9 (least_first 10 _ _ refl (waiting_is p ∙ ap not (ne_eqb (num_at p 7) 0 n)))

  module _ (idle : num_at p 7 ≡ 0) where
    past_10 : least (request_rows_of user period (point_from p)) ≡ least ((12, eqb (latest_of regs).1 user) ∷ (13, not (is_some period)) ∷ (16, leb 8 (length regs)) ∷ [])
    unfolding request_rows
    past_10 = least_skip 10 _ _ (waiting_is p ∙ ap not (eq-eqb (num_at p 7) 0 idle))

    latest : (latest_of regs).1 ≡ reg_user p (num_at p 4 - 1)
    latest = latest_is_lem p s.some_regs

    pub request_same : reg_user p (num_at p 4 - 1) ≡ user → request_part user period p ≡ (pos 12 ∷ pos 0 ∷ pos 0 ∷ [], p)
    unfolding above
    request_same e = answers 11 (past_10 ∙ least_first 12 _ _ refl (eq-eqb _ _ (latest ∙ e)))

    module _ (other : reg_user p (num_at p 4 - 1) ≡ user → ⊥) where
      past_12 : least (request_rows_of user period (point_from p)) ≡ least ((13, not (is_some period)) ∷ (16, leb 8 (length regs)) ∷ [])
      past_12 = past_10 ∙ least_skip 12 _ _ (ne_eqb _ _ (λ e. other (sym latest ∙ e)))

      pub request_outside : period ≡ none → request_part user period p ≡ (pos 13 ∷ pos 0 ∷ pos 0 ∷ [], p)
      unfolding above
      request_outside e = answers 12 (past_12 ∙ least_first 13 _ _ refl (ap (λ o. not (is_some o)) e))

      module _ (first last : ℕ) (known : period ≡ some (first, last)) where
        past_13 : least (request_rows_of user period (point_from p)) ≡ least ((16, leb 8 (length regs)) ∷ [])
        past_13 = past_12 ∙ least_skip 13 _ _ (ap (λ o. not (is_some o)) known)

        pub request_full : 8 ≤ num_at p 4 → request_part user period p ≡ (pos 16 ∷ pos 0 ∷ pos 0 ∷ [], p)
        unfolding above
        request_full h = answers 15 (past_13 ∙ least_first 16 _ [] refl (le-leb 8 (length regs) (omega (arith, count_is_lem p))))

        pub request_entered : num_at p 4 < 8 → request_part user period p ≡ (pos 0 ∷ pos first ∷ pos last ∷ [], set_pending p user first last)
        unfolding request_part least
        request_entered h =
            part_entered 2 (request_rows_of user period) (request_effect user period) p
            (past_13 ∙ least_skip 16 _ [] (lt-leb 8 (length regs) (omega (arith, count_is_lem p))))
            ∙ ap (λ (o : Option (ℕ × ℕ)). (pos 0 ∷ (request_effect user o (point_from p)).0, point_numbers (room_of p) (request_effect user o (point_from p)).1)) known
            ∙ ap (λ u. (pos 0 ∷ pos first ∷ pos last ∷ [], u))
            (sym (ap (λ u. set_pending u user first last) (sym (part_laid s)) ∙ set_pending_lem (room_of p) (point_from p) (few (part_well s)) (record { user = user; first = first; last = last })))
