-- What a correction answers and leaves on the part of its point. Assumes nothing.
use mathlib.Core.Path.{◌≡◌, refl, sym, ◌∙◌, ap, ap₂, fun_ext}
use mathlib.Core.Bool.{Bool, true, false, not, ◌&&◌, ◌||◌, cond, not-not}
use mathlib.Core.Option.{none, some}
use mathlib.Core.List.{List, ◌∷◌, ◌++◌, map, map-map}
use Prim.Native.Nat.{ℕ, zero, suc, ◌+◌, ◌-◌, ◌*◌, ◌≤◌, ◌<◌}
use native.Mathlib.Omega.{arith}
use lib.Dec.{leb, ltb, eqb}
use lib.ListN.{length, get_or, drop, replicate, take-append-drop}
use lib.IntN.{ℤ, pos}
use borrow.Author.Tests.{leb-true, le-leb, eq-eqb, ne_eqb}
use Rattle.refusals.specs.declared.Refusal.{Refusal}
use Rattle.refusals.specs.Refusals.{number_of}
use Rattle.refusals.proofs.Numbers.{number_within}
use Rattle.numbers.specs.Search.{is_some}
use Rattle.numbers.proofs.Bools.{both, iff}
use Rattle.daybook.specs.Book.{Pending, with_fro, with_pending}
use Rattle.daybook.specs.Notices.{least, users}
use Rattle.daybook.specs.Corrections.{others_request, corrected, fro_changed, flags, permitted, full, correct_rows, correct_rows_at, correct_at}
use Rattle.lists.specs.Lists.{Lists, point_of}
use Rattle.lists.specs.InnerSteps.{latest_of, earlier, user_from, with_regs, with_pending_lists, corrected_lists, correct_lists_at}
use Rattle.lists.specs.InnerWell.{Well}
use Rattle.lists.proofs.Registrations.{latest_at}
use Rattle.lists.proofs.FroChanges.{affected_is, changes_is}
use Rattle.lists.proofs.CorrectStep.{correct_clear, full_is, corrected_keeps}
use Rattle.layout.specs.Layout.{pending_from, num_at, point_numbers, point_from}
use Rattle.layout.specs.InnerWrites.{append_registration, cut_registrations, clear_pending}
use Rattle.layout.specs.InnerParts.{room_of, SoundPart}
use Rattle.layout.proofs.Numbers.{few}
use Rattle.layout.proofs.PartBlocks.{few_regs_lem}
use Rattle.layout.proofs.SoundParts.{part_well, part_laid}
use Rattle.layout.proofs.RowWrites.{append_registration_lem, cut_registrations_lem, clear_pending_lem}
use Rattle.table.proofs.OnPart.{part_entered, part_refused}
use Rattle.table.proofs.Calls.{gives}
use Rattle.correction.specs.InnerParts.{start_of, loses_day, correct_rows_of, correct_part}
use Rattle.correction.proofs.Walks.{count_is_lem, start_at, user_at, repeats, adds, adds_one, earlier_first}

-- ---- the rows in their order: 20, 21, 16

pub in_order : (outside unchanged full : Bool)
    → least (correct_rows outside unchanged full) ≡ cond outside 20 (cond unchanged 21 (cond full 16 0))
unfolding correct_rows least
in_order true true full = refl
in_order true false full = refl
in_order false true full = refl
in_order false false true = refl
in_order false false false = refl

-- ---- the permitted period

pub by_days : (install notice day : ℕ)
    → (leb install day && leb notice (day + 425) && leb day notice) ≡ permitted install notice day
by_days install notice day = ap (λ b. leb install day && b && leb day notice) (iff _ _ there back)
  where
    there : leb notice (day + 425) ≡ true → leb (notice - 425) day ≡ true
    there e = le-leb (notice - 425) day (omega (arith, leb-true notice (day + 425) e))

    back : leb (notice - 425) day ≡ true → leb notice (day + 425) ≡ true
    back e = le-leb notice (day + 425) (omega (arith, leb-true (notice - 425) day e))

-- ---- the request that stays

-- by the pending User's place, where 0 stands for no request
request_stays : (u first last user : ℕ)
    → is_some (others_request user (pending_from u first last)) ≡ not (eqb u 0 || eqb u user)
request_stays zero first last user = refl
request_stays (suc u) first last user = rw (ne_eqb (suc u) 0 (λ (e : suc u ≡ 0). omega arith)) (go (eqb (suc u) user))
  where
    q : Pending
    q = record { user = suc u; first = first; last = last }

    go : (t : Bool) → is_some (cond t none (some q)) ≡ not t
    go true = refl
    go false = refl

pub most_is_lem : (p : List ℤ) (user u : ℕ) → u ≡ num_at p 7
    → cond (is_some (others_request user (point_from p).pending)) 7 8 ≡ cond {A = ℕ} (eqb u 0 || eqb u user) 8 7
unfolding point_from
most_is_lem p user u e =
    ap (λ b. cond b 7 8) (request_stays (num_at p 7) (num_at p 8) (num_at p 9) user)
    ∙ ap (λ u. cond (not (eqb u 0 || eqb u user)) 7 8) (sym e) ∙ turned (eqb u 0 || eqb u user)
  where
    turned : (b : Bool) → cond (not b) 7 8 ≡ cond {A = ℕ} b 8 7
    turned true = refl
    turned false = refl

pub own_request : (u first last user : ℕ) → u ≡ user → others_request user (pending_from u first last) ≡ none
own_request zero first last user e = refl
own_request (suc u) first last user e = rw (eq-eqb (suc u) user e)

pub others_request_lem : (u first last user : ℕ) → (u ≡ user → ⊥)
    → others_request user (pending_from u first last) ≡ pending_from u first last
others_request_lem zero first last user e = refl
others_request_lem (suc u) first last user e = rw (ne_eqb (suc u) user e)

-- ---- on a sound part

module _ {p : List ℤ} (s : SoundPart p) (user day : ℕ) (low : 1 ≤ user) (high : user ≤ 16) (day_ok : day ≤ 39999) where
  abbrev q : Lists
  q = point_from p

  w : Well (room_of p) q
  w = part_well s

  module _ (notice : ℕ) where
    rows_are : least (correct_rows_at user day notice (point_of q))
        ≡ cond (not (permitted q.facts.install notice day)) 20
        (cond (not (fro_changed (λ u. true) (point_of q).fro (corrected user day (point_of q)).fro)) 21
        (cond (full (corrected user day (point_of q))) 16 0))
    unfolding correct_rows_at point_of
    rows_are = in_order _ _ _

    -- by registrations: the latest is the User's and has started; those that are left are too many
    abbrev same_user : Bool
    same_user = leb (latest_of q.regs).0 day && eqb (latest_of q.regs).1 user

    abbrev too_many : Bool
    too_many = ltb (cond (is_some (others_request user q.pending)) 7 8) (length (user_from day user q.regs))

    module _ (e : permitted q.facts.install notice day ≡ true) where
      from : q.facts.install ≤ day
      from = leb-true _ _ (both _ _ (both _ _ e).0).0

      same_is : not (fro_changed (λ u. true) (point_of q).fro (corrected user day (point_of q)).fro) ≡ same_user
      unfolding corrected with_fro with_pending point_of
      same_is = ap not (changes_is w.regs_ok w.regs_start day user from (omega arith)) ∙ not-not same_user

      many_is : full (corrected user day (point_of q)) ≡ too_many
      many_is = full_is user day q w from (omega arith) low high

    -- outside the period neither matters
    pub row_is : least (correct_rows (not (permitted q.facts.install notice day)) same_user too_many)
        ≡ least (correct_rows_at user day notice (point_of q))
    row_is = in_order _ _ _ ∙ go (permitted q.facts.install notice day) refl ∙ sym rows_are
      where
        go : (t : Bool) → permitted q.facts.install notice day ≡ t
            → ◌≡◌ {A = ℕ} (cond (not t) 20 (cond same_user 21 (cond too_many 16 0)))
            (cond (not t) 20 (cond (not (fro_changed (λ u. true) (point_of q).fro
            (corrected user day (point_of q)).fro)) 21
            (cond (full (corrected user day (point_of q))) 16 0)))
        go true e = rw (same_is e, many_is e)
        go false e = refl

    -- by the places of the part: install, and the start and the User of the last of n registrations
    pub rows_read : {install n start own most left : ℕ} {in_period : Bool} → install ≡ num_at p 2 → n ≡ num_at p 4
        → in_period ≡ permitted install notice day
        → start ≡ num_at p (16 + 2 * (n - 1)) → own ≡ num_at p (16 + 2 * (n - 1) + 1)
        → most ≡ cond (is_some (others_request user q.pending)) 7 8 → left ≡ length (user_from day user q.regs)
        → cond (not in_period) 20 (cond (leb start day && eqb own user) 21 (cond (ltb most left) 16 0))
        ≡ least (correct_rows_at user day notice (point_of q))
    unfolding point_from
    rows_read i k a b c d e =
        let some : 1 ≤ num_at p 4 = s.some_regs in
        let last : latest_of q.regs ≡ get_or q.regs (num_at p 4 - 1) (0, 0) =
        latest_at q.regs (num_at p 4 - 1) (omega (arith, count_is_lem s)) in
        let at : num_at p 4 - 1 < 8 = omega (arith, s.few_regs) in
        let start = start_at s (num_at p 4 - 1) at ∙ ap (λ (x : ℕ × ℕ). x.0) (sym last) in
        let own = user_at s (num_at p 4 - 1) at ∙ ap (λ (x : ℕ × ℕ). x.1) (sym last) in
        rw (a, b, c, d, e, i, k, start, own) (sym (in_order _ _ _) ∙ row_is)

  -- ---- where no row applies

  -- the flags, by days and by registrations
  pub flags_are : q.facts.install ≤ day
      → map (λ a. cond a (pos 1) (pos 0)) (map (loses_day user day q.regs) users) ≡ (correct_at user day (point_of q)).0
  unfolding correct_at flags corrected with_fro with_pending point_of
  flags_are h =
      map-map (λ a. cond a (pos 1) (pos 0)) (loses_day user day q.regs) users
      ∙ ap (λ f. map f users)
      (fun_ext (λ v. marked (loses_day user day q.regs v)
      ∙ ap (λ b. pos (cond b 1 0)) (sym (affected_is w.regs_ok w.regs_start day user v h (omega arith)))))
    where
      marked : (b : Bool) → cond b (pos 1) (pos 0) ≡ pos (cond b 1 0)
      marked true = refl
      marked false = refl

  module _ (notice : ℕ) (e : least (correct_rows_at user day notice (point_of q)) ≡ 0) where
    pub from_install : q.facts.install ≤ day
    from_install = unfold point_of in (correct_clear user day notice (point_of q) e).0

    -- there is room for the registrations
    pub room_left : length (user_from day user q.regs) ≤ 8
    unfolding corrected_lists with_regs with_pending_lists
    room_left =
        (corrected_keeps user day q w from_install (omega arith) low high (correct_clear user day notice (point_of q) e).1
        ).regs_few

  -- ---- the registrations after it

  abbrev before : List (ℕ × ℕ)
  before = earlier start_of day q.regs

  cut_is : cut_registrations p (length before) (num_at p 4) ≡ point_numbers (room_of p) (with_regs before q)
  cut_is =
      ap₂ (λ l n. cut_registrations l (length before) n) (sym (part_laid s)) (count_is_lem s)
      ∙ cut_registrations_lem (room_of p) q (few w) before (drop (length before) q.regs) split
    where
      split : q.regs ≡ before ++ drop (length before) q.regs
      split =
          sym (take-append-drop (length before) q.regs)
          ∙ ap (λ l. l ++ drop (length before) q.regs) (earlier_first day q.regs)

  pub kept_is : eqb (latest_of before).1 user ≡ true
      → cut_registrations p (length before) (num_at p 4)
      ≡ point_numbers (room_of p) (with_regs (user_from day user q.regs) q)
  kept_is e = cut_is ∙ ap (λ l. point_numbers (room_of p) (with_regs l q)) (sym (repeats day user q.regs e))

  module _ (fits : length (user_from day user q.regs) ≤ 8) where
    pub added_is : eqb (latest_of before).1 user ≡ false
        → append_registration (cut_registrations p (length before) (num_at p 4)) (length before) day user
        ≡ point_numbers (room_of p) (with_regs (user_from day user q.regs) q)
    unfolding with_regs
    added_is e =
        let h : length before < 8 = omega (arith, adds_one day user q.regs e) in
        ap (λ l. append_registration l (length before) day user) cut_is
        ∙ append_registration_lem (room_of p) (with_regs before q) (few_regs_lem (few w) before (omega arith)) day user h
        ∙ ap (λ l. point_numbers (room_of p) (with_regs l q)) (sym (adds day user q.regs e))

    -- ---- the request after it

    pub own_left : num_at p 7 ≡ user
        → clear_pending (point_numbers (room_of p) (with_regs (user_from day user q.regs) q))
        ≡ point_numbers (room_of p) (corrected_lists user day q)
    unfolding corrected_lists with_regs with_pending_lists point_from
    own_left e =
        clear_pending_lem (room_of p) (with_regs (user_from day user q.regs) q) (few_regs_lem (few w) _ fits)
        ∙ ap (λ o. point_numbers (room_of p) (with_regs (user_from day user q.regs) (with_pending_lists o q)))
        (sym (own_request (num_at p 7) (num_at p 8) (num_at p 9) user e))

  pub others_left : (num_at p 7 ≡ user → ⊥)
      → point_numbers (room_of p) (with_regs (user_from day user q.regs) q)
      ≡ point_numbers (room_of p) (corrected_lists user day q)
  unfolding corrected_lists with_regs with_pending_lists point_from
  others_left e =
      ap (λ o. point_numbers (room_of p) (with_regs (user_from day user q.regs) (with_pending_lists o q)))
      (sym (others_request_lem (num_at p 7) (num_at p 8) (num_at p 9) user e))

  -- ---- the call on the part

  module _ (notice : ℕ) where
    pub part_back : (e : Refusal) → number_of e ≡ least (correct_rows_at user day notice (point_of q))
        → (pos (number_of e) ∷ replicate 16 (pos 0) ≡ (correct_part user day notice p).0)
        × (p ≡ (correct_part user day notice p).1)
    unfolding correct_part
    part_back e h = go (number_of e) refl
      where
        go : (r : ℕ) → number_of e ≡ r
            → (pos r ∷ replicate 16 (pos 0) ≡ (correct_part user day notice p).0) × (p ≡ (correct_part user day notice p).1)
        go zero z = absurd (omega (arith, z, number_within e))
        go (suc r) z =
            gives (part_refused 16 (correct_rows_of user day notice) (correct_lists_at user day) p r (sym h ∙ z))

    pub part_done : least (correct_rows_at user day notice (point_of q)) ≡ 0
        → (marks : List Bool) → marks ≡ map (loses_day user day q.regs) users
        → (p' : List ℤ) → p' ≡ point_numbers (room_of p) (corrected_lists user day q)
        → (pos 0 ∷ map (λ a. cond a (pos 1) (pos 0)) marks ≡ (correct_part user day notice p).0)
        × (p' ≡ (correct_part user day notice p).1)
    unfolding correct_part correct_lists_at
    part_done e marks f p' g =
        let h = gives (part_entered 16 (correct_rows_of user day notice) (correct_lists_at user day) p e) in (
          ap (λ l. pos 0 ∷ l) (ap (map (λ a. cond a (pos 1) (pos 0))) f ∙ flags_are (from_install notice e)) ∙ h.0,
          g ∙ h.1,
        )
