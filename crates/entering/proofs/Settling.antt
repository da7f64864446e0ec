-- What a pending request comes to, on a part: the row writers leave what the lists' step says. Assumes nothing.
use mathlib.Core.Path.{◌≡◌, refl, sym, ◌∙◌, ap, ap₂, subst}
use mathlib.Core.Bool.{Bool, true, false, not, ◌&&◌, ◌||◌, cond}
use mathlib.Core.Option.{Option}
use mathlib.Core.List.{List, [], ◌∷◌, ◌++◌}
use Prim.Native.Nat.{ℕ, suc, ◌+◌, ◌-◌, ◌*◌, ◌≤◌, ◌<◌}
use native.Mathlib.Omega.{arith}
use native.Mathlib.Numerals.{add-one}
use lib.Dec.{leb, ltb, eqb}
use lib.ListN.{length}
use lib.IntN.{ℤ}
use borrow.Author.Tests.{ne_eqb, ltb-true, leb-true, leb-false, le-ltb, lt-ltb}
use Rattle.numbers.proofs.Bools.{both}
use Rattle.daybook.specs.Book.{Entry, Pending}
use Rattle.daybook.specs.Notices.{append, Outcome, registers, lapses, stays, type_registers, append_registers, outcome_of}
use Rattle.lists.specs.Lists.{Lists}
use Rattle.lists.specs.InnerSteps.{latest_of, user_from, with_regs, with_pending_lists}
use Rattle.lists.specs.InnerWell.{PendingOk, nopending, pending}
use Rattle.lists.proofs.Registrations.{user_from_append, latest_at}
use Rattle.layout.specs.Places.{reg_count, pending_user, pending_first, pending_last, section_place, reg_place}
use Rattle.layout.specs.Layout.{pending_or_zeros, num_at, point_numbers, point_from}
use Rattle.layout.specs.InnerWrites.{append_registration, clear_pending}
use Rattle.layout.specs.InnerParts.{room_of, SoundPart}
use Rattle.layout.proofs.Numbers.{Few, few}
use Rattle.layout.proofs.Cells.{cell_reg_start, place_regs, place_user, place_first, place_last, place_section}
use Rattle.layout.proofs.PartBlocks.{few_regs_lem, snoc_length}
use Rattle.layout.proofs.RowWrites.{append_registration_lem, clear_pending_lem}
use Rattle.layout.proofs.SoundParts.{part_well, part_laid}
use Rattle.entering.specs.declared.RaisedNotice.{RaisedNotice}
use Rattle.daybook.specs.declared.Settlement.TheVariants.{Registered, Lapsed, Unsettled}
use Rattle.entering.specs.InnerEntering.{entry_from, outcome_at, settled_lists, settlement_of, SettledTo}

-- ---- what the code tests

-- does it register, does it stay?
abbrev registers_if : ℕ → ℕ → ℕ → ℕ → ℕ → Bool → Bool
registers_if user first last latest end actual =
    not (eqb user 0) && leb first end && leb end last && ltb latest (end + 1) && actual

abbrev stays_if : ℕ → ℕ → ℕ → Bool
stays_if user last end = eqb user 0 || leb end last

-- past the last day, or not
late : (last end : ℕ) → cond (ltb last end) lapses stays ≡ cond (leb end last) stays lapses
late last end = go (leb end last) refl
  where
    go : (b : Bool) → leb end last ≡ b → cond (ltb last end) lapses stays ≡ cond b stays lapses
    go true h = rw (le-ltb last end (leb-true end last h))
    go false h = rw (lt-ltb last end (leb-false end last h))

outcome_by : {regs : List (ℕ × ℕ)} {o : Option Pending} → PendingOk regs o → (section : ℕ) (x : Entry) (latest : ℕ)
    → outcome_of append section x latest o
    ≡ cond (registers_if (pending_or_zeros o).user (pending_or_zeros o).first (pending_or_zeros o).last latest x.end (type_registers section x.type))
    (registers (pending_or_zeros o).user) (cond (stays_if (pending_or_zeros o).user (pending_or_zeros o).last x.end) stays lapses)
outcome_by nopending section x latest = refl
outcome_by (pending {q = r} a b c d e f) section x latest =
    rw (ne_eqb r.user 0 (omega arith), add-one x.end)
    (ap (λ o. cond (append_registers section x latest r) (registers r.user) o) (late r.last x.end))

-- where it registers there is a request, with a free row and another User than the latest
record Registers (regs : List (ℕ × ℕ)) (user latest end : ℕ) : Type 0 where
  room : length regs ≤ 7
  small : user ≤ 16
  differs : eqb (latest_of regs).1 user ≡ false
  after : latest < end + 1

registers_room : {regs : List (ℕ × ℕ)} {o : Option Pending} → PendingOk regs o → (latest end : ℕ) (actual : Bool)
    → registers_if (pending_or_zeros o).user (pending_or_zeros o).first (pending_or_zeros o).last latest end actual ≡ true
    → Registers regs (pending_or_zeros o).user latest end
registers_room nopending latest end actual e = let z : ◌≡◌ {A = ℕ} 0 1 = cc in absurd (omega arith)
registers_room (pending {q = r} a b c d e f) latest end actual t =
    let inside : Bool = not (eqb r.user 0) && leb r.first end && leb end r.last in
    let timely = both inside (ltb latest (end + 1)) (both (inside && ltb latest (end + 1)) actual t).0 in
    record { room = f; small = b; differs = c; after = ltb-true latest (end + 1) timely.1 }

-- ---- on the part

-- what the code reads of it
pub record Reads (p : List ℤ) (n user first last latest section : ℕ) : Type 0 where
  pub count_is : n ≡ num_at p reg_count
  pub user_is : user ≡ num_at p pending_user
  pub first_is : first ≡ num_at p pending_first
  pub last_is : last ≡ num_at p pending_last
  pub latest_is : latest ≡ num_at p (reg_place (n - 1))
  pub section_is : section ≡ num_at p section_place

pub reads : {p : List ℤ} {n user first last latest section : ℕ} → n ≡ num_at p reg_count → user ≡ num_at p pending_user
    → first ≡ num_at p pending_first → last ≡ num_at p pending_last → latest ≡ num_at p (reg_place (n - 1)) → section ≡ num_at p section_place
    → Reads p n user first last latest section
reads n user first last latest section =
    record { count_is = n; user_is = user; first_is = first; last_is = last; latest_is = latest; section_is = section }

module _ {p : List ℤ} (ok : SoundPart p) (x : RaisedNotice) {n user first last latest section : ℕ} (is : Reads p n user first last latest section) where
  abbrev q : Lists
  q = point_from p

  fits : Few (room_of p) q
  fits = few (part_well ok)

  many : n ≡ length q.regs
  many = is.count_is ∙ place_regs (part_well ok) (part_laid ok)

  user_is_lem : user ≡ (pending_or_zeros q.pending).user
  user_is_lem = is.user_is ∙ place_user (part_well ok) (part_laid ok)

  first_is_lem : first ≡ (pending_or_zeros q.pending).first
  first_is_lem = is.first_is ∙ place_first (part_well ok) (part_laid ok)

  last_is_lem : last ≡ (pending_or_zeros q.pending).last
  last_is_lem = is.last_is ∙ place_last (part_well ok) (part_laid ok)

  latest_is_lem : latest ≡ (latest_of q.regs).0
  latest_is_lem =
      let some : 1 ≤ num_at p 4 = ok.some_regs in
      is.latest_is ∙ ap (λ (l : List ℤ). num_at l (16 + 2 * (n - 1))) (sym (part_laid ok)) ∙ cell_reg_start fits (n - 1) (omega (arith, is.count_is, ok.few_regs))
      ∙ ap (λ (r : ℕ × ℕ). r.0) (sym (latest_at q.regs (n - 1) (omega (arith, many, is.count_is))))

  section_is_lem : section ≡ q.facts.section
  section_is_lem = is.section_is ∙ place_section (part_well ok) (part_laid ok)

  abbrev first? : Bool
  first? = registers_if user first last latest x.entry.end (type_registers section x.entry.type_)

  abbrev second? : Bool
  second? = stays_if user last x.entry.end

  outcome_is : outcome_at x q ≡ cond first? (registers user) (cond second? stays lapses)
  outcome_is =
      ap₂ (λ c s. outcome_of append c (entry_from x) s q.pending) (sym section_is_lem) (sym latest_is_lem)
      ∙ outcome_by (part_well ok).pending_ok section (entry_from x) latest
      ∙ sym (rw (user_is_lem, first_is_lem, last_is_lem))

  -- by what it comes to
  settled_as : (o : Outcome) {p' : List ℤ} → outcome_at x q ≡ o → p' ≡ point_numbers (room_of p) (settled_lists o x.entry.end q) → SettledTo p x (settlement_of o) p'
  settled_as o eo ep =
      record { settlement_is = ap settlement_of (sym eo); part_is = ep ∙ ap (λ o. point_numbers (room_of p) (settled_lists o x.entry.end q)) (sym eo) }

  -- whatever is asked of its type
  may : (actual : Bool) → registers_if user first last latest x.entry.end actual ≡ true → Registers q.regs user latest x.entry.end
  may actual t =
      subst (λ u. Registers q.regs u latest x.entry.end) (sym user_is_lem)
      (registers_room (part_well ok).pending_ok latest x.entry.end actual (rw (user_is_lem, first_is_lem, last_is_lem) at t))

  pub reg_room : (actual : Bool) → registers_if user first last latest x.entry.end actual ≡ true → (n < 8) × (user ≤ 16)
  reg_room actual t = let room = may actual t in (omega (arith, room.room, many), room.small)

  module _ (t : first? ≡ true) where
    room : Registers q.regs user latest x.entry.end
    room = may (type_registers section x.entry.type_) t

    regs_are : q.regs ++ ((x.entry.end + 1, user) ∷ []) ≡ user_from (suc x.entry.end) user q.regs
    regs_are =
        ap (λ d. q.regs ++ ((d, user) ∷ [])) (add-one x.entry.end)
        ∙ sym (user_from_append (part_well ok).regs_ok (suc x.entry.end) user (omega (arith, room.after, latest_is_lem)) room.differs)

    pub registered : {p'' p' : List ℤ} → p'' ≡ append_registration p n (x.entry.end + 1) user → p' ≡ clear_pending p'' → SettledTo p x (Registered user) p'
    unfolding with_regs with_pending_lists
    registered {p''} ea ec =
        settled_as (registers user) (outcome_is ∙ rw t)
        (ec ∙ ap clear_pending rows ∙ clear_pending_lem (room_of p) (with_regs (user_from (suc x.entry.end) user q.regs) q) next)
      where
        next : Few (room_of p) (with_regs (user_from (suc x.entry.end) user q.regs) q)
        next = few_regs_lem fits _ (omega (arith, ap length regs_are, snoc_length q.regs (x.entry.end + 1, user), room.room))

        rows : p'' ≡ point_numbers (room_of p) (with_regs (user_from (suc x.entry.end) user q.regs) q)
        rows =
            ea ∙ ap₂ (λ t k. append_registration t k (x.entry.end + 1) user) (sym (part_laid ok)) many
            ∙ append_registration_lem (room_of p) q fits (x.entry.end + 1) user (omega (arith, room.room)) ∙ ap (λ l. point_numbers (room_of p) (with_regs l q)) regs_are

  pub lapsed : first? ≡ false → second? ≡ false → {p' : List ℤ} → p' ≡ clear_pending p → SettledTo p x Lapsed p'
  unfolding with_pending_lists
  lapsed f s ec =
      settled_as lapses (outcome_is ∙ rw (f, s)) (ec ∙ ap clear_pending (sym (part_laid ok)) ∙ clear_pending_lem (room_of p) q fits)

  pub stayed : first? ≡ false → second? ≡ true → SettledTo p x Unsettled p
  stayed f s = settled_as stays (outcome_is ∙ rw (f, s)) (sym (part_laid ok))
