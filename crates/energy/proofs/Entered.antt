-- A notice that its point does not send back: the entry and, after an append, the request are the lists' one step.
-- Assumes nothing.
use mathlib.Core.Path.{◌≡◌, refl, sym, ◌∙◌, ap, subst}
use mathlib.Core.Bool.{Bool, true, false, cond}
use mathlib.Core.Option.{Option, none, some}
use mathlib.Core.List.{List, [], ◌∷◌, map}
use Prim.Native.Nat.{ℕ, zero, suc}
use native.Mathlib.Omega.{arith}
use lib.Dec.{ltb}
use lib.IntN.{ℤ, pos}
use borrow.Author.Tests.{le-leb}
use Rattle.std.specs.Prelude.{Ok, Err}
use Rattle.refusals.specs.declared.Refusal.{Refusal}
use Rattle.refusals.specs.Refusals.{number_of}
use Rattle.refusals.proofs.Numbers.{number_within}
use Rattle.daybook.specs.declared.Settlement.{Settlement}
use Rattle.daybook.specs.declared.EnergyEntry.TheVariants.{Append, Replacement}
use Rattle.daybook.specs.declared.EnergyEntry.TheVariants as EnergyEntry·
use Rattle.daybook.specs.Book.{Entry, Pending}
use Rattle.daybook.specs.Notices.{Row, least, Which, append, replacement, recut, which_number, later_starts, removed, Outcome, registers, lapses, stays, outcome_of, append_registers, outcome_numbers, entry_of, energy_early}
use Rattle.daybook.specs.Calls.{energy_numbers}
use Rattle.lists.specs.Lists.{Lists}
use Rattle.lists.specs.InnerSteps.{latest_of, which_in, append_day_of, with_pending_lists, entered_lists, enter_lists, energy_lists_rows}
use Rattle.lists.specs.InnerWell.{PendingOk, nopending, pending, Well, MayEnter}
use Rattle.lists.proofs.Rows.{above, least_append_none}
use Rattle.lists.proofs.EnergyStep.{energy_clear, enter_keeps}
use Rattle.layout.specs.Layout.{point_numbers, point_from}
use Rattle.layout.specs.Sound.{with_recs}
use Rattle.layout.specs.InnerParts.{room_of, SoundPart}
use Rattle.layout.proofs.Numbers.{few}
use Rattle.layout.proofs.Parse.{point_alone}
use Rattle.layout.proofs.SoundParts.{part_long, part_well, room_laid, laid_sound}
use Rattle.table.proofs.Calls.{gives}
use Rattle.table.proofs.OnPart.{part_entered, part_refused}
use Rattle.entering.specs.declared.RaisedNotice.{RaisedNotice}
use Rattle.entering.specs.declared.Kept.{Kept}
use Rattle.entering.specs.declared.Kept.TheVariants.{Appended, Replaced, Recut}
use Rattle.entering.specs.InnerEntering.{notice_of, entry_from, InRange, recorded, kept_of, Recorded, outcome_at, settled_lists, settlement_of, SettledTo}
use Rattle.energy.specs.Energy.{user_named}
use Rattle.energy.specs.InnerParts.{register_with, edition_with, energy_rows_of, energy_part}
use Rattle.energy.proofs.Raised.{in_range_clear}

-- the entry alone keeps the lists well-formed: what it does without a request
record_keeps : {room : ℕ} {q : Lists} → Well room q → (x : Entry) → MayEnter room x q → Well room (recorded x q)
unfolding with_pending_lists enter_lists entered_lists which_in append_day_of with_recs
record_keeps {room} {q} ok x may =
    record {
      facts_ok = ok.facts_ok;
      regs_ok = ok.regs_ok;
      regs_start = ok.regs_start;
      regs_few = ok.regs_few;
      offs_ok = ok.offs_ok;
      offs_few = ok.offs_few;
      recs_ok = after.recs_ok;
      recs_few = after.recs_few;
      pending_ok = ok.pending_ok;
    }
  where
    alone : Well room (with_pending_lists none q)
    alone =
        record {
          facts_ok = ok.facts_ok;
          regs_ok = ok.regs_ok;
          regs_start = ok.regs_start;
          regs_few = ok.regs_few;
          offs_ok = ok.offs_ok;
          offs_few = ok.offs_few;
          recs_ok = ok.recs_ok;
          recs_few = ok.recs_few;
          pending_ok = nopending;
        }

    after : Well room (enter_lists x (with_pending_lists none q)).1
    after =
        enter_keeps alone x
        (record {
          end_ok = may.end_ok;
          energy_ok = may.energy_ok;
          type_ok = may.type_ok;
          fits = may.fits;
          on = may.on;
          next = may.next;
          more = may.more;
        })

-- what is said of an entry tells which of the three it was
is_append : (w : Which) (s : ℕ) (l : List Entry) → Appended ≡ kept_of w s l → w ≡ append
is_append append s l e = refl
is_append replacement s l e = let z : ◌≡◌ {A = ℕ} 0 1 = cc in absurd (omega arith)
is_append recut s l e = let z : ◌≡◌ {A = ℕ} 0 1 = cc in absurd (omega arith)

is_replacement : (w : Which) (s : ℕ) (l : List Entry) → Replaced ≡ kept_of w s l → w ≡ replacement
is_replacement append s l e = let z : ◌≡◌ {A = ℕ} 0 1 = cc in absurd (omega arith)
is_replacement replacement s l e = refl
is_replacement recut s l e = let z : ◌≡◌ {A = ℕ} 0 1 = cc in absurd (omega arith)

is_recut : (w : Which) (s : ℕ) (l : List Entry) {k : ℕ} → Recut k ≡ kept_of w s l → (w ≡ recut) × (k ≡ later_starts s l)
is_recut append s l e = let z : ◌≡◌ {A = ℕ} 0 1 = cc in absurd (omega arith)
is_recut replacement s l e = let z : ◌≡◌ {A = ℕ} 0 1 = cc in absurd (omega arith)
is_recut recut s l e = (refl, cc)

settled_numbers : (o : Outcome) → energy_numbers (Ok (Append (settlement_of o))) ≡ pos 0 ∷ map pos (1 ∷ 0 ∷ outcome_numbers o)
settled_numbers (registers u) = refl
settled_numbers lapses = refl
settled_numbers stays = refl

-- a User that is registered had a request pending
outcome_named : {regs : List (ℕ × ℕ)} (section : ℕ) (e : Entry) (start : ℕ) (o : Option Pending) → PendingOk regs o
    → user_named (Ok (Append (settlement_of (outcome_of append section e start o)))) ≡ true
outcome_named section e start none ok = refl
outcome_named section e start (some r) (pending low high other first last few) =
    go (append_registers section e start r) (ltb r.last e.end)
  where
    go : (t u : Bool) → user_named (Ok (Append (settlement_of (cond t (registers r.user) (cond u lapses stays))))) ≡ true
    go true u = le-leb 1 r.user low
    go false true = refl
    go false false = refl

pub named : {p : List ℤ} {x : RaisedNotice} → SoundPart p → (s : Settlement) {p' : List ℤ} → SettledTo p x s p'
    → user_named (Ok (Append s)) ≡ true
named {p} {x} ok s h =
    let q = point_from p in
    ap (λ s. user_named (Ok (Append s))) h.settlement_is
    ∙ outcome_named q.facts.section (entry_from x) (latest_of q.regs).0 q.pending (part_well ok).pending_ok

module _ {p : List ℤ} (ok : SoundPart p) (x : RaisedNotice) (inside : InRange x) (a b : ℕ) where
  abbrev q : Lists
  q = point_from p

  abbrev e : Entry
  e = entry_from x

  abbrev rows : Lists → List Row
  rows = energy_rows_of x a b (room_of p)

  pub refused : (r : Refusal) → number_of r ≡ least (rows q) → (energy_numbers (Err r) ≡ (energy_part x a b p).0) × (p ≡ (energy_part x a b p).1)
  unfolding energy_part
  refused r h = go (number_of r) refl
    where
      go : (n : ℕ) → number_of r ≡ n → (energy_numbers (Err r) ≡ (energy_part x a b p).0) × (p ≡ (energy_part x a b p).1)
      go zero z = absurd (omega (arith, z, number_within r))
      go (suc n) z = rw z (gives (part_refused 4 rows (enter_lists e) p n (sym h ∙ z)))

  module _ (clear : least (rows q) ≡ 0) where
    pub may : MayEnter (room_of p) e q
    unfolding energy_rows_of entry_of energy_early above
    may =
        energy_clear (edition_with (room_of p)) (notice_of x) (register_with a b) q
        (least_append_none (energy_early (notice_of x)) (energy_lists_rows (edition_with (room_of p)) (notice_of x) (register_with a b) q) refl (in_range_clear x inside) ∙ clear)

    module _ {k : Kept} {p'' : List ℤ} (rec : Recorded p x k p'') where
      kept : Well (room_of p) (recorded e q)
      kept = record_keeps (part_well ok) e may

      pub then_sound : SoundPart p''
      then_sound = subst SoundPart (sym rec.part_is) (laid_sound kept (omega (arith, part_long ok, ok.short)))

      room : room_of p'' ≡ room_of p
      room = ap room_of rec.part_is ∙ room_laid (few kept)

      back : point_from p'' ≡ recorded e q
      back = ap point_from rec.part_is ∙ point_alone kept

      abbrev o : Outcome
      o = outcome_of (which_in q e) q.facts.section e (latest_of q.regs).0 q.pending

      -- a correction leaves the request
      pub corrected : (w : Which) → which_in q e ≡ w → outcome_of w q.facts.section e (latest_of q.regs).0 q.pending ≡ stays
          → (pos 0 ∷ map pos (which_number w ∷ removed w x.entry.start q.recs ∷ 0 ∷ 0 ∷ []) ≡ (energy_part x a b p).0) × (p'' ≡ (energy_part x a b p).1)
      unfolding energy_part enter_lists entered_lists with_recs
      corrected w i z =
          let g = gives (part_entered 4 rows (enter_lists e) p clear) in
          let st : stays ≡ o = sym (ap (λ w. outcome_of w q.facts.section e (latest_of q.regs).0 q.pending) i ∙ z) in
          let l : pos 0 ∷ map pos (which_number w ∷ removed w x.entry.start q.recs ∷ 0 ∷ 0 ∷ []) ≡ pos 0 ∷ (enter_lists e q).0 =
          λ j. pos 0 ∷ map pos (which_number (sym i j) ∷ removed (sym i j) x.entry.start q.recs ∷ outcome_numbers (st j)) in
          (l ∙ g.0, rec.part_is ∙ ap (λ o. point_numbers (room_of p) (settled_lists o x.entry.end (recorded e q))) st ∙ g.1)

      pub replaced : Replaced ≡ k → (energy_numbers (Ok Replacement) ≡ (energy_part x a b p).0) × (p'' ≡ (energy_part x a b p).1)
      replaced h = corrected replacement (is_replacement (which_in q e) x.entry.start q.recs (h ∙ rec.kept_is)) refl

      pub recut_lem : {n : ℕ} → Recut n ≡ k → (energy_numbers (Ok (EnergyEntry·.Recut n)) ≡ (energy_part x a b p).0) × (p'' ≡ (energy_part x a b p).1)
      recut_lem h =
          let (w, few) = is_recut (which_in q e) x.entry.start q.recs (h ∙ rec.kept_is) in
          rw few (corrected recut w refl)

      module _ (appends : Appended ≡ k) where
        which_is : which_in q e ≡ append
        which_is = is_append (which_in q e) x.entry.start q.recs (appends ∙ rec.kept_is)

        outcome_same : outcome_at x (point_from p'') ≡ o
        unfolding with_recs
        outcome_same =
            ap (outcome_at x) back
            ∙ ap (λ w. outcome_of w q.facts.section e (latest_of q.regs).0 q.pending) (sym which_is)

        pub entered : (s : Settlement) {p' : List ℤ} → SettledTo p'' x s p'
            → (energy_numbers (Ok (Append s)) ≡ (energy_part x a b p).0) × (p' ≡ (energy_part x a b p).1)
        unfolding energy_part enter_lists entered_lists with_recs
        entered s {p'} t =
            let w = gives (part_entered 4 rows (enter_lists e) p clear) in
            let told : s ≡ settlement_of o = t.settlement_is ∙ ap settlement_of outcome_same in
            let n : energy_numbers (Ok (Append s)) ≡ pos 0 ∷ (enter_lists e q).0 =
            ap (λ s. energy_numbers (Ok (Append s))) told ∙ settled_numbers o
            ∙ (λ i. pos 0 ∷ map pos (which_number (sym which_is i) ∷ removed (sym which_is i) x.entry.start q.recs ∷ outcome_numbers o)) in
            let l : p' ≡ point_numbers (room_of p) (enter_lists e q).1 = t.part_is ∙ (λ i. point_numbers (room i) (settled_lists (outcome_same i) x.entry.end (back i))) in
            (n ∙ w.0, l ∙ w.1)
