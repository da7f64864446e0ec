-- An energy notice on a point's lists: what holds where no row sends it back, that its step is the book's, and that it
-- keeps the register well-formed.
use mathlib.Core.Path.{◌≡◌, refl, sym, ◌∙◌, ap}
use mathlib.Core.Bool.{Bool, true, false, ◌&&◌, cond, and-false}
use mathlib.Core.Option.{Option, none, some}
use mathlib.Core.List.{List, [], ◌∷◌, ◌++◌, map}
use Prim.Native.Nat.{ℕ, suc, ◌≤◌, ◌<◌}
use native.Mathlib.Omega.{arith}
use lib.Dec.{leb, ltb, eqb}
use lib.ListN.{length}
use lib.IntN.{pos, negsuc}
use borrow.Author.Tests.{leb-false, ltb-true, le-leb, not-false}
use Rattle.numbers.specs.Naturals.{nat_of}
use Rattle.numbers.proofs.Search.{some_is}
use Rattle.numbers.proofs.Bools.{both}
use Rattle.calendar.specs.Calendar.{within, is_day}
use Rattle.daybook.specs.declared.EnergyNotice.{EnergyNotice}
use Rattle.daybook.specs.declared.Edition.{Edition}
use Rattle.daybook.specs.Book.{Entry, Pending, days, fill, with_entries, with_fro, with_pending, latest, append_day}
use Rattle.daybook.specs.Notices.{least, is_mirn, is_flag, Which, append, replacement, recut, which_number, entry_of, energy_early, energy_rows, energy_rows_at, fits_kind, kept, removed, Outcome, registers, lapses, stays, type_registers, append_registers, outcome_of, outcome_numbers, settled, entered, enter, energy}
use Rattle.lists.specs.Lists.{Lists, Register, off_on, entry_on, user_on, book_facts, point_of, book_of}
use Rattle.lists.specs.InnerSteps.{latest_of, which_in, append_day_of, recs_after, user_from, regs_after, pending_after, entered_lists, enter_lists, energy_lists_rows, energy_lists}
use Rattle.lists.specs.InnerWell.{Regs, StartsOn, PendingOk, nopending, pending, Well, WellFormed, MayEnter}
use Rattle.lists.proofs.Bounds.{within_bounds}
use Rattle.lists.proofs.Rows.{above, least_none, least_append_both}
use Rattle.lists.proofs.Apart.{recs_apart, skip_ge, fits_le}
use Rattle.lists.proofs.Records.{day_after, day_after_le, records_is, which_is_lem, last_filled_is}
use Rattle.lists.proofs.RecordSteps.{entries_after, recs_after_lem, recs_few_lem}
use Rattle.lists.proofs.Registrations.{latest_is_lem, user_from_lem, regs_from_lem, starts_from, latest_after, user_from_length}
use Rattle.lists.proofs.Spans.{append_day_is, off_within_is, no_off_lem}
use Rattle.lists.proofs.Points.{on_lists_lem, on_lists_keeps}

-- ---- where no row applies

-- where a row for appends alone doesn't apply to an append, its other test fails
of_append : (w : Which) (t : Bool) → (eqb (which_number w) 1 && t) ≡ false → w ≡ append → t ≡ false
of_append w t h e = rw e at h

-- row 2: the numbers of the entry are in range
energy_numbers_lem : (n : EnergyNotice) → least (energy_early n) ≡ 0
    → (nat_of n.end ≤ 39999) × (within (negsuc 999999) (pos 1000000) n.energy ≡ true) × (nat_of n.type_ ≤ 2)
unfolding energy_early
energy_numbers_lem n e =
    let tests : (is_day n.end ≡ true) × (within (negsuc 999999) (pos 1000000) n.energy ≡ true) × (within (pos 0) (pos 2) n.type_ ≡ true) =
    middle (is_mirn n.mirn && is_day n.start) _ _ _ (is_flag n.confirmed) (not-false _ (least_none 1 _ [] e).0) in
    ((within_bounds 0 39999 n.end tests.0).1, tests.1, (within_bounds 0 2 n.type_ tests.2).1)
  where
    middle : (a b c d f : Bool) → (a && b && c && d && f) ≡ true → (b ≡ true) × (c ≡ true) × (d ≡ true)
    middle a b c d f h =
        let four : ((a && b && c && d) ≡ true) × (f ≡ true) = both _ f h in
        let three : ((a && b && c) ≡ true) × (d ≡ true) = both _ d four.0 in
        let two : ((a && b) ≡ true) × (c ≡ true) = both _ c three.0 in
        ((both a b two.0).1, two.1, three.1)

-- The entry of a notice that no row sends back may go onto the point.
pub energy_clear : (ed : Edition) (n : EnergyNotice) (R : Register) (q : Lists) → least (energy_early n ++ energy_lists_rows ed n R q) ≡ 0
    → MayEnter ed.records (entry_of n) q
unfolding energy_early energy_lists_rows energy_rows entry_of above
energy_clear ed n R q e =
    let parts = least_append_both (energy_early n) (energy_lists_rows ed n R q) refl e in
    let numbers = energy_numbers_lem n parts.0 in
    let row6 = least_none 5 _ _ parts.1 in
    let row7 = least_none 6 _ _ row6.1 in
    let row8 = least_none 7 _ _ row7.1 in
    let row9 = least_none 8 _ _ row8.1 in
    let row16 = least_none 15 _ _ row9.1 in
    let fits : fits_kind q.facts.kind (nat_of n.start) (nat_of n.end) ≡ true = not-false _ row6.0 in
    record {
      end_ok = numbers.0;
      energy_ok = numbers.1;
      type_ok = numbers.2;
      fits = fits;
      on = rw (le-leb _ _ (fits_le q.facts.kind (nat_of n.start) (nat_of n.end) fits)) at row8.0;
      next = λ a. some_is (nat_of n.start) (append_day_of q) (not-false _ (of_append _ _ row7.0 a));
      more = λ a. leb-false _ _ (of_append _ _ row16.0 a);
    }

-- ---- the step is the book's

module _ {room : ℕ} {q : Lists} (ok : Well room q) where
  -- the day after the records is a day of the book, so the append day is the lists'
  day_after_days : day_after q.facts.install q.recs < days
  day_after_days =
      let h : q.facts.install ≤ 39999 = ok.facts_ok.install_ok in
      omega (arith, day_after_le (recs_apart ok.recs_ok) (omega arith))

  append_is : append_day (point_of q) ≡ append_day_of q
  append_is = append_day_is ok (last_filled_is ok) day_after_days

  -- the rows of the notice, on the point's days and on its lists
  energy_rows_is : (ed : Edition) (n : EnergyNotice) (R : Register) → energy_rows_at ed n (book_of R) (point_of q) ≡ energy_lists_rows ed n R q
  unfolding energy_rows_at energy_lists_rows point_of book_of
  energy_rows_is ed n R = rw (which_is_lem ok (entry_of n), append_is, off_within_is ok (entry_of n).start (entry_of n).end, records_is ok)

  -- an entry goes onto the lists as it goes onto the days, whatever becomes of the request
  entered_is : (x : Entry) (w : Which) (o : Outcome) → fill x (kept w x.start (entry_on q.recs)) ≡ entry_on (recs_after w x q.recs)
      → entered x w o (point_of q) ≡ ((entered_lists x w o q).0, point_of (entered_lists x w o q).1)
  unfolding entered entered_lists point_of with_entries with_fro with_pending
  entered_is x w o e = λ i. (map pos (which_number w ∷ removed w x.start (records_is ok i) ∷ outcome_numbers o), go o i)
    where
      go : (o : Outcome) → settled o x.end (with_entries (fill x (kept w x.start (entry_on q.recs))) (point_of q)) ≡ point_of (entered_lists x w o q).1
      go (registers u) = λ i. record {
        facts = book_facts q.facts;
        entry = e i;
        off = off_on q.offs;
        fro = sym (user_from_lem ok.regs_ok (suc x.end) u) i;
        pending = none;
      }
      go lapses = λ i. record { facts = book_facts q.facts; entry = e i; off = off_on q.offs; fro = user_on 0 q.regs; pending = none }
      go stays = λ i. record { facts = book_facts q.facts; entry = e i; off = off_on q.offs; fro = user_on 0 q.regs; pending = q.pending }

  -- which it is and what becomes of the request are read off the lists as off the days
  enter_is : (x : Entry) → MayEnter room x q → enter x (point_of q) ≡ ((enter_lists x q).0, point_of (enter_lists x q).1)
  unfolding enter enter_lists which_in append_day_of point_of
  enter_is x may =
      ap (λ w. entered x w (outcome_of w q.facts.section x (latest (point_of q)).0 q.pending) (point_of q)) (which_is_lem ok x)
      ∙ ap (λ l. entered x (which_in q x) (outcome_of (which_in q x) q.facts.section x l.0 q.pending) (point_of q)) (latest_is_lem ok)
      ∙ entered_is x (which_in q x) _ (entries_after ok.recs_ok x (which_in q x) refl (λ a. skip_ge q.offs _ x.start (may.next a)))

-- An energy notice on the book's days is the notice on the lists.
pub energy_step : (ed : Edition) (n : EnergyNotice) (R : Register) → WellFormed ed R
    → energy ed n (book_of R) ≡ ((energy_lists ed n R).0, book_of (energy_lists ed n R).1)
unfolding energy energy_lists point_of book_of
energy_step ed n R ok =
    on_lists_lem 4 n.mirn (energy_early n) _ (energy_lists_rows ed n R) (enter (entry_of n)) (enter_lists (entry_of n))
    (λ q w. energy_rows_is w ed n R) (λ q w e. enter_is w (entry_of n) (energy_clear ed n R q e)) R ok.points_ok

-- ---- the register stays well-formed

-- Well-formed registrations, at most 8, and a request that may stand beside them.
record Settled (install : ℕ) (regs : List (ℕ × ℕ)) (o : Option Pending) : Type 0 where
  pub regs_ok : Regs 0 install regs
  pub regs_start : StartsOn install regs
  pub regs_few : length regs ≤ 8
  pub pending_ok : PendingOk regs o

-- an append that registers ends on the latest registration's start or after it
registers_after : (section : ℕ) (x : Entry) (s : ℕ) (q : Pending) → append_registers section x s q ≡ true → s < suc x.end
registers_after section x s q e =
    let inside : Bool = leb q.first x.end && leb x.end q.last in
    let after : Bool = ltb s (suc x.end) in
    ltb-true s (suc x.end) (both inside after (both (inside && after) (type_registers section x.type) e).0).1

-- whatever the request comes to leaves them so
settled_keeps : {install : ℕ} {regs : List (ℕ × ℕ)} {o : Option Pending} → Settled install regs o → (w : Which) (section : ℕ) (x : Entry) → x.end ≤ 39999
    → Settled install (regs_after (outcome_of w section x (latest_of regs).0 o) x.end regs) (pending_after (outcome_of w section x (latest_of regs).0 o) o)
settled_keeps ok replacement section x h = ok
settled_keeps ok recut section x h = ok
settled_keeps {install} {regs} {o} ok append section x h = go o ok.pending_ok
  where
    norequest : Settled install regs none
    norequest = record { regs_ok = ok.regs_ok; regs_start = ok.regs_start; regs_few = ok.regs_few; pending_ok = nopending }

    waits : {p : Pending} (t : Bool) → PendingOk regs (some p)
        → Settled install (regs_after (cond t lapses stays) x.end regs) (pending_after (cond t lapses stays) (some p))
    waits true p = norequest
    waits false p = record { regs_ok = ok.regs_ok; regs_start = ok.regs_start; regs_few = ok.regs_few; pending_ok = p }

    registered : (u : ℕ) → 1 ≤ u → u ≤ 16 → eqb (latest_of regs).1 u ≡ false → length regs ≤ 7 → (latest_of regs).0 < suc x.end
        → Settled install (user_from (suc x.end) u regs) none
    registered u a b c f g =
        let i : install ≤ (latest_of regs).0 = latest_after ok.regs_ok ok.regs_start in
        record {
          regs_ok = regs_from_lem ok.regs_ok (suc x.end) u (omega arith) (omega arith) a b;
          regs_start = starts_from ok.regs_start (suc x.end) u (omega arith) a;
          regs_few = omega (arith, user_from_length ok.regs_ok (suc x.end) u g c);
          pending_ok = nopending;
        }

    go : (o : Option Pending) → PendingOk regs o
        → Settled install (regs_after (outcome_of append section x (latest_of regs).0 o) x.end regs) (pending_after (outcome_of append section x (latest_of regs).0 o) o)
    go none p = norequest
    go (some r) (pending a b c d e f) =
        by (append_registers section x (latest_of regs).0 r) (registers_after section x (latest_of regs).0 r)
      where
        by : (t : Bool) → (t ≡ true → (latest_of regs).0 < suc x.end)
            → Settled install (regs_after (cond t (registers r.user) (cond (ltb r.last x.end) lapses stays)) x.end regs)
            (pending_after (cond t (registers r.user) (cond (ltb r.last x.end) lapses stays)) (some r))
        by true g = registered r.user a b c f (g refl)
        by false g = waits (ltb r.last x.end) (pending a b c d e f)

-- An entry that may go onto the point leaves it well-formed.
pub enter_keeps : {room : ℕ} {q : Lists} → Well room q → (x : Entry) → MayEnter room x q → Well room (enter_lists x q).1
unfolding enter_lists entered_lists which_in append_day_of point_of
enter_keeps {q = q} ok x may =
    record {
      facts_ok = ok.facts_ok;
      regs_ok = after.regs_ok;
      regs_start = after.regs_start;
      regs_few = after.regs_few;
      offs_ok = ok.offs_ok;
      offs_few = ok.offs_few;
      recs_ok = recs_after_lem x may.fits may.end_ok may.energy_ok may.type_ok on ok.recs_ok (which_in q x) refl may.next;
      recs_few = recs_few_lem ok.recs_ok ok.recs_few x (which_in q x) refl may.more;
      pending_ok = after.pending_ok;
    }
  where
    after : Settled q.facts.install (enter_lists x q).1.regs (enter_lists x q).1.pending
    after =
        settled_keeps (record { regs_ok = ok.regs_ok; regs_start = ok.regs_start; regs_few = ok.regs_few; pending_ok = ok.pending_ok })
        (which_in q x) q.facts.section x may.end_ok

    on : (d : ℕ) → x.start ≤ d → d ≤ x.end → off_on q.offs d ≡ false
    on =
        no_off_lem (point_of q) x.start x.end
        (off_within_is ok x.start x.end ∙ rw may.on (and-false (leb x.start x.end)))

-- An energy notice keeps the register well-formed.
pub energy_keeps : (ed : Edition) (n : EnergyNotice) {R : Register} → WellFormed ed R → WellFormed ed (energy_lists ed n R).1
unfolding energy_lists enter_lists entered_lists
energy_keeps ed n {R} ok =
    on_lists_keeps 4 n.mirn (energy_early n) (energy_lists_rows ed n R) (enter_lists (entry_of n))
    (λ q w e. (enter_keeps w (entry_of n) (energy_clear ed n R q e), refl)) ok
