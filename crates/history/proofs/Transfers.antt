-- A registered transfer: whose the days are. Assumes nothing.
use mathlib.Core.Path.{◌≡◌, refl, sym, ◌∙◌, ap, subst}
use mathlib.Core.Bool.{Bool, true, false, ◌&&◌, cond}
use mathlib.Core.Option.{Option, none, some, none-ne-some, some-injective}
use mathlib.Core.List.{List, ◌∷◌, map}
use Prim.Native.Nat.{ℕ, zero, suc, ◌≤◌}
use native.Mathlib.Omega.{arith}
use lib.Dec.{leb, ltb, eqb}
use lib.IntN.{ℤ, pos}
use lib.ListN.{get_or}
use borrow.Author.Tests.{le-leb, lt-leb, eqb-true}
use Rattle.numbers.specs.Naturals.{nat_of}
use Rattle.numbers.proofs.Bools.{both}
use Rattle.daybook.specs.declared.Edition.{Edition}
use Rattle.daybook.specs.Editions.{Editions}
use Rattle.daybook.specs.declared.EnergyNotice.{EnergyNotice}
use Rattle.daybook.specs.Book.{Entry, Pending, Point, Book, from_on, fill, with_entries, with_fro, with_pending, records, latest}
use Rattle.daybook.specs.Notices.{decide, find, with_point, on_point, Which, append, replacement, recut, which_number, which, entry_of, kept, removed, Outcome, registers, lapses, stays, type_registers, append_registers, outcome_of, outcome_numbers, settled, entered, enter, energy}
use Rattle.lists.specs.Lists.{Lists, point_of}
use Rattle.lists.specs.InnerSteps.{latest_of}
use Rattle.lists.specs.InnerWell.{PendingOk, pending, Well}
use Rattle.lists.proofs.Registrations.{latest_is_lem, user_latest}
use Rattle.lists.proofs.Points.{find_put}
use Rattle.layout.specs.Layout.{BothFit, edition_in, table_book}
use Rattle.layout.specs.Sound.{sound}
use Rattle.energy.specs.Energy.{energy_call}
use Rattle.history.specs.Agreement.{user_in, Transferred}
use Rattle.history.proofs.EnergyBooks.{step_by, lists_at_lem, found, row, now_is, left_book}

-- ---- a request that registers

-- there is one, of that User, and the append registers it
record Registers (c : ℕ) (x : Entry) (s : ℕ) (o : Option Pending) (u : ℕ) : Type 0 where
  request : Pending
  is : o ≡ some request
  user : request.user ≡ u
  may : append_registers c x s request ≡ true

registering : (w : Which) (c : ℕ) (x : Entry) (s : ℕ) (o : Option Pending) (u : ℕ) → outcome_of w c x s o ≡ registers u → Registers c x s o u
registering replacement c x s o u e = let z : ◌≡◌ {A = ℕ} 0 1 = cc in absurd (omega arith)
registering recut c x s o u e = let z : ◌≡◌ {A = ℕ} 0 1 = cc in absurd (omega arith)
registering append c x s none u e = let z : ◌≡◌ {A = ℕ} 0 1 = cc in absurd (omega arith)
registering append c x s (some q) u e = go (append_registers c x s q) (ltb q.last x.end) refl e
  where
    go : (b l : Bool) → append_registers c x s q ≡ b → cond b (registers q.user) (cond l lapses stays) ≡ registers u
        → Registers c x s (some q) u
    go true l b e = record { request = q; is = refl; user = ap (λ o. get_or (outcome_numbers o) 0 0) e; may = b }
    go false true b e = let z : ◌≡◌ {A = ℕ} 0 1 = cc in absurd (omega arith)
    go false false b e = let z : ◌≡◌ {A = ℕ} 0 1 = cc in absurd (omega arith)

-- in section 1 its type is 0
actual_type : (c : ℕ) (x : Entry) (s : ℕ) (q : Pending) → append_registers c x s q ≡ true → c ≡ 1 → x.type ≡ 0
actual_type c x s q e z =
    let t = (both (leb q.first x.end && leb x.end q.last && ltb s (suc x.end)) (type_registers c x.type) e).1 in
    eqb-true x.type 0 (rw z at t)

-- ---- on the lists

-- from the latest registration on its User is FRO
since_latest : {room : ℕ} {q : Lists} → Well room q → (d : ℕ) → (latest (point_of q)).0 ≤ d → (point_of q).fro d ≡ (latest (point_of q)).1
unfolding point_of
since_latest {q = q} w = rw (latest_is_lem w) (user_latest w.regs_ok)

-- a pending User isn't the latest
other_user : {room : ℕ} {q : Lists} → Well room q → (r : Pending) → (point_of q).pending ≡ some r → eqb (latest (point_of q)).1 r.user ≡ false
unfolding point_of
other_user {q = q} w r e = rw (latest_is_lem w) (go q.pending w.pending_ok e)
  where
    go : (o : Option Pending) → PendingOk q.regs o → o ≡ some r → eqb (latest_of q.regs).1 r.user ≡ false
    go none k e = absurd (none-ne-some r e)
    go (some v) (pending a b c d f g) e = subst (λ (v : Pending). eqb (latest_of q.regs).1 v.user ≡ false) (some-injective v r e) c

-- ---- on the book

module _ (n : EnergyNotice) (B : Book) (u : ℕ) (some_user_lem : 1 ≤ u) where
  abbrev x : Entry
  x = entry_of n

  -- the point once the User is registered
  abbrev registered : Point → Point
  registered p = settled (registers u) x.end (with_entries (fill x (kept (which p x) x.start p.entry)) p)

  -- where the answer names the User, there is a point, and its request registers
  record OnBook (o : Option Point) (row : ℕ) : Type 0 where
    point : Point
    is : o ≡ some point
    outcome : outcome_of (which point x) point.facts.section x (latest point).0 point.pending ≡ registers u
    book : (step_by n B (enter x) o row).1 ≡ with_point (nat_of n.mirn) (registered point) B

  nobody : pos 0 ≡ pos u → ⊥
  nobody e = let z : 0 ≡ u = ap nat_of e in omega arith

  on_book : (o : Option Point) (row : ℕ) → user_in (step_by n B (enter x) o row).0 ≡ pos u → OnBook o row
  unfolding decide enter entered
  on_book none zero e = absurd (nobody e)
  on_book none (suc r) e = absurd (nobody e)
  on_book (some p) (suc r) e = absurd (nobody e)
  on_book (some p) zero e = go (outcome_of (which p x) p.facts.section x (latest p).0 p.pending) refl e
    where
      go : (o : Outcome) → outcome_of (which p x) p.facts.section x (latest p).0 p.pending ≡ o
          → user_in (pos 0 ∷ map pos (which_number (which p x) ∷ removed (which p x) x.start (records p) ∷ outcome_numbers o)) ≡ pos u
          → OnBook (some p) zero
      go (registers v) h e =
          let is : registers v ≡ registers u = ap (λ z. registers (nat_of z)) e in
          record {
            point = p;
            is = refl;
            outcome = h ∙ is;
            book =
                ap (λ o. with_point (nat_of n.mirn) (settled o x.end (with_entries (fill x (kept (which p x) x.start p.entry)) p)) B) (h ∙ is);
          }
      go lapses h e = absurd (nobody e)
      go stays h e = absurd (nobody e)

-- ---- on the table

module _ (E : Editions) (fit : BothFit E) (t : List ℤ) (s : sound (edition_in E t) t ≡ true) (n : EnergyNotice) (u : ℕ) (some_user_lem : 1 ≤ u) where
  abbrev ed : Edition
  ed = edition_in E t

  abbrev B : Book
  B = table_book ed t

  pub sound_transferred : user_in (energy_call E t n).0 ≡ pos u → Transferred E ed t B n u
  unfolding energy on_point with_point with_fro with_pending with_entries from_on entry_of
  sound_transferred e =
      record {
        point = b.point;
        found = b.is;
        after = registered n B u some_user_lem b.point;
        found_after =
            ap (λ (B : Book). find (nat_of n.mirn) B.points) (left_book E fit t s n ∙ b.book)
            ∙ find_put (nat_of n.mirn) b.point (registered n B u some_user_lem b.point) B.points refl b.is;
        same_days = λ d h. rw (lt-leb (suc (nat_of n.end)) d (omega arith));
        old_user = λ d l h. rw (lt-leb (suc (nat_of n.end)) d (omega arith)) (old d l);
        new_user = λ d h. rw (le-leb (suc (nat_of n.end)) d h);
        differ = differ;
        actual = actual_type b.point.facts.section (entry_of n) (latest b.point).0 r.request r.may;
      }
    where
      b : OnBook n B u some_user_lem (found E fit t s n) (row E fit t s n)
      b = on_book n B u some_user_lem (found E fit t s n) (row E fit t s n) (sym (ap (λ v. user_in v.0) (now_is E fit t s n)) ∙ e)

      r : Registers b.point.facts.section (entry_of n) (latest b.point).0 b.point.pending u
      r = registering (which b.point (entry_of n)) b.point.facts.section (entry_of n) (latest b.point).0 b.point.pending u b.outcome

      at : (q : Lists) × Well ed.records q × (point_of q ≡ b.point)
      at = lists_at_lem E fit t s (nat_of n.mirn) b.point b.is

      old : (d : ℕ) → (latest b.point).0 ≤ d → b.point.fro d ≡ (latest b.point).1
      old = subst (λ p. (d : ℕ) → (latest p).0 ≤ d → p.fro d ≡ (latest p).1) at.2 (since_latest at.1)

      differ : eqb (latest b.point).1 u ≡ false
      differ =
          subst (λ v. eqb (latest b.point).1 v ≡ false) r.user
          (subst (λ p. (o : Pending) → p.pending ≡ some o → eqb (latest p).1 o.user ≡ false) at.2 (other_user at.1) r.request r.is)
