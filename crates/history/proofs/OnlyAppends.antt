-- Only an append settles a request: what became of the answers. Assumes nothing.
use mathlib.Core.Path.{◌≡◌, refl, sym, ◌∙◌, ap, subst}
use mathlib.Core.Bool.{Bool, true, false, ◌||◌, cond, false≢true}
use mathlib.Core.Option.{Option, none, some}
use mathlib.Core.List.{List, [], ◌∷◌, ◌++◌, map}
use Prim.Native.Nat.{ℕ, zero, suc, ◌≤◌}
use native.Mathlib.Omega.{arith}
use lib.Dec.{ltb, eqb}
use lib.IntN.{ℤ, pos}
use lib.ListN.{take}
use borrow.Author.Tests.{ne_eqb}
use Rattle.numbers.specs.Naturals.{nat_of}
use Rattle.numbers.specs.Search.{maybe}
use Rattle.daybook.specs.declared.Edition.{Edition}
use Rattle.daybook.specs.Editions.{Editions}
use Rattle.daybook.specs.declared.EnergyNotice.{EnergyNotice}
use Rattle.daybook.specs.Book.{Entry, Pending, Point, Book, with_entries, records, latest}
use Rattle.daybook.specs.Notices.{Numbers, decide, find, with_point, on_point, Which, append, replacement, recut, which_number, which, entry_of, removed, Outcome, registers, lapses, stays, append_registers, outcome_of, outcome_numbers, entered, enter, energy}
use Rattle.daybook.specs.Calls.{Notice, open!, energy!, status!, request!, withdraw!, correct!, Call, fresh!, notice!, query!, state!, convert! }
use Rattle.lists.specs.Lists.{point_of}
use Rattle.lists.specs.InnerWell.{PendingOk, nopending, pending}
use Rattle.lists.proofs.Points.{find_put}
use Rattle.layout.specs.Layout.{BothFit, edition_in, table_book}
use Rattle.layout.specs.Sound.{sound}
use Rattle.layout.specs.Calls.{answer_and_table, on_edition}
use Rattle.energy.specs.Energy.{energy_call}
use Rattle.history.specs.Runs.{Lent, notice_call, with_table, lent_step}
use Rattle.history.specs.OtherRules.{enter_by, energy_call_by, notice_call_by, lent_step_by}
use Rattle.history.specs.OnlyAppends.{any_settles, energy_call_before, lent_step_before, named, corrected_point, CorrectsAlone, OnlyAppendsSettle}
use Rattle.history.proofs.EnergyBooks.{step_by, lists_at_lem, found, row, now_is, by_is, left_sound, left_book}

-- ---- what the request came to, and comes to

-- by an append a request comes to what it came to
append_same : (c : ℕ) (x : Entry) (s : ℕ) (o : Option Pending) → outcome_of append c x s o ≡ any_settles append c x s o
append_same c x s o = refl

-- the answer of a notice that was entered
abbrev answer_of : ℕ → ℕ → Outcome → Numbers
answer_of which removed o = pos 0 ∷ map pos (which ∷ removed ∷ outcome_numbers o)

-- a replacement or recut whose answer named neither left the request
unnamed : (r : Pending) → 1 ≤ r.user → (w k c : ℕ) (x : Entry) (s : ℕ) → (eqb w 2 || eqb w 3) ≡ true
    → named (answer_of w k (outcome_of append c x s (some r))) ≡ false → stays ≡ outcome_of append c x s (some r)
unnamed r h w k c x s i = go (append_registers c x s r) (ltb r.last x.end)
  where
    go : (b t : Bool) → named (answer_of w k (cond b (registers r.user) (cond t lapses stays))) ≡ false
        → stays ≡ cond b (registers r.user) (cond t lapses stays)
    go true t e = absurd (false≢true (sym (rw (i, ne_eqb r.user 0 (omega arith)) at e)))
    go false true e = absurd (false≢true (sym (rw i at e)))
    go false false e = refl

outcome_same : {regs : List (ℕ × ℕ)} {o : Option Pending} → PendingOk regs o → (w : Which) (k c : ℕ) (x : Entry) (s : ℕ)
    → named (answer_of (which_number w) k (any_settles w c x s o)) ≡ false → outcome_of w c x s o ≡ any_settles w c x s o
outcome_same {o = o} ok append k c x s e = append_same c x s o
outcome_same nopending replacement k c x s e = refl
outcome_same nopending recut k c x s e = refl
outcome_same (pending {q = r} a b n d f g) replacement k c x s e = unnamed r a 2 k c x s refl e
outcome_same (pending {q = r} a b n d f g) recut k c x s e = unnamed r a 3 k c x s refl e

-- an answer that named one was a replacement's or a recut's, with a request pending; it stays now
record Stays (w : Which) (c : ℕ) (x : Entry) (s : ℕ) (o : Option Pending) : Type 0 where
  request : Pending
  is : o ≡ some request
  stayed : outcome_of w c x s o ≡ stays

was_named : (w : Which) (k c : ℕ) (x : Entry) (s : ℕ) (o : Option Pending) → named (answer_of (which_number w) k (any_settles w c x s o)) ≡ true
    → Stays w c x s o
was_named append k c x s o e = absurd (false≢true e)
was_named replacement k c x s none e = absurd (false≢true e)
was_named replacement k c x s (some r) e = record { request = r; is = refl; stayed = refl }
was_named recut k c x s none e = absurd (false≢true e)
was_named recut k c x s (some r) e = record { request = r; is = refl; stayed = refl }

-- ---- on the book

module _ (n : EnergyNotice) (B : Book) where
  abbrev x : Entry
  x = entry_of n

  abbrev now : Option Point → ℕ → Numbers × Book
  now = step_by n B (enter x)

  abbrev earlier : Option Point → ℕ → Numbers × Book
  earlier = step_by n B (enter_by any_settles x)

  -- what it is where the notice is entered, by what becomes of the request
  abbrev settling : Point → Outcome → Numbers × Book
  settling p o = (pos 0 ∷ (entered x (which p x) o p).0, with_point (nat_of n.mirn) (entered x (which p x) o p).1 B)

  abbrev cut : Point → ℕ
  cut p = removed (which p x) x.start (records p)

  book_same : (o : Option Point) (row : ℕ) → ((p : Point) → o ≡ some p → (regs : List (ℕ × ℕ)) × PendingOk regs p.pending)
      → named (earlier o row).0 ≡ false → now o row ≡ earlier o row
  unfolding decide enter enter_by entered
  book_same none r ok e = refl
  book_same (some p) (suc r) ok e = refl
  book_same (some p) zero ok e = ap (settling p) (outcome_same (ok p refl).1 (which p x) (cut p) p.facts.section x (latest p).0 e)

  -- where the answer named one, there is a point with a request, and its record alone is corrected now
  record OnBook (o : Option Point) (row : ℕ) : Type 0 where
    point : Point
    found : o ≡ some point
    request : Pending
    is : point.pending ≡ some request
    numbers : (now o row).0 ≡ take 3 (earlier o row).0 ++ (pos 0 ∷ pos 0 ∷ [])
    book : (now o row).1 ≡ with_point (nat_of n.mirn) (corrected_point x point) B

  book_alone : (o : Option Point) (row : ℕ) → named (earlier o row).0 ≡ true → OnBook o row
  unfolding decide enter enter_by entered
  book_alone none zero e = absurd (false≢true e)
  book_alone none (suc r) e = absurd (false≢true e)
  book_alone (some p) (suc r) e = absurd (false≢true e)
  book_alone (some p) zero e =
      let s : Stays (which p x) p.facts.section x (latest p).0 p.pending =
      was_named (which p x) (cut p) p.facts.section x (latest p).0 p.pending e in
      record {
        point = p;
        found = refl;
        request = s.request;
        is = s.is;
        numbers = ap (λ o. (settling p o).0) s.stayed;
        book = ap (λ o. (settling p o).1) s.stayed;
      }

-- ---- on the table

module _ (E : Editions) (fit : BothFit E) (t : List ℤ) (s : sound (edition_in E t) t ≡ true) where
  abbrev ed : Edition
  ed = edition_in E t

  abbrev B : Book
  B = table_book ed t

  -- a request of a sound table is one beside its point's registrations
  pending_ok_lem : (m : ℕ) (p : Point) → find m B.points ≡ some p → (regs : List (ℕ × ℕ)) × PendingOk regs p.pending
  unfolding point_of
  pending_ok_lem m p e =
      let (q, w, is) = lists_at_lem E fit t s m p e in (q.regs, subst (λ p. PendingOk q.regs p.pending) is w.pending_ok)

  module _ (n : EnergyNotice) where
    before_is : energy_call_before E t n ≡ answer_and_table ed t (earlier n B (found E fit t s n) (row E fit t s n))
    before_is = by_is E fit t s n any_settles

    sound_same : named (energy_call_before E t n).0 ≡ false → energy_call E t n ≡ energy_call_before E t n
    sound_same e =
        now_is E fit t s n
        ∙ ap (answer_and_table ed t) (book_same n B (found E fit t s n) (row E fit t s n) (pending_ok_lem (nat_of n.mirn)) (sym (ap (λ v. named v.0) before_is) ∙ e))
        ∙ sym before_is

    sound_alone : named (energy_call_before E t n).0 ≡ true → CorrectsAlone E ed t n
    unfolding energy on_point with_point with_entries
    sound_alone e =
        record {
          answer = ap (λ v. v.0) (now_is E fit t s n) ∙ a.numbers ∙ sym (ap (λ v. take 3 v.0 ++ (pos 0 ∷ pos 0 ∷ [])) before_is);
          request = a.request;
          pending = ap (maybe none (λ p. p.pending)) a.found ∙ a.is;
          still_pending =
              ap (λ B. maybe none (λ p. p.pending) (find (nat_of n.mirn) B.points)) (left_book E fit t s n ∙ a.book)
              ∙ ap (maybe none (λ p. p.pending)) (find_put (nat_of n.mirn) a.point (corrected_point (entry_of n) a.point) B.points refl a.found)
              ∙ a.is;
          point = a.point;
          found = a.found;
          day_book = a.book;
          is_sound = left_sound E fit t s n;
          follows = left_book E fit t s n;
        }
      where
        a : OnBook n B (found E fit t s n) (row E fit t s n)
        a = book_alone n B (found E fit t s n) (row E fit t s n) (sym (ap (λ v. named v.0) before_is) ∙ e)

-- an unsound table gets 1, as it did
unsound : (E : Editions) (t : List ℤ) (n : EnergyNotice) → sound (edition_in E t) t ≡ false → (energy_call E t n ≡ energy_call_before E t n) × (named (energy_call_before E t n).0 ≡ false)
unfolding energy_call energy_call_by on_edition
unsound E t n s = rw s (refl, refl)

energy_same : (E : Editions) → BothFit E → (t : List ℤ) (n : EnergyNotice) → named (energy_call_before E t n).0 ≡ false → energy_call E t n ≡ energy_call_before E t n
energy_same E fit t n e = go (sound (edition_in E t) t) refl
  where
    go : (b : Bool) → sound (edition_in E t) t ≡ b → energy_call E t n ≡ energy_call_before E t n
    go true s = sound_same E fit t s n e
    go false s = (unsound E t n s).0

energy_alone : (E : Editions) → BothFit E → (t : List ℤ) (n : EnergyNotice) → named (energy_call_before E t n).0 ≡ true → CorrectsAlone E (edition_in E t) t n
energy_alone E fit t n e = go (sound (edition_in E t) t) refl
  where
    go : (b : Bool) → sound (edition_in E t) t ≡ b → CorrectsAlone E (edition_in E t) t n
    go true s = sound_alone E fit t s n e
    go false s = absurd (false≢true (sym (unsound E t n s).1 ∙ e))

notice_same : (E : Editions) → BothFit E → (t : List ℤ) (c : Notice) → ((n : EnergyNotice) → c ≡ energy! n → named (energy_call_before E t n).0 ≡ false)
    → notice_call E c t ≡ notice_call_by E any_settles c t
unfolding notice_call notice_call_by
notice_same E fit t (open! n) h = refl
notice_same E fit t (energy! n) h = energy_same E fit t n (h n refl)
notice_same E fit t (status! n) h = refl
notice_same E fit t (request! n holidays) h = refl
notice_same E fit t (withdraw! n) h = refl
notice_same E fit t (correct! n) h = refl

call_same : (E : Editions) → BothFit E → (L : Lent) (c : Call)
    → ((n : EnergyNotice) → c ≡ notice! (energy! n) → named (energy_call_before E L.table n).0 ≡ false)
    → lent_step E c L ≡ lent_step_before E c L
unfolding lent_step lent_step_by
call_same E fit L (fresh! n) h = refl
call_same E fit L (notice! c) h =
    ap (λ (w : Numbers × List ℤ). ((w.0, []), with_table L w.1)) (notice_same E fit L.table c (λ n e. h n (ap notice! e)))
call_same E fit L (query! q) h = refl
call_same E fit L (state! c) h = refl
call_same E fit L (convert! second) h = refl

pub only_appends : (E : Editions) → BothFit E → OnlyAppendsSettle E
only_appends E fit = record { as_before = call_same E fit; alone = energy_alone E fit }
