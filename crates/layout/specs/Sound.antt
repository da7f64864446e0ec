-- When a table is a sound register: document 01's sentence, clause by clause.
use Rattle.std.specs.Prelude.{Bool, true, false, not, ◌&&◌, cond, List, [], ◌∷◌, ◌++◌, ℕ, ◌+◌, ◌-◌, ◌/◌, leb, ltb, eqb, ℤ, pos, negsuc, length, get_or, drop}
use mathlib.Core.Option.{Option}
use Rattle.numbers.specs.Rows.{all}
use Rattle.numbers.specs.Search.{maybe}
use Rattle.calendar.specs.Calendar.{within}
use Rattle.daybook.specs.declared.Edition.{Edition}
use Rattle.daybook.specs.declared.Facts.{Facts}
use Rattle.daybook.specs.Book.{Entry, Pending, last_of, append_day}
use Rattle.daybook.specs.Notices.{fits_kind, is_range, off_within}
use Rattle.lists.specs.Lists.{Lists, point_of}
use Rattle.layout.specs.Places.{points_place, nondaily_place, daily_place, edition_place, header_spare, header_length, reg_count, off_count, rec_count, pending_user, pending_end, spare_place, regs_place, offs_place, recs_place, rec_length, reg_place, off_place, rec_place}
use Rattle.layout.specs.Layout.{table_length, place_of, part_of, num_at, point_from, points_from}

unfoldable pub each : {A : Type 0} → (A → Bool) → List A → Bool
each test [] = true
each test (x ∷ l) = test x && each test l

unfoldable pub neighbours : {A : Type 0} → (A → A → Bool) → List A → Bool
neighbours test [] = true
neighbours test (x ∷ []) = true
neighbours test (x ∷ y ∷ l) = test x y && neighbours test (y ∷ l)

-- All values are in range.
unfoldable pub facts_sound : Facts → Bool
facts_sound f =
    leb 1 f.mirn && leb f.mirn 9999999999 && leb f.kind 1 && leb f.install 39999 && leb f.base 10000
    && leb f.section 1 && leb f.operator 4

abbrev pub starts_on : ℕ → List (ℕ × ℕ) → Bool
starts_on install [] = true
starts_on install (x ∷ l) = eqb x.0 install

-- Registrations ascend strictly from install (a start may be 40,000) and neighbours differ in User.
unfoldable pub regs_sound : ℕ → List (ℕ × ℕ) → Bool
regs_sound install l =
    each (λ (x : ℕ × ℕ). leb x.0 40000 && leb 1 x.1 && leb x.1 16) l && starts_on install l
    && neighbours (λ (x y : ℕ × ℕ). ltb x.0 y.0 && not (eqb x.1 y.1)) l

-- Spans begin at or after install, each ends after it begins, the next begins after that on day, only the last is open.
unfoldable pub offs_sound : ℕ → List (ℕ × Option ℕ) → Bool
offs_sound install l =
    each (λ (x : ℕ × Option ℕ). leb install x.0 && leb x.0 39999
    && maybe true (λ on. ltb x.0 on && leb on 39999) x.1) l
    && neighbours (λ (x y : ℕ × Option ℕ). maybe false (λ on. ltb on y.0) x.1) l

-- The point with only these records.
unfoldable pub with_recs : List Entry → Lists → Lists
with_recs l q = record { facts = q.facts; regs = q.regs; offs = q.offs; recs = l; pending = q.pending }

-- Each record starts on the append day of the point with only the records before it.
unfoldable pub by_append_rule : Lists → List Entry → List Entry → Bool
by_append_rule q before [] = true
by_append_rule q before (x ∷ l) =
    maybe false (eqb x.start) (append_day (point_of (with_recs before q))) && by_append_rule q (before ++ (x ∷ [])) l

-- Records start by the append rule, fit their kind and hold no off day.
unfoldable pub recs_sound : Lists → Bool
recs_sound q =
    each (λ (x : Entry). leb x.end 39999 && within (negsuc 999999) (pos 1000000) x.energy && leb x.type 2
    && fits_kind q.facts.kind x.start x.end && not (off_within (point_of q) x.start x.end)) q.recs
    && by_append_rule q [] q.recs

-- A pending User isn't the latest, first ≤ last, both are days, and registrations are at most 7.
unfoldable pub pending_sound : Lists → Bool
pending_sound q =
    maybe true
    (λ (r : Pending). leb r.user 16 && not (eqb (maybe 0 (λ x. x.1) (last_of q.regs)) r.user)
    && leb r.first r.last && leb r.last 39999 && leb (length q.regs) 7)
    q.pending

unfoldable pub lists_sound : Lists → Bool
lists_sound q =
    facts_sound q.facts && regs_sound q.facts.install q.regs && offs_sound q.facts.install q.offs
    && recs_sound q && pending_sound q

-- The places a to b - 1 are 0.
unfoldable pub zeros : List ℤ → ℕ → ℕ → Bool
zeros t a b = all (λ k. eqb (num_at t (a + k)) 0) (b - a)

-- Registrations are 1 to 8, off spans 0 to 8, records 0 to as many as the part holds.
unfoldable pub counts_sound : List ℤ → Bool
counts_sound p =
    leb 1 (num_at p reg_count) && leb (num_at p reg_count) 8 && leb (num_at p off_count) 8
    && leb (num_at p rec_count) ((length p - recs_place) / rec_length)

-- Unused places are 0; without a pending User, all three are 0.
unfoldable pub unused_zero : List ℤ → Bool
unused_zero p =
    zeros p spare_place regs_place && zeros p (reg_place (num_at p reg_count)) offs_place
    && zeros p (off_place (num_at p off_count)) recs_place && zeros p (rec_place (num_at p rec_count)) (length p)
    && cond (eqb (num_at p pending_user) 0) (zeros p pending_user pending_end) true

unfoldable pub part_sound : List ℤ → Bool
part_sound p = counts_sound p && unused_zero p && lists_sound (point_from p)

unfoldable pub mirns_differ : List Lists → Bool
mirns_differ [] = true
mirns_differ (q ∷ qs) = each (λ (r : Lists). not (eqb q.facts.mirn r.facts.mirn)) qs && mirns_differ qs

-- The header, with the edition's number, every point, MIRNs that differ, and 0 in all that is left.
unfoldable pub sound : Edition → List ℤ → Bool
sound ed t =
    leb table_length (length t) && leb (num_at t points_place) ed.points
    && is_range (get_or t nondaily_place (pos 0)) && is_range (get_or t daily_place (pos 0))
    && eqb (num_at t edition_place) ed.number && zeros t header_spare header_length
    && all (λ i. part_sound (part_of ed t i)) (num_at t points_place)
    && mirns_differ (points_from ed (num_at t points_place) (drop header_length t))
    && zeros t (place_of ed (num_at t points_place)) table_length
