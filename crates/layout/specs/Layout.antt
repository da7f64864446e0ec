-- Editions and places, the layout of a register's lists into numbers, and the way back.
use Rattle.std.specs.Prelude.{◌≡◌, List, [], ◌∷◌, ◌++◌, map, ℕ, zero, suc, ◌+◌, ◌-◌, ◌*◌, ◌≤◌, ◌^◌, ℤ, pos, negsuc, length, get_or, take, drop, replicate}
use mathlib.Core.Option.{Option, none, some}
use Rattle.numbers.specs.Naturals.{nat_of}
use Rattle.daybook.specs.declared.Edition.{Edition}
use Rattle.daybook.specs.declared.Facts.{Facts}
use Rattle.daybook.specs.Book.{Entry, Pending, Point, Book, records, registrations, spans}
use Rattle.daybook.specs.Queries.{share_count}
pub use Rattle.daybook.specs.Editions.{table_length}
use Rattle.daybook.specs.Editions.{Editions, editions, edition_no}
use Rattle.lists.specs.Lists.{Lists, Register, book_of, as_found}
use Rattle.layout.specs.Places.{points_place, nondaily_place, daily_place, edition_place, header_length, mirn_place, kind_place, install_place, base_place, reg_count, off_count, rec_count, pending_user, pending_first, pending_last, section_place, operator_place, spare_place, regs_place, offs_place, recs_place, reg_length, off_length, rec_length, rec_place}

-- ---- editions and places

-- How many numbers a point has.
abbrev pub stride : Edition → ℕ
stride ed = rec_place ed.records

-- Where point i starts.
abbrev pub place_of : Edition → ℕ → ℕ
place_of ed i = header_length + stride ed * i

-- An edition whose number is 0 or 1, whose points fit the table, their shares an allocation's answer table, and four
-- reserves its points.
pub record Fits (ed : Edition) : Type 0 where
  pub numbered : ed.number ≤ 1
  pub some : 1 ≤ ed.points
  pub few : ed.points ≤ share_count
  pub in_table : place_of ed ed.points ≤ table_length
  pub reserved : 4 * ed.reserve ≤ ed.points

-- Any two editions of the numbers 0 and 1 that fit.
pub record BothFit (E : Editions) : Type 0 where
  pub standard : Fits E.standard
  pub long : Fits E.long
  pub number0 : E.standard.number ≡ 0
  pub number1 : E.long.number ≡ 1

-- The numbers of point i.
unfoldable pub part_of : Edition → List ℤ → ℕ → List ℤ
part_of ed t i = take (stride ed) (drop (place_of ed i) t)

-- ---- from lists to numbers

-- Unused places are 0.
unfoldable pub pad : ℕ → List ℤ → List ℤ
pad n l = l ++ replicate (n - length l) (pos 0)

unfoldable pub reg_numbers : List (ℕ × ℕ) → List ℤ
reg_numbers [] = []
reg_numbers (x ∷ l) = pos x.0 ∷ pos x.1 ∷ reg_numbers l

-- The on day of a span, -1 if it is still off.
abbrev pub on_number : Option ℕ → ℤ
on_number none = negsuc 0
on_number (some d) = pos d

unfoldable pub off_numbers : List (ℕ × Option ℕ) → List ℤ
off_numbers [] = []
off_numbers (x ∷ l) = pos x.0 ∷ on_number x.1 ∷ off_numbers l

unfoldable pub rec_numbers : List Entry → List ℤ
rec_numbers [] = []
rec_numbers (x ∷ l) = pos x.start ∷ pos x.end ∷ x.energy ∷ pos x.type ∷ rec_numbers l

-- A pending request, or three zeros.
abbrev pub pending_or_zeros : Option Pending → Pending
pending_or_zeros none = record { user = 0; first = 0; last = 0 }
pending_or_zeros (some q) = q

-- The first sixteen places of a point: MIRN, kind, install, base load, how many registrations, off spans and records,
-- pending User, first, last, section, operator, zeros.
unfoldable pub head_numbers : Lists → List ℤ
head_numbers q =
    pos q.facts.mirn ∷ pos q.facts.kind ∷ pos q.facts.install ∷ pos q.facts.base
    ∷ pos (length q.regs) ∷ pos (length q.offs) ∷ pos (length q.recs)
    ∷ pos (pending_or_zeros q.pending).user ∷ pos (pending_or_zeros q.pending).first
    ∷ pos (pending_or_zeros q.pending).last ∷ pos q.facts.section ∷ pos q.facts.operator
    ∷ replicate (regs_place - spare_place) (pos 0)

-- Then registrations, off spans and records.
unfoldable pub point_numbers : ℕ → Lists → List ℤ
point_numbers room q =
    head_numbers q ++ (pad (offs_place - regs_place) (reg_numbers q.regs)
    ++ (pad (recs_place - offs_place) (off_numbers q.offs) ++ pad (rec_length * room) (rec_numbers q.recs)))

unfoldable pub points_numbers : ℕ → List Lists → List ℤ
points_numbers room [] = []
points_numbers room (q ∷ qs) = point_numbers room q ++ points_numbers room qs

-- Places 0 to 7: how many points, the two ranges, the edition, four zeros. Then the points; what is left of the table
-- is 0.
unfoldable pub layout : Edition → Register → List ℤ
layout ed R =
    pad table_length
    (pad header_length (pos (length R.points) ∷ R.nondaily ∷ R.daily ∷ pos ed.number ∷ [])
    ++ points_numbers ed.records R.points)

-- ---- from numbers to lists

-- The number at a place; a negative one is above every bound.
abbrev pub num_at : List ℤ → ℕ → ℕ
num_at t i = nat_of (get_or t i (pos 0))

-- The edition of a table, by the number in its header, where the two editions are E (document 02, k).
unfoldable pub edition_in : Editions → List ℤ → Edition
edition_in E t = edition_no E (num_at t edition_place)

-- Of the two that there are.
abbrev pub edition_of : List ℤ → Edition
edition_of t = edition_in editions t

unfoldable pub regs_from : ℕ → List ℤ → List (ℕ × ℕ)
regs_from zero t = []
regs_from (suc n) t = (num_at t 0, num_at t 1) ∷ regs_from n (drop reg_length t)

-- -1 is still off; any other negative number is above every bound.
abbrev pub on_of : ℤ → Option ℕ
on_of (pos d) = some d
on_of (negsuc zero) = none
on_of (negsuc (suc d)) = some (2 ^ 63)

unfoldable pub offs_from : ℕ → List ℤ → List (ℕ × Option ℕ)
offs_from zero t = []
offs_from (suc n) t = (num_at t 0, on_of (get_or t 1 (pos 0))) ∷ offs_from n (drop off_length t)

unfoldable pub recs_from : ℕ → List ℤ → List Entry
recs_from zero t = []
recs_from (suc n) t =
    record { start = num_at t 0; end = num_at t 1; energy = get_or t 2 (pos 0); type = num_at t 3 }
    ∷ recs_from n (drop rec_length t)

-- A pending User of 0 is none.
abbrev pub pending_from : ℕ → ℕ → ℕ → Option Pending
pending_from zero first last = none
pending_from (suc u) first last = some (record { user = suc u; first = first; last = last })

abbrev pub facts_at : List ℤ → Facts
facts_at p =
    record {
      mirn = num_at p mirn_place;
      kind = num_at p kind_place;
      install = num_at p install_place;
      base = num_at p base_place;
      section = num_at p section_place;
      operator = num_at p operator_place;
    }

unfoldable pub point_from : List ℤ → Lists
point_from p =
    record {
      facts = facts_at p;
      regs = regs_from (num_at p reg_count) (drop regs_place p);
      offs = offs_from (num_at p off_count) (drop offs_place p);
      recs = recs_from (num_at p rec_count) (drop recs_place p);
      pending = pending_from (num_at p pending_user) (num_at p pending_first) (num_at p pending_last);
    }

unfoldable pub points_from : Edition → ℕ → List ℤ → List Lists
points_from ed zero t = []
points_from ed (suc n) t = point_from (take (stride ed) t) ∷ points_from ed n (drop (stride ed) t)

unfoldable pub register_of : Edition → List ℤ → Register
register_of ed t =
    record {
      nondaily = get_or t nondaily_place (pos 0);
      daily = get_or t daily_place (pos 0);
      points = points_from ed (num_at t points_place) (drop header_length t);
    }

-- ---- tables and books

-- The day book of a table.
unfoldable pub table_book : Edition → List ℤ → Book
table_book ed t = book_of (register_of ed t)

-- A book's points as lists, read off their days.
unfoldable pub lists_of : Point → Lists
lists_of p =
    record { facts = p.facts; regs = registrations p; offs = spans p; recs = records p; pending = p.pending }

unfoldable pub book_register : Book → Register
book_register B = record { nondaily = B.nondaily; daily = B.daily; points = map lists_of B.points }

-- The table t with the book B laid out over its register; the numbers past that are kept, and so is a 0 for the
-- operator of a point that was there.
unfoldable pub with_book : Edition → List ℤ → Book → List ℤ
with_book ed t B = layout ed (as_found (register_of ed t) (book_register B)) ++ drop table_length t

-- The table t with the book B laid out anew, whatever stood there: every operator is named.
unfoldable pub with_new_book : Edition → List ℤ → Book → List ℤ
with_new_book ed t B = layout ed (book_register B) ++ drop table_length t
