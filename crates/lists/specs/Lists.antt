-- A point as three lists (registrations, off spans, records), and the point and book of days that they stand for.
use Rattle.std.specs.Prelude.{Bool, true, false, ◌&&◌, ◌||◌, cond, List, [], ◌∷◌, map, ℕ, zero, suc, leb, ltb, eqb, ℤ}
use mathlib.Core.Option.{Option, none, some}
use Rattle.daybook.specs.declared.Facts.{Facts}
use Rattle.daybook.specs.Book.{Entry, Pending, Point, Book, fill}

-- A registration is (start, User), an off span (off day, on day) with none while it is still off. The facts' operator is
-- the number as it stands in a table, 0 to 4.
pub record Lists : Type 0 where
  pub facts : Facts
  pub regs : List (ℕ × ℕ)
  pub offs : List (ℕ × Option ℕ)
  pub recs : List Entry
  pub pending : Option Pending

pub record Register : Type 0 where
  pub nondaily : ℤ
  pub daily : ℤ
  pub points : List Lists

-- The User of a day: that of the last registration that has started; u before all of them.
unfoldable pub user_on : ℕ → List (ℕ × ℕ) → ℕ → ℕ
user_on u [] d = u
user_on u (x ∷ l) d = user_on (cond (leb x.0 d) x.1 u) l d

-- A span holds the days from its off day on and before its on day.
abbrev pub in_span : ℕ × Option ℕ → ℕ → Bool
in_span (off, none) d = leb off d
in_span (off, some on) d = leb off d && ltb d on

unfoldable pub off_on : List (ℕ × Option ℕ) → ℕ → Bool
off_on [] d = false
off_on (x ∷ l) d = in_span x d || off_on l d

unfoldable pub entry_on : List Entry → ℕ → Option Entry
entry_on [] = λ d. none
entry_on (x ∷ l) = fill x (entry_on l)

-- In the book an operator is 1 to 4: 0, which stands in an older register, is read as 1 (document 02, g).
abbrev pub operator_of : ℕ → ℕ
operator_of zero = 1
operator_of (suc o) = suc o

abbrev pub with_operator : ℕ → Facts → Facts
with_operator o f =
    record {
      mirn = f.mirn;
      kind = f.kind;
      install = f.install;
      base = f.base;
      section = f.section;
      operator = o;
    }

abbrev pub book_facts : Facts → Facts
book_facts f = with_operator (operator_of f.operator) f

unfoldable pub point_of : Lists → Point
point_of q =
    record {
      facts = book_facts q.facts;
      entry = entry_on q.recs;
      off = off_on q.offs;
      fro = user_on 0 q.regs;
      pending = q.pending;
    }

unfoldable pub book_of : Register → Book
book_of R = record { nondaily = R.nondaily; daily = R.daily; points = map point_of R.points }

-- ---- operators that a table leaves unnamed

unfoldable pub with_facts : Facts → Lists → Lists
with_facts f q = record { facts = f; regs = q.regs; offs = q.offs; recs = q.recs; pending = q.pending }

-- The lists qs with 0 for an operator again where the point of that index had 0 before (document 02, g).
unfoldable pub unnamed_again : List Lists → List Lists → List Lists
unnamed_again [] qs = qs
unnamed_again (old ∷ olds) [] = []
unnamed_again (old ∷ olds) (q ∷ qs) =
    cond (eqb old.facts.operator 0) (with_facts (with_operator 0 q.facts) q) q ∷ unnamed_again olds qs

-- The register R, with the unnamed operators of the register before.
unfoldable pub as_found : Register → Register → Register
as_found before R =
    record { nondaily = R.nondaily; daily = R.daily; points = unnamed_again before.points R.points }

-- ---- which registration covers a day

-- Does the next registration, if any, start after day d?
abbrev pub next_after : ℕ → List (ℕ × ℕ) → Bool
next_after d [] = true
next_after d (y ∷ l) = ltb d y.0

-- The registrations that cover day d: started by then, and the next one not.
unfoldable pub covering : ℕ → List (ℕ × ℕ) → List (ℕ × ℕ)
covering d [] = []
covering d (x ∷ l) = cond (leb x.0 d && next_after d l) (x ∷ covering d l) (covering d l)
