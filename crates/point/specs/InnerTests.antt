-- What the code reads and tests of one point's part, place by place: its counts, registrations, off spans and records.
use Rattle.std.specs.Prelude.{◌≡◌, Bool, true, not, ◌&&◌, ◌||◌, cond, List, ℕ, zero, suc, ◌+◌, ◌≤◌, ◌<◌, ◌^◌, leb, ltb, eqb, length, get_or, ℤ, pos, negsuc}
use mathlib.Core.Option.{Option, none, some}
use Rattle.numbers.specs.InnerEnergies.{bias_of}
use Rattle.numbers.specs.Rows.{all}
use Rattle.daybook.specs.Book.{Entry}
use Rattle.daybook.specs.Notices.{fits_kind}
use Rattle.layout.specs.Places.{kind_place, install_place, reg_count, off_count, rec_count, recs_place, reg_place, off_place, rec_place}
use Rattle.layout.specs.Layout.{num_at, on_of}

-- Each of the n rows from row k on passes its test, beside what the row before it leaves.
unfoldable pub rows : {S : Type 0} → (S → ℕ → Bool) → (S → ℕ → S) → S → ℕ → ℕ → Bool
rows test next s k zero = true
rows test next s k (suc n) = test s k && rows test next (next s k) (suc k) n

-- ---- counts

-- What the counts say, for arithmetic: the rows lie in the part.
pub record Counted (p : List ℤ) : Type 0 where
  pub long : recs_place ≤ length p
  pub some_regs : 1 ≤ num_at p reg_count
  pub few_regs : num_at p reg_count ≤ 8
  pub few_spans : num_at p off_count ≤ 8
  pub few_recs : rec_place (num_at p rec_count) ≤ length p

-- The bits of a number n, whose marker is 2 ^ 63 and whose sign bit they may have: both are below 2 ^ 63 or neither.
pub record Bits (n bits : ℕ) : Type 0 where
  pub same : n < 2 ^ 63 → bits ≡ n
  pub large : 2 ^ 63 ≤ n → 2 ^ 63 ≤ bits

-- ---- registrations

abbrev pub reg_start : List ℤ → ℕ → ℕ
reg_start p k = num_at p (reg_place k)

abbrev pub reg_user : List ℤ → ℕ → ℕ
reg_user p k = num_at p (reg_place k + 1)

-- On day lo or later, with another User than u.
abbrev pub reg_ok : ℕ × ℕ → ℕ → ℕ → Bool
reg_ok (u, lo) start user = leb lo start && leb start 40000 && leb 1 user && leb user 16 && not (eqb u user)

abbrev pub reg_at : List ℤ → ℕ × ℕ → ℕ → Bool
reg_at p s k = reg_ok s (reg_start p k) (reg_user p k)

abbrev pub reg_leaves : List ℤ → ℕ × ℕ → ℕ → ℕ × ℕ
reg_leaves p s k = (reg_user p k, suc (reg_start p k))

-- The first registration starts on the install day.
unfoldable pub regs_ok : List ℤ → ℕ → Bool
regs_ok p n = eqb (reg_start p 0) (num_at p install_place) && rows (reg_at p) (reg_leaves p) (0, num_at p install_place) 0 n

-- ---- off spans

-- The day before which a span ends: 40,001 for -1, still off; a number that is no on day is the marker.
abbrev pub until_of : ℤ → ℕ
until_of (pos d) = cond (ltb d 40000) d (2 ^ 63)
until_of (negsuc zero) = 40001
until_of (negsuc (suc n)) = 2 ^ 63

abbrev pub off_day : List ℤ → ℕ → ℕ
off_day p k = num_at p (off_place k)

abbrev pub on_day : List ℤ → ℕ → ℕ
on_day p k = until_of (get_or p (off_place k + 1) (pos 0))

-- On day lo or later, and on again after that. No span can follow one that is still off.
abbrev pub span_ok : ℕ → ℕ → ℕ → Bool
span_ok lo off on = leb lo off && leb off 39999 && ltb off on && leb on 40001

abbrev pub span_ok_at : List ℤ → ℕ → ℕ → Bool
span_ok_at p lo k = span_ok lo (off_day p k) (on_day p k)

-- The next span begins after the on day.
abbrev pub span_leaves : List ℤ → ℕ → ℕ → ℕ
span_leaves p lo k = suc (on_day p k)

unfoldable pub spans_ok : List ℤ → ℕ → Bool
spans_ok p n = rows (span_ok_at p) (span_leaves p) (num_at p install_place) 0 n

-- The span's on day for a day in it.
abbrev pub past : ℕ → ℕ → ℕ → ℕ
past off on d = cond (leb off d && ltb d on) on d

-- The n spans from row k on, passed one after the other.
unfoldable pub passed : List ℤ → ℕ → ℕ → ℕ → ℕ
passed p d k zero = d
passed p d k (suc n) = passed p (past (off_day p k) (on_day p k) d) (suc k) n

-- The first day from d on that is in none of the first m spans; 40,001 if there is none.
unfoldable pub first_on : List ℤ → ℕ → ℕ → ℕ
first_on p m d = passed p d 0 m

-- Is none of the days a to b in the span?
abbrev pub apart : ℕ → ℕ → ℕ → ℕ → Bool
apart a b off on = ltb b off || leb on a

abbrev pub apart_at : List ℤ → ℕ → ℕ → ℕ → Bool
apart_at p a b k = apart a b (off_day p k) (on_day p k)

unfoldable pub no_off : List ℤ → ℕ → ℕ → ℕ → Bool
no_off p m a b = all (apart_at p a b) m

-- ---- records

abbrev pub rec_start : List ℤ → ℕ → ℕ
rec_start p k = num_at p (rec_place k)

abbrev pub rec_end : List ℤ → ℕ → ℕ
rec_end p k = num_at p (rec_place k + 1)

abbrev pub rec_energy : List ℤ → ℕ → ℕ
rec_energy p k = bias_of (get_or p (rec_place k + 2) (pos 0))

abbrev pub rec_type : List ℤ → ℕ → ℕ
rec_type p k = num_at p (rec_place k + 3)

abbrev pub rec_in_range : ℕ → ℕ → ℕ → Bool
rec_in_range end energy type = leb end 39999 && leb energy 2000000 && leb type 2

-- It starts on the first day that is not off, fits its kind and holds no off day.
unfoldable pub rec_at : List ℤ → ℕ → ℕ → ℕ → Bool
rec_at p m from k =
    rec_in_range (rec_end p k) (rec_energy p k) (rec_type p k)
    && fits_kind (num_at p kind_place) (rec_start p k) (rec_end p k)
    && eqb (rec_start p k) (first_on p m from) && no_off p m (rec_start p k) (rec_end p k)

-- The next record comes after its end.
abbrev pub rec_leaves : List ℤ → ℕ → ℕ → ℕ
rec_leaves p from k = suc (rec_end p k)

unfoldable pub recs_ok : List ℤ → ℕ → ℕ → Bool
recs_ok p m n = rows (rec_at p m) (rec_leaves p) (num_at p install_place) 0 n

-- ---- rows and days as the book has them

-- The days end with 40,000.
unfoldable pub day_if : ℕ → Option ℕ
day_if d = cond (ltb d 40001) (some d) none

abbrev pub reg_row : List ℤ → ℕ → ℕ × ℕ
reg_row p k = (reg_start p k, reg_user p k)

abbrev pub span_row : List ℤ → ℕ → ℕ × Option ℕ
span_row p k = (off_day p k, on_of (get_or p (off_place k + 1) (pos 0)))

abbrev pub rec_row : List ℤ → ℕ → Entry
rec_row p k =
    record { start = rec_start p k; end = rec_end p k; energy = get_or p (rec_place k + 2) (pos 0); type = rec_type p k }
