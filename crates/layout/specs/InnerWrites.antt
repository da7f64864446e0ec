-- What each row writer leaves in a point's part p, and an opening in the table: numbers set at places, nothing of lists.
use Rattle.std.specs.Prelude.{List, ◌++◌, ℕ, zero, suc, ◌+◌, ◌-◌, ◌*◌, ℤ, pos, negsuc, set, take, drop}
use Rattle.daybook.specs.declared.Edition.{Edition}
use Rattle.daybook.specs.declared.Facts.{Facts}
use Rattle.daybook.specs.Book.{Entry}
use Rattle.layout.specs.Places.{points_place, mirn_place, kind_place, install_place, base_place, reg_count, off_count, rec_count, pending_user, pending_first, pending_last, section_place, operator_place, reg_length, rec_length, reg_place, off_place, rec_place}
use Rattle.layout.specs.Layout.{stride, place_of, part_of}

-- The table with p for the numbers of point i.
unfoldable pub with_part : Edition → List ℤ → ℕ → List ℤ → List ℤ
with_part ed t i p = take (place_of ed i) t ++ (p ++ drop (place_of ed i + stride ed) t)

-- The places a to a + n - 1 set to 0.
unfoldable pub cleared : List ℤ → ℕ → ℕ → List ℤ
cleared t a zero = t
cleared t a (suc n) = set (cleared t a n) (a + n) (pos 0)

-- The four numbers of record j.
unfoldable pub put_record : List ℤ → ℕ → Entry → List ℤ
put_record p j x =
    set (set (set (set p (rec_place j) (pos x.start)) (rec_place j + 1) (pos x.end)) (rec_place j + 2) x.energy)
    (rec_place j + 3) (pos x.type)

-- Record n, and n + 1 records.
unfoldable pub append_record : List ℤ → ℕ → Entry → List ℤ
append_record p n x = set (put_record p n x) rec_count (pos (n + 1))

-- The records j to n - 1 are 0, and j records are left.
unfoldable pub cut_records : List ℤ → ℕ → ℕ → List ℤ
cut_records p j n = set (cleared p (rec_place j) (rec_length * (n - j))) rec_count (pos j)

-- Registration n, of User u from day d on, and n + 1 registrations.
unfoldable pub append_registration : List ℤ → ℕ → ℕ → ℕ → List ℤ
append_registration p n d u = set (set (set p (reg_place n) (pos d)) (reg_place n + 1) (pos u)) reg_count (pos (n + 1))

-- The registrations j to n - 1 are 0, and j registrations are left.
unfoldable pub cut_registrations : List ℤ → ℕ → ℕ → List ℤ
cut_registrations p j n = set (cleared p (reg_place j) (reg_length * (n - j))) reg_count (pos j)

-- Off span n from day d on, still off, and n + 1 spans.
unfoldable pub open_span : List ℤ → ℕ → ℕ → List ℤ
open_span p n d = set (set (set p (off_place n) (pos d)) (off_place n + 1) (negsuc 0)) off_count (pos (n + 1))

-- Day d is the on day of span k.
unfoldable pub close_span : List ℤ → ℕ → ℕ → List ℤ
close_span p k d = set p (off_place k + 1) (pos d)

unfoldable pub set_pending : List ℤ → ℕ → ℕ → ℕ → List ℤ
set_pending p user first last = set (set (set p pending_user (pos user)) pending_first (pos first)) pending_last (pos last)

abbrev pub clear_pending : List ℤ → List ℤ
clear_pending p = set_pending p 0 0 0

-- A point's facts, and its first registration, of User u from the install day on.
unfoldable pub open_point : List ℤ → Facts → ℕ → List ℤ
open_point p f u =
    append_registration
    (set (set (set (set (set (set p mirn_place (pos f.mirn)) kind_place (pos f.kind)) install_place (pos f.install))
    base_place (pos f.base)) section_place (pos f.section)) operator_place (pos f.operator)) 0 f.install u

-- Point n, and n + 1 points.
unfoldable pub append_point : Edition → List ℤ → ℕ → Facts → ℕ → List ℤ
append_point ed t n f u = set (with_part ed t n (open_point (part_of ed t n) f u)) points_place (pos (n + 1))
