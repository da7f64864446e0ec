-- The places of the table (document 01, "The register table").
use Rattle.std.specs.Prelude.{ℕ, ◌+◌, ◌*◌}

-- ---- the header: how many points, the two ranges, the number of the edition (document 02, k); the places from
-- header_spare on are 0

abbrev pub points_place : ℕ
points_place = 0

abbrev pub nondaily_place : ℕ
nondaily_place = 1

abbrev pub daily_place : ℕ
daily_place = 2

abbrev pub edition_place : ℕ
edition_place = 3

abbrev pub header_spare : ℕ
header_spare = 4

abbrev pub header_length : ℕ
header_length = 8

-- ---- a point's part: its facts, how many rows it has of each kind, a pending request, its section and its operator
-- (document 02, a and g); the places from spare_place on are 0

abbrev pub mirn_place : ℕ
mirn_place = 0

abbrev pub kind_place : ℕ
kind_place = 1

abbrev pub install_place : ℕ
install_place = 2

abbrev pub base_place : ℕ
base_place = 3

abbrev pub reg_count : ℕ
reg_count = 4

abbrev pub off_count : ℕ
off_count = 5

abbrev pub rec_count : ℕ
rec_count = 6

abbrev pub pending_user : ℕ
pending_user = 7

abbrev pub pending_first : ℕ
pending_first = 8

abbrev pub pending_last : ℕ
pending_last = 9

-- The place past the request.
abbrev pub pending_end : ℕ
pending_end = 10

abbrev pub section_place : ℕ
section_place = 10

abbrev pub operator_place : ℕ
operator_place = 11

abbrev pub spare_place : ℕ
spare_place = 12

-- ---- then its rows: registrations (start, User), off spans (off day, on day), records (start, end, energy, type)

abbrev pub regs_place : ℕ
regs_place = 16

abbrev pub offs_place : ℕ
offs_place = 32

abbrev pub recs_place : ℕ
recs_place = 48

abbrev pub reg_length : ℕ
reg_length = 2

abbrev pub off_length : ℕ
off_length = 2

abbrev pub rec_length : ℕ
rec_length = 4

-- Where row k starts.
abbrev pub reg_place : ℕ → ℕ
reg_place k = regs_place + reg_length * k

abbrev pub off_place : ℕ → ℕ
off_place k = offs_place + off_length * k

abbrev pub rec_place : ℕ → ℕ
rec_place k = recs_place + rec_length * k
