-- Calls as a journal writes them, numbers in document 01's order, and what the day book answers to a list of them.
use mathlib.Core.Option.{none}
use mathlib.Core.List.{List, [], ◌∷◌, map, flatten}
use Rattle.std.specs.Prelude.{ℕ, ℤ, pos, negsuc, replicate}
use Rattle.numbers.specs.Rows.{all}
use Rattle.numbers.specs.Search.{first_from, last_below}
use Rattle.numbers.specs.Sums.{sum_from}
use Rattle.numbers.specs.Shares.{floor_part, ceil_part, partial_energy, share}
use Rattle.calendar.specs.Calendar.{allowable_period, business_day_before, business_day_after, listed, holiday_list}
use Rattle.daybook.specs.declared.Edition.{Edition}
use Rattle.daybook.specs.Book.{from_on, fill, with_entries, with_off, with_fro, with_pending, last_of, gather, record_at, records, begins, registration_at, registrations, latest, span_at, spans, last_filled, append_day, day_share}
use Rattle.daybook.specs.Notices.{least, Numbers, decide, find, put, with_point, on_point, fresh_rows, facts_of, opened, held, others_unfilled, opening_rows, opening, which, entry_of, energy_early, off_within, energy_rows, later_starts, entered, enter, energy_rows_at, energy, status_early, status_rows, switched, status, request_early, request_rows, request, withdraw_early, withdraw_rows, withdraw}
use Rattle.daybook.specs.Corrections.{corrected, fro_changed, affected, flags, correct_early, full, correct_rows, correct_rows_at, correct_at, correct}
use Rattle.daybook.specs.Queries.{sum_of, own_share, account_of, account_rows, account, some_filled, all_filled, daily_gas, metered_of, tdm_of, nsl_of, weight, weights, total, split, point_shares, total_of, allocate_rows, allocate}
use Rattle.daybook.specs.States.{image_length, first_row}
use Rattle.daybook.specs.Editions.{Editions, edition_no, largest, most_records, no_room, convert_rows}
use Rattle.daybook.specs.Trials.{notices_in, answers_to, books_on_the_way, trial_rows, trial}
use Rattle.daybook.specs.Calls.{open!, energy!, status!, request!, withdraw!, account!, allocate!, trial!, save!, restore!, Call, fresh!, notice!, query!, state!, convert!, Answer, noted, given, State, renewed, converted, stated, step, answers}

-- in an edition
abbrev pub FreshIn : ℤ → ℤ → ℤ → Call
FreshIn e r s = fresh! (record { nondaily = r; daily = s; edition = e })

-- in the standard edition
abbrev pub Fresh : ℤ → ℤ → Call
Fresh r s = FreshIn (pos 0) r s

-- lent a second table of so many numbers
abbrev pub Convert : ℕ → Call
Convert n = convert! (replicate n (pos 0))

-- in a section, by an operator
abbrev pub OpenAs : ℤ → ℤ → ℕ → ℕ → ℕ → ℕ → ℤ → Call
OpenAs c o m k u i b =
    notice! (open! (record { mirn = pos m; kind = pos k; user = pos u; install = pos i; base = b; section = c; operator = o }))

-- in a section, by operator 1
abbrev pub OpenIn : ℤ → ℕ → ℕ → ℕ → ℕ → ℤ → Call
OpenIn c m k u i b = OpenAs c (pos 1) m k u i b

-- by an operator, in section 0: a daily point of User 1, from day 0 on
abbrev pub OpenBy : ℤ → ℕ → Call
OpenBy o m = OpenAs (pos 0) o m 1 1 0 (negsuc 0)

-- in section 0, by operator 1
abbrev pub Open : ℕ → ℕ → ℕ → ℕ → ℤ → Call
Open m k u i b = OpenIn (pos 0) m k u i b

-- of a type, not confirmed
abbrev pub Read : ℕ → ℕ → ℕ → ℕ → ℤ → Call
Read y m s e x =
    notice! (energy! (record { mirn = pos m; start = pos s; end = pos e; energy = x; type_ = pos y; confirmed = pos 0 }))

-- an actual reading
abbrev pub Energy : ℕ → ℕ → ℕ → ℤ → Call
Energy m s e x = Read 0 m s e x

abbrev pub Status : ℕ → ℕ → ℕ → Call
Status m d on = notice! (status! (record { mirn = pos m; day = pos d; on = pos on }))

-- without a no-change statement; an empty list means weekends only
abbrev pub Request : ℕ → ℕ → ℕ → List ℤ → Call
Request m u d holidays =
    notice! (request! (record { mirn = pos m; user = pos u; proposed = pos d; nochange = pos 0 }) holidays)

abbrev pub Withdraw : ℕ → ℕ → Call
Withdraw m u = notice! (withdraw! (record { mirn = pos m; user = pos u }))

abbrev pub Account : ℕ → ℕ → ℕ → Call
Account u a b = query! (account! (record { user = pos u; from = pos a; to = pos b }))

-- with no unaccounted gas or linepack change, and an answer table of 32 numbers
abbrev pub Allocate : ℕ → ℕ → ℕ → ℕ → Call
Allocate g a b tdq =
    query! (allocate! (record { gasday = pos g; from = pos a; to = pos b; tdq = pos tdq; uag = pos 0; clp = pos 0 }) 32)

-- so many of these notices' numbers, with an answer table of `room` numbers
abbrev pub Trial : ℤ → List (List ℤ) → ℕ → Call
Trial count notices room = query! (trial! count (flatten notices) room)

-- lent all bytes of an image
abbrev pub Save : ℤ → Call
Save n = state! (save! n image_length)

abbrev pub Restore : ℤ → Call
Restore n = state! (restore! n image_length)

abbrev numbers : List Answer → List Numbers
numbers [] = []
numbers (a ∷ l) = a.0 ∷ numbers l

-- Each call's answer, and its numbers for an answer table. To unfold this definition is to unfold the whole day book.
unfoldable pub replies_from : Editions → State → List Call → List Answer
unfolding all first_from last_below sum_from floor_part ceil_part partial_energy share allowable_period business_day_before business_day_after listed holiday_list from_on fill with_entries with_off with_fro with_pending last_of gather record_at records begins registration_at registrations latest span_at spans last_filled append_day day_share least decide find put with_point on_point fresh_rows facts_of opened held others_unfilled opening_rows opening which entry_of energy_early off_within energy_rows later_starts entered enter energy_rows_at energy status_early status_rows switched status request_early request_rows request withdraw_early withdraw_rows withdraw corrected fro_changed affected flags correct_early full correct_rows correct_rows_at correct_at correct sum_of own_share account_of account_rows account some_filled all_filled daily_gas metered_of tdm_of nsl_of weight weights total split point_shares total_of allocate_rows allocate first_row edition_no largest most_records no_room convert_rows notices_in answers_to books_on_the_way trial_rows trial flatten noted given renewed converted stated step answers
replies_from E S calls = answers E calls S

-- Each call's numbers, the refusal first.
abbrev pub answers_from : Editions → State → List Call → List Numbers
answers_from E S calls = numbers (replies_from E S calls)

-- From nothing: what stands in the book before fresh does not matter, and nothing is saved.
abbrev nothing : Editions → State
nothing E =
    record {
      edition = E.standard;
      book = record { nondaily = pos 0; daily = pos 0; points = [] };
      saved = λ n. none;
    }

abbrev pub replies_in : Editions → List Call → List Answer
replies_in E calls = replies_from E (nothing E) calls

abbrev pub answers_in : Editions → List Call → List Numbers
answers_in E calls = answers_from E (nothing E) calls

-- Where there is one edition, which fresh names by 0.
abbrev pub alone : Edition → Editions
alone ed = record { standard = ed; long = ed }

abbrev pub answers_of : Edition → List Call → List Numbers
answers_of ed calls = answers_in (alone ed) calls

-- So many points, records of each and points reserved, by the number 0.
abbrev pub sized : ℕ → ℕ → ℕ → Edition
sized points records reserve = record { number = 0; points = points; records = records; reserve = reserve }

-- answers of numbers that are not negative
abbrev pub naturals : List (List ℕ) → List Numbers
naturals l = map (map pos) l
