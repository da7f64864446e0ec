-- What the code tests of a part as a whole: its records beside the next off span, its pending request, all its rows.
use Rattle.std.specs.Prelude.{Bool, not, ◌&&◌, ◌||◌, cond, List, ℕ, ◌-◌, leb, ltb, eqb, ℤ}
use Rattle.daybook.specs.Notices.{fits_kind}
use Rattle.layout.specs.Places.{reg_count, off_count, rec_count, pending_user, pending_first, pending_last}
use Rattle.layout.specs.Layout.{num_at, facts_at}
use Rattle.layout.specs.Sound.{facts_sound, counts_sound, unused_zero}
use Rattle.point.specs.InnerTests.{reg_user, regs_ok, off_day, spans_ok, rec_start, rec_end, rec_energy, rec_type, rec_in_range, recs_ok}

-- ---- records, read in one pass beside the off spans

-- The off day of span j; past the last of m a number above every day.
abbrev pub off_from : List ℤ → ℕ → ℕ → ℕ
off_from p m j = cond (ltb j m) (off_day p j) 18446744073709551615

abbrev pub rec_between : ℕ → ℕ → ℕ → ℕ → Bool
rec_between start end day off = eqb start day && ltb end off

-- Record k starts on this day, ends before this off day, fits its kind and has numbers within their bounds.
unfoldable pub rec_on : List ℤ → ℕ → ℕ → ℕ → ℕ → Bool
rec_on p kind k day off =
    rec_in_range (rec_end p k) (rec_energy p k) (rec_type p k) && rec_between (rec_start p k) (rec_end p k) day off
    && fits_kind kind day (rec_end p k)

-- ---- the pending request; without a User nothing more is asked here

unfoldable pub pending_ok : List ℤ → ℕ → Bool
pending_ok p n =
    let user : ℕ = num_at p pending_user in
    eqb user 0
    || leb user 16 && not (eqb (reg_user p (n - 1)) user) && leb (num_at p pending_first) (num_at p pending_last)
    && leb (num_at p pending_last) 39999 && leb n 7

-- ---- the whole part

unfoldable pub rows_ok : List ℤ → Bool
rows_ok p =
    regs_ok p (num_at p reg_count) && spans_ok p (num_at p off_count) && recs_ok p (num_at p off_count) (num_at p rec_count)
    && pending_ok p (num_at p reg_count)

unfoldable pub test_part : List ℤ → Bool
test_part p = counts_sound p && facts_sound (facts_at p) && unused_zero p && rows_ok p
