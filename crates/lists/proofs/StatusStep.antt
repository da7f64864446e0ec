-- status: on the book's days it is the step on the lists, and it keeps the register well-formed.
use mathlib.Core.Path.{◌≡◌, refl, ap₂}
use mathlib.Core.Bool.{false, ◌&&◌}
use mathlib.Core.Option.{Option}
use mathlib.Core.List.{List, [], ◌++◌}
use Prim.Native.Nat.{ℕ, ◌≤◌}
use lib.Dec.{leb, eqb}
use lib.ListN.{length}
use Rattle.numbers.specs.Naturals.{nat_of}
use Rattle.numbers.proofs.Bools.{both}
use Rattle.daybook.specs.declared.StatusNotice.{StatusNotice}
use Rattle.daybook.specs.declared.Edition.{Edition}
use Rattle.daybook.specs.Book.{Point, with_off, spans, last_filled}
use Rattle.daybook.specs.Notices.{Row, least, Numbers, status_early, status_rows, switched, status}
use Rattle.lists.specs.Lists.{Lists, Register, point_of, book_of}
use Rattle.lists.specs.InnerSteps.{last_end, offs_after, with_offs, status_lists}
use Rattle.lists.specs.InnerWell.{Well, WellFormed}
use Rattle.lists.proofs.Rows.{least_none}
use Rattle.lists.proofs.Records.{last_filled_is}
use Rattle.lists.proofs.Spans.{Span, point_spans}
use Rattle.lists.proofs.Switch.{MaySwitch, may_switch_lem, offs_after_days, offs_after_spans, offs_after_recs, offs_after_few}
use Rattle.lists.proofs.Points.{on_lists_lem, on_lists_keeps}
use Rattle.lists.proofs.Bounds.{within_bounds, both_hold}

-- What holds of a notice that isn't sent back, by its point's install day, last filled day and spans.
pub record StatusClear (n : StatusNotice) (install : ℕ) (last_filled : Option ℕ) (l : List Span) : Type 0 where
  pub mirn_low : 1 ≤ nat_of n.mirn
  pub mirn_high : nat_of n.mirn ≤ 9999999999
  pub day_ok : nat_of n.day ≤ 39999
  pub on_ok : nat_of n.on ≤ 1
  pub may_switch : MaySwitch (nat_of n.day) install l last_filled (nat_of n.on)
  pub room : (eqb (nat_of n.on) 0 && leb 8 (length l)) ≡ false

pub status_clear : (n : StatusNotice) (install : ℕ) (last_filled : Option ℕ) (l : List Span)
    → least (status_early n ++ status_rows (nat_of n.day) (nat_of n.on) install last_filled l) ≡ 0
    → StatusClear n install last_filled l
unfolding status_early status_rows
status_clear n install last_filled l z =
    let two = least_none 1 _ _ z in
    let fourteen = least_none 13 _ _ two.1 in
    let sixteen = least_none 15 _ [] fourteen.1 in
    let on = both_hold _ _ two.0 in
    let day = both _ _ on.0 in
    let m = within_bounds 1 9999999999 n.mirn day.0 in
    let flag : nat_of n.on ≤ 1 = (within_bounds 0 1 n.on on.1).1 in
    record {
      mirn_low = m.0;
      mirn_high = m.1;
      day_ok = (within_bounds 0 39999 n.day day.1).1;
      on_ok = flag;
      may_switch = may_switch_lem (nat_of n.day) (nat_of n.on) install last_filled l flag fourteen.0;
      room = sixteen.0;
    }

-- ---- on a point's lists

-- The rows, and the effect where none of them applies.
abbrev rows_of : StatusNotice → Lists → List Row
rows_of n q = status_rows (nat_of n.day) (nat_of n.on) q.facts.install (last_end q.recs) q.offs

abbrev effect_of : StatusNotice → Lists → Numbers × Lists
effect_of n q = ([], with_offs (offs_after (nat_of n.day) (nat_of n.on) q.offs) q)

module _ (n : StatusNotice) {room : ℕ} (q : Lists) (w : Well room q) where
  -- what holds of a notice that isn't sent back
  clear_of : least (status_early n ++ rows_of n q) ≡ 0 → StatusClear n q.facts.install (last_end q.recs) q.offs
  clear_of z = status_clear n q.facts.install (last_end q.recs) q.offs z

  -- the book's rows of the days are the rows of the lists
  rows_is : status_rows (nat_of n.day) (nat_of n.on) (point_of q).facts.install (last_filled (point_of q))
      (spans (point_of q)) ≡ rows_of n q
  rows_is =
      unfold point_of in
      ap₂ (status_rows (nat_of n.day) (nat_of n.on) q.facts.install) (last_filled_is w) (point_spans w)

  -- where none applies, the effect on the days is the effect on the lists
  effect_is : least (status_early n ++ rows_of n q) ≡ 0
      → ◌≡◌ {A = Numbers × Point} ([], switched (nat_of n.day) (nat_of n.on) (point_of q)) ([], point_of (effect_of n q).1)
  unfolding switched with_off with_offs point_of
  effect_is z = rw (offs_after_days w.offs_ok (clear_of z).may_switch)

  -- the effect leaves the point well-formed, and its MIRN as it was
  effect_keeps : least (status_early n ++ rows_of n q) ≡ 0
      → Well room (effect_of n q).1 × ((effect_of n q).1.facts.mirn ≡ q.facts.mirn)
  unfolding with_offs
  effect_keeps z =
      let clear = clear_of z in
      let well : Well room (effect_of n q).1 = record {
        facts_ok = w.facts_ok;
        regs_ok = w.regs_ok;
        regs_start = w.regs_start;
        regs_few = w.regs_few;
        offs_ok = offs_after_spans w.offs_ok clear.day_ok clear.may_switch;
        offs_few = offs_after_few (nat_of n.day) (nat_of n.on) 8 q.offs w.offs_few clear.room;
        recs_ok = offs_after_recs w.recs_ok w.offs_ok clear.may_switch;
        recs_few = w.recs_few;
        pending_ok = w.pending_ok;
      } in
      (well, refl)

-- ---- on the register

-- status on the days is status on the lists.
pub status_step : {ed : Edition} (n : StatusNotice) (R : Register) → WellFormed ed R
    → status n (book_of R) ≡ ((status_lists n R).0, book_of (status_lists n R).1)
unfolding status status_lists
status_step n R ok =
    on_lists_lem 0 n.mirn (status_early n) _ (rows_of n) _ (effect_of n) (rows_is n) (effect_is n) R ok.points_ok

-- status keeps a register well-formed.
pub status_keeps : {ed : Edition} (n : StatusNotice) {R : Register} → WellFormed ed R → WellFormed ed (status_lists n R).1
unfolding status_lists
status_keeps n ok = on_lists_keeps 0 n.mirn (status_early n) (rows_of n) (effect_of n) (effect_keeps n) ok
