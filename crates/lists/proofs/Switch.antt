-- What a status notice does to a point's spans and records, off or on.
use mathlib.Core.Path.{◌≡◌}
use mathlib.Core.Bool.{Bool, true, false, ◌&&◌, ◌||◌, cond}
use mathlib.Core.Option.{Option, none}
use mathlib.Core.List.{List, [], ◌∷◌, ◌++◌}
use Prim.Native.Nat.{ℕ, zero, suc, ◌≤◌}
use native.Mathlib.Omega.{arith}
use lib.Dec.{leb, ltb, eqb}
use lib.ListN.{length, length-append}
use borrow.Author.Tests.{leb-false, ltb-false}
use Rattle.numbers.specs.Search.{maybe}
use Rattle.numbers.proofs.Bools.{neither}
use Rattle.daybook.specs.Book.{Entry, from_on, last_of}
use Rattle.daybook.specs.Notices.{cannot_off, cannot_on}
use Rattle.lists.specs.Lists.{off_on}
use Rattle.lists.specs.InnerSteps.{last_end, closed, offs_after}
use Rattle.lists.specs.InnerWell.{Spans, Recs}
use Rattle.lists.proofs.Spans.{Span}
use Rattle.lists.proofs.SpanSteps.{off_after, on_after, spans_off, spans_on, recs_off, recs_on, length_closed}

-- A notice that row 14 does not send back: off (0) after the last on day and the last filled day, from install on, or
-- on (1) after the off day.
pub data MaySwitch (day install : ℕ) (l : List Span) (last_filled : Option ℕ) : ℕ → Type 0 where
  may_off :
      cannot_off day (last_of l) ≡ false → maybe false (leb day) last_filled ≡ false → install ≤ day
      → MaySwitch day install l last_filled 0
  may_on : cannot_on day (last_of l) ≡ false → MaySwitch day install l last_filled 1

pub may_switch_lem : (day on install : ℕ) (last_filled : Option ℕ) (l : List Span) → on ≤ 1
    → cond (eqb on 1) (cannot_on day (last_of l)) (cannot_off day (last_of l) || maybe false (leb day) last_filled || ltb day install) ≡ false
    → MaySwitch day install l last_filled on
may_switch_lem day zero install last_filled l h e =
    let a : (cannot_off day (last_of l) || maybe false (leb day) last_filled ≡ false) × (ltb day install ≡ false) = neither _ _ e in
    let b : (cannot_off day (last_of l) ≡ false) × (maybe false (leb day) last_filled ≡ false) = neither _ _ a.0 in
    may_off b.0 b.1 (ltb-false day install a.1)
may_switch_lem day (suc zero) install last_filled l h e = may_on e
may_switch_lem day (suc (suc on)) install last_filled l h e = absurd (omega arith)

-- the off days after it are the book's
pub offs_after_days : {day install lo on : ℕ} {o : Option ℕ} {l : List Span} → Spans lo l
    → MaySwitch day install l o on → off_on (offs_after day on l) ≡ from_on day (eqb on 0) (off_on l)
unfolding offs_after
offs_after_days {day} {l = l} r (may_off e f h) = off_after l day
offs_after_days {day} r (may_on e) = on_after r day e

-- the spans stay well-formed
pub offs_after_spans : {day install on : ℕ} {o : Option ℕ} {l : List Span} → Spans install l → day ≤ 39999
    → MaySwitch day install l o on → Spans install (offs_after day on l)
unfolding offs_after
offs_after_spans {day} r k (may_off e f h) = spans_off r day h k e
offs_after_spans {day} r k (may_on e) = spans_on r day k e

-- and so do the records beside them
pub offs_after_recs : {kind from day install lo on : ℕ} {l : List Span} {rs : List Entry} → Recs kind l from rs
    → Spans lo l → MaySwitch day install l (last_end rs) on → Recs kind (offs_after day on l) from rs
unfolding offs_after
offs_after_recs {day = day} rs r (may_off e f h) = recs_off rs day f
offs_after_recs {day = day} rs r (may_on e) = recs_on rs r day e

-- a notice that row 16 does not send back leaves at most `room` spans
pub offs_after_few : (day on room : ℕ) (l : List Span) → length l ≤ room → (eqb on 0 && leb room (length l)) ≡ false
    → length (offs_after day on l) ≤ room
unfolding offs_after
offs_after_few day on room l h = go (eqb on 0)
  where
    go : (t : Bool) → (t && leb room (length l)) ≡ false
        → length (cond t (l ++ ((day, none) ∷ [])) (closed day l)) ≤ room
    go true e = simp length-append (omega (arith, leb-false room (length l) e))
    go false e = omega (arith, length_closed day l)
