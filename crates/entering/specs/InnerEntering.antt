-- What the functions of this crate say of a notice's numbers and of its point's part.
use Rattle.std.specs.Prelude.{◌≡◌, Bool, true, ◌&&◌, cond, List, [], ◌∷◌, ℕ, suc, ◌≤◌, eqb, ℤ, pos, negsuc}
use Rattle.numbers.specs.Naturals.{nat_of}
use Rattle.numbers.specs.InnerEnergies.{bias_of, energy_of}
use Rattle.calendar.specs.Calendar.{within, is_day}
use Rattle.daybook.specs.declared.EnergyNotice.{EnergyNotice}
use Rattle.daybook.specs.declared.Settlement.{Settlement}
use Rattle.daybook.specs.declared.Settlement.TheVariants.{Registered, Lapsed, Unsettled}
use Rattle.daybook.specs.Book.{Entry}
use Rattle.daybook.specs.Notices.{is_mirn, is_flag, Which, append, replacement, recut, later_starts, Outcome, registers, lapses, stays, outcome_of}
use Rattle.lists.specs.Lists.{Lists}
use Rattle.lists.specs.InnerSteps.{latest_of, which_in, recs_after, regs_after, pending_after}
use Rattle.layout.specs.Layout.{point_numbers, point_from}
use Rattle.layout.specs.Sound.{with_recs}
use Rattle.layout.specs.InnerParts.{room_of}
use Rattle.rows.specs.InnerRows.{record_of}
use Rattle.entering.specs.declared.RaisedNotice.{RaisedNotice}
use Rattle.entering.specs.declared.Kept.{Kept}
use Rattle.entering.specs.declared.Kept.TheVariants.{Appended, Replaced, Recut}

-- ---- a notice's numbers as naturals

-- Row 2.
abbrev pub in_range : EnergyNotice → Bool
in_range n =
    is_mirn n.mirn && is_day n.start && is_day n.end && within (negsuc 999999) (pos 1000000) n.energy
    && within (pos 0) (pos 2) n.type_ && is_flag n.confirmed

-- Its energy is raised by 1,000,000.
abbrev pub raised_notice : EnergyNotice → RaisedNotice
raised_notice n =
    record {
      mirn = nat_of n.mirn;
      entry = record {
        start = nat_of n.start;
        end = nat_of n.end;
        energy = bias_of n.energy;
        type_ = nat_of n.type_;
      };
      confirmed = nat_of n.confirmed;
    }

-- And back.
abbrev pub notice_of : RaisedNotice → EnergyNotice
notice_of x =
    record {
      mirn = pos x.mirn;
      start = pos x.entry.start;
      end = pos x.entry.end;
      energy = energy_of x.entry.energy;
      type_ = pos x.entry.type_;
      confirmed = pos x.confirmed;
    }

-- What it enters on each of its days.
abbrev pub entry_from : RaisedNotice → Entry
entry_from x = record_of x.entry

-- A notice that row 2 lets through, with its bounds for arithmetic.
pub record InRange (x : RaisedNotice) : Type 0 where
  pub tested : in_range (notice_of x) ≡ true
  pub start_ok : x.entry.start ≤ 39999
  pub end_ok : x.entry.end ≤ 39999
  pub energy_ok : x.entry.energy ≤ 2000000
  pub type_ok : x.entry.type_ ≤ 2

-- ---- the part of a point

-- The index of the record that starts on day d, how many there are if none does.
unfoldable pub row_in : List Entry → ℕ → ℕ
row_in [] d = 0
row_in (x ∷ l) d = cond (eqb x.start d) 0 (suc (row_in l d))

-- ---- the part after the notice

-- The entry goes onto the records.
abbrev pub recorded : Entry → Lists → Lists
recorded x q = with_recs (recs_after (which_in q x) x q.recs) q

-- What is said of it: which of the three it was, and of a recut how many records it removed.
abbrev pub kept_of : Which → ℕ → List Entry → Kept
kept_of append start l = Appended
kept_of replacement start l = Replaced
kept_of recut start l = Recut (later_starts start l)

pub record Recorded (p : List ℤ) (x : RaisedNotice) (k : Kept) (p' : List ℤ) : Type 0 where
  pub kept_is : k ≡ kept_of (which_in (point_from p) (entry_from x)) x.entry.start (point_from p).recs
  pub part_is : p' ≡ point_numbers (room_of p) (recorded (entry_from x) (point_from p))

-- What the pending request comes to by an append.
abbrev pub outcome_at : RaisedNotice → Lists → Outcome
outcome_at x q = outcome_of append q.facts.section (entry_from x) (latest_of q.regs).0 q.pending

abbrev pub settled_lists : Outcome → ℕ → Lists → Lists
settled_lists o end q =
    record {
      facts = q.facts;
      regs = regs_after o end q.regs;
      offs = q.offs;
      recs = q.recs;
      pending = pending_after o q.pending;
    }

-- What is said of it.
abbrev pub settlement_of : Outcome → Settlement
settlement_of (registers user) = Registered user
settlement_of lapses = Lapsed
settlement_of stays = Unsettled

pub record SettledTo (p : List ℤ) (x : RaisedNotice) (s : Settlement) (p' : List ℤ) : Type 0 where
  pub settlement_is : s ≡ settlement_of (outcome_at x (point_from p))
  pub part_is : p' ≡ point_numbers (room_of p) (settled_lists (outcome_at x (point_from p)) x.entry.end (point_from p))
