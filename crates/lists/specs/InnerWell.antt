-- Well-formed lists: document 01's sentence on a sound register, said of a point's lists. Every step keeps it.
use Rattle.std.specs.Prelude.{◌≡◌, true, false, List, [], ◌∷◌, ℕ, suc, ◌≤◌, ◌<◌, eqb, length, pos, negsuc}
use mathlib.Core.Option.{Option, none, some}
use Rattle.calendar.specs.Calendar.{within}
use Rattle.daybook.specs.declared.Edition.{Edition}
use Rattle.daybook.specs.declared.Facts.{Facts}
use Rattle.daybook.specs.Book.{Entry, Pending}
use Rattle.daybook.specs.Notices.{fits_kind, is_range, append}
use Rattle.lists.specs.Lists.{Lists, Register, off_on}
use Rattle.lists.specs.InnerSteps.{latest_of, skip, find_lists, which_in, append_day_of, some_overlap}

-- Registrations from day lo on, after User u: they ascend strictly, a start may be 40,000, and neighbours differ in User.
pub data Regs : ℕ → ℕ → List (ℕ × ℕ) → Type 0 where
  noreg : {u lo : ℕ} → Regs u lo []
  reg :
      {u lo : ℕ} {x : ℕ × ℕ} {l : List (ℕ × ℕ)} → lo ≤ x.0 → x.0 ≤ 40000 → 1 ≤ x.1 → x.1 ≤ 16 → eqb u x.1 ≡ false
      → Regs x.1 (suc x.0) l → Regs u lo (x ∷ l)

-- The first registration starts on the install day.
pub data StartsOn (install : ℕ) : List (ℕ × ℕ) → Type 0 where
  starts : {x : ℕ × ℕ} {l : List (ℕ × ℕ)} → x.0 ≡ install → StartsOn install (x ∷ l)

-- Spans from day lo on: each ends after it begins, the next begins after that on day, only the last is open.
pub data Spans : ℕ → List (ℕ × Option ℕ) → Type 0 where
  nospan : {lo : ℕ} → Spans lo []
  still : {lo off : ℕ} → lo ≤ off → off ≤ 39999 → Spans lo ((off, none) ∷ [])
  ended :
      {lo off on : ℕ} {l : List (ℕ × Option ℕ)} → lo ≤ off → off < on → on ≤ 39999 → Spans (suc on) l
      → Spans lo ((off, some on) ∷ l)

-- Records of a kind, beside the off spans: each starts by the append rule, on the first day from `from` on that is not
-- off, fits its kind and holds no off day.
pub data Recs (kind : ℕ) (offs : List (ℕ × Option ℕ)) : ℕ → List Entry → Type 0 where
  norec : {from : ℕ} → Recs kind offs from []
  rec :
      {from : ℕ} {x : Entry} {l : List Entry} → skip offs from ≡ some x.start
      → fits_kind kind x.start x.end ≡ true
      → x.end ≤ 39999 → within (negsuc 999999) (pos 1000000) x.energy ≡ true → x.type ≤ 2
      → ((d : ℕ) → x.start ≤ d → d ≤ x.end → off_on offs d ≡ false)
      → Recs kind offs (suc x.end) l → Recs kind offs from (x ∷ l)

-- A pending User isn't the latest, first ≤ last, both are days, and registrations are at most 7.
pub data PendingOk (regs : List (ℕ × ℕ)) : Option Pending → Type 0 where
  nopending : PendingOk regs none
  pending :
      {q : Pending} → 1 ≤ q.user → q.user ≤ 16 → eqb (latest_of regs).1 q.user ≡ false → q.first ≤ q.last
      → q.last ≤ 39999
      → length regs ≤ 7 → PendingOk regs (some q)

pub record FactsOk (f : Facts) : Type 0 where
  pub mirn_low : 1 ≤ f.mirn
  pub mirn_high : f.mirn ≤ 9999999999
  pub kind_ok : f.kind ≤ 1
  pub install_ok : f.install ≤ 39999
  pub base_ok : f.base ≤ 10000
  pub section_ok : f.section ≤ 1
  pub operator_ok : f.operator ≤ 4

-- A point of at most `room` records.
pub record Well (room : ℕ) (q : Lists) : Type 0 where
  pub facts_ok : FactsOk q.facts
  pub regs_ok : Regs 0 q.facts.install q.regs
  pub regs_start : StartsOn q.facts.install q.regs
  pub regs_few : length q.regs ≤ 8
  pub offs_ok : Spans q.facts.install q.offs
  pub offs_few : length q.offs ≤ 8
  pub recs_ok : Recs q.facts.kind q.offs q.facts.install q.recs
  pub recs_few : length q.recs ≤ room
  pub pending_ok : PendingOk q.regs q.pending

-- Points of which no two have one MIRN.
pub data Points (room : ℕ) : List Lists → Type 0 where
  nopoint : Points room []
  point :
      {q : Lists} {qs : List Lists} → Well room q → find_lists q.facts.mirn qs ≡ none → Points room qs
      → Points room (q ∷ qs)

pub record WellFormed (ed : Edition) (R : Register) : Type 0 where
  pub nondaily_ok : is_range R.nondaily ≡ true
  pub daily_ok : is_range R.daily ≡ true
  pub points_few : length R.points ≤ ed.points
  pub points_ok : Points ed.records R.points

-- An entry that may go onto the point: its numbers are in range, it fits the kind and holds no off day; an append starts
-- on the append day and finds room.
pub record MayEnter (room : ℕ) (x : Entry) (q : Lists) : Type 0 where
  pub end_ok : x.end ≤ 39999
  pub energy_ok : within (negsuc 999999) (pos 1000000) x.energy ≡ true
  pub type_ok : x.type ≤ 2
  pub fits : fits_kind q.facts.kind x.start x.end ≡ true
  pub on : some_overlap x.start x.end q.offs ≡ false
  pub next : which_in q x ≡ append → append_day_of q ≡ some x.start
  pub more : which_in q x ≡ append → length q.recs < room
