-- Document 02, c: only an append registers a User or lets a request lapse. What became of the answers, from any register.
use Rattle.std.specs.Prelude.{◌≡◌, Bool, true, false, not, ◌&&◌, ◌||◌, List, [], ◌∷◌, ◌++◌, ℤ, pos, get_or, take}
use mathlib.Core.Option.{Option, none, some}
use Rattle.numbers.specs.Naturals.{nat_of, same_z}
use Rattle.numbers.specs.Search.{maybe}
use Rattle.daybook.specs.declared.Edition.{Edition}
use Rattle.daybook.specs.declared.EnergyNotice.{EnergyNotice}
use Rattle.daybook.specs.Book.{Entry, Pending, Point, fill, with_entries}
use Rattle.daybook.specs.Notices.{Numbers, find, with_point, append, which, entry_of, kept, outcome_of, energy}
use Rattle.daybook.specs.Calls.{energy!, Call, notice!, Answer}
use Rattle.daybook.specs.Editions.{Editions}
use Rattle.layout.specs.Layout.{edition_in, table_book}
use Rattle.layout.specs.Sound.{sound}
use Rattle.energy.specs.Energy.{energy_call}
use Rattle.history.specs.Runs.{Lent, lent_step}
use Rattle.history.specs.OtherRules.{Rule, energy_call_by, lent_step_by}

-- ---- as it was before

-- Whichever of the three the notice was, the request came to what it comes to by an append.
abbrev pub any_settles : Rule
any_settles w section x latestStart o = outcome_of append section x latestStart o

abbrev pub energy_call_before : Editions → List ℤ → EnergyNotice → Numbers × List ℤ
energy_call_before E = energy_call_by E any_settles

abbrev pub lent_step_before : Editions → Call → Lent → Answer × Lent
lent_step_before E = lent_step_by E any_settles

-- ---- what changed

-- Is it the answer of a replacement or recut which named a registered User or a lapsed request?
abbrev pub named : Numbers → Bool
named l =
    let w : ℤ = get_or l 1 (pos 0) in
    (same_z w (pos 2) || same_z w (pos 3)) && not (same_z (get_or l 3 (pos 0)) (pos 0) && same_z (get_or l 4 (pos 0)) (pos 0))

-- The request pending on the point of a MIRN.
abbrev pub pending_in : Edition → List ℤ → ℤ → Option Pending
pending_in ed t m = maybe none (λ p. p.pending) (find (nat_of m) (table_book ed t).points)

-- The point with its record corrected, and nothing else.
abbrev pub corrected_point : Entry → Point → Point
corrected_point x p = with_entries (fill x (kept (which p x) x.start p.entry)) p

-- Of a table t in its edition, one of E.
pub record CorrectsAlone (E : Editions) (ed : Edition) (t : List ℤ) (n : EnergyNotice) : Type 0 where
  -- Both fields are 0 now; the others are as they were.
  pub answer : (energy_call E t n).0 ≡ take 3 (energy_call_before E t n).0 ++ (pos 0 ∷ pos 0 ∷ [])
  -- The request is still pending.
  pub request : Pending
  pub pending : pending_in ed t n.mirn ≡ some request
  pub still_pending : pending_in ed (energy_call E t n).1 n.mirn ≡ some request
  -- The day book follows: its record is corrected, all else is as it was, and the table left stands for that book.
  pub point : Point
  pub found : find (nat_of n.mirn) (table_book ed t).points ≡ some point
  pub day_book :
      (energy ed n (table_book ed t)).1
      ≡ with_point (nat_of n.mirn) (corrected_point (entry_of n) point) (table_book ed t)
  pub is_sound : sound ed (energy_call E t n).1 ≡ true
  pub follows : table_book ed (energy_call E t n).1 ≡ (energy ed n (table_book ed t)).1

-- From the same register, the only answers that change are those to replacements and recuts which named a registered
-- User or a lapsed request; both fields are 0 there now, the request is still pending, and the day book follows.
pub record OnlyAppendsSettle (E : Editions) : Type 0 where
  pub as_before :
      (L : Lent) (c : Call)
      → ((n : EnergyNotice) → c ≡ notice! (energy! n) → named (energy_call_before E L.table n).0 ≡ false)
      → lent_step E c L ≡ lent_step_before E c L
  pub alone :
      (t : List ℤ) (n : EnergyNotice) → named (energy_call_before E t n).0 ≡ true → CorrectsAlone E (edition_in E t) t n
