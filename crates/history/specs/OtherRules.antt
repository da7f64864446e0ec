-- Calls by another rule of what a pending request comes to. A request of document 02 that changed the rule has a
-- theorem which compares calls by the rule as it was with calls as they are.
use mathlib.Core.Option.{Option}
use Rattle.std.specs.Prelude.{List, [], ℕ, ℤ}
use Rattle.daybook.specs.declared.Edition.{Edition}
use Rattle.daybook.specs.declared.EnergyNotice.{EnergyNotice}
use Rattle.daybook.specs.Book.{Entry, Pending, Point, Book, latest}
use Rattle.daybook.specs.Notices.{Numbers, on_point, Which, which, entry_of, energy_early, energy_rows_at, Outcome, entered}
use Rattle.daybook.specs.Calls.{Notice, open!, energy!, status!, request!, withdraw!, correct!, Call, fresh!, notice!, query!, state!, convert!, Answer}
use Rattle.daybook.specs.Editions.{Editions}
use Rattle.layout.specs.Calls.{on_table}
use Rattle.history.specs.Runs.{Lent, notice_call, with_table, lent_step}

-- By which of the three the notice is, the point's section, the entry, the latest registration's start and the request:
-- `outcome_of` is today's.
abbrev pub Rule : Type 0
Rule = Which → ℕ → Entry → ℕ → Option Pending → Outcome

-- All else of an energy notice is as it is now, and so is every other call.
unfoldable pub enter_by : Rule → Entry → Point → Numbers × Point
enter_by rule x p =
    let w : Which = which p x in entered x w (rule w p.facts.section x (latest p).0 p.pending) p

unfoldable pub energy_by : Rule → Edition → EnergyNotice → Book → Numbers × Book
energy_by rule ed n B = on_point 4 n.mirn (energy_early n) (energy_rows_at ed n B) (enter_by rule (entry_of n)) B

unfoldable pub energy_call_by : Editions → Rule → List ℤ → EnergyNotice → Numbers × List ℤ
energy_call_by E rule t n = on_table E 4 (λ ed. energy_by rule ed n) t

unfoldable pub notice_call_by : Editions → Rule → Notice → List ℤ → Numbers × List ℤ
notice_call_by E rule (open! n) t = notice_call E (open! n) t
notice_call_by E rule (energy! n) t = energy_call_by E rule t n
notice_call_by E rule (status! n) t = notice_call E (status! n) t
notice_call_by E rule (request! n holidays) t = notice_call E (request! n holidays) t
notice_call_by E rule (withdraw! n) t = notice_call E (withdraw! n) t
notice_call_by E rule (correct! n) t = notice_call E (correct! n) t

unfoldable pub lent_step_by : Editions → Rule → Call → Lent → Answer × Lent
lent_step_by E rule (fresh! n) L = lent_step E (fresh! n) L
lent_step_by E rule (notice! c) L =
    let w : Numbers × List ℤ = notice_call_by E rule c L.table in ((w.0, []), with_table L w.1)
lent_step_by E rule (query! q) L = lent_step E (query! q) L
lent_step_by E rule (state! c) L = lent_step E (state! c) L
lent_step_by E rule (convert! second) L = lent_step E (convert! second) L
