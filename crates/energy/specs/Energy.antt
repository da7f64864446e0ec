-- What energy answers, and what it leaves of the lent table.
use Rattle.std.specs.Prelude.{Bool, true, leb, Result, Ok, Err, List, ℤ}
use Rattle.refusals.specs.declared.Refusal.{Refusal}
use Rattle.daybook.specs.declared.Settlement.TheVariants.{Registered, Lapsed, Unsettled}
use Rattle.daybook.specs.declared.EnergyEntry.{EnergyEntry}
use Rattle.daybook.specs.declared.EnergyEntry.TheVariants.{Append, Replacement, Recut}
use Rattle.daybook.specs.declared.EnergyNotice.{EnergyNotice}
use Rattle.daybook.specs.Notices.{Numbers, energy}
use Rattle.daybook.specs.Editions.{Editions}
use Rattle.layout.specs.Calls.{on_table}

-- Four fields: which of the three it is, how many records it removes, the User it registers, whether the request lapses.
unfoldable pub energy_call : Editions → List ℤ → EnergyNotice → Numbers × List ℤ
energy_call E t n = on_table E 4 (λ ed. energy ed n) t

-- A User that is registered is not 0. The numbers alone do not tell the User 0 from none, so that the contract says this
-- too.
abbrev pub user_named : Result EnergyEntry Refusal → Bool
user_named (Ok (Append (Registered user))) = leb 1 user
user_named (Ok (Append Lapsed)) = true
user_named (Ok (Append Unsettled)) = true
user_named (Ok Replacement) = true
user_named (Ok (Recut removed)) = true
user_named (Err r) = true
