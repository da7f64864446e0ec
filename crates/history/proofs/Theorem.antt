-- The claim about every list of calls. Assumes nothing.
use mathlib.Core.Path.{ap, subst}
use Rattle.daybook.specs.Book.{Book}
use Rattle.daybook.specs.Calls.{State}
use Rattle.daybook.specs.Editions.{Editions}
use Rattle.layout.specs.Layout.{BothFit}
use Rattle.history.specs.Runs.{Lent, fresh_state}
use Rattle.history.specs.Agreement.{StandsFor, AddsUp, Agrees}
use Rattle.history.specs.Promise.{refusal_in}
use Rattle.history.specs.Claim.{EveryList}
use Rattle.history.proofs.States.{own_sound}
use Rattle.history.proofs.Runs.{run_agrees, fresh_table, zeros_hold}
use Rattle.history.proofs.SoundTables.{sound_adds_up}
use Rattle.history.proofs.Promise.{in_every_edition, reserved_lent}

-- all else that is claimed follows from the relation
pub stands_agrees : (E : Editions) → BothFit E → (L : Lent) (S : State) → StandsFor E L S → Agrees E L S
stands_agrees E fit L S r =
    record {
      stands_for = r;
      adds_up =
          subst (λ (B : Book). AddsUp E S.edition L.table B) r.table.book
          (rw r.table.edition at (sound_adds_up E fit L.table (own_sound r.table)));
    }

pub every_list : EveryList
every_list E fit t₀ n past accepted cs =
    let begins : StandsFor E _ (fresh_state E n) = record { table = fresh_table E fit t₀ n (ap refusal_in accepted); images = zeros_hold E past } in
    let (stands, same) = run_agrees E fit cs _ _ begins in
    (stands_agrees E fit _ _ stands, same, reserved_lent E fit _ _ stands (in_every_edition E fit.standard.reserved fit.long.reserved n cs))
