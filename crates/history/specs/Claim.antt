-- The claim about every list of calls.
use Rattle.std.specs.Prelude.{◌≡◌, List, [], ◌∷◌, ℕ, ℤ, pos}
use Rattle.daybook.specs.declared.NewRegister.{NewRegister}
use Rattle.daybook.specs.Editions.{Editions}
use Rattle.daybook.specs.Calls.{Call, State, run, answers}
use Rattle.layout.specs.Layout.{BothFit}
use Rattle.opening.specs.Opening.{fresh_call, open_call}
use Rattle.history.specs.Runs.{Lent, lent_run, lent_answers, fresh_state, zero_images}
use Rattle.history.specs.Agreement.{Agrees}
use Rattle.history.specs.Promise.{refusal_in, Reserved}

-- Take any two editions E that fit. Lend any table t₀ to fresh, with any numbers n. If it answers 0, then lend the
-- table to any calls, one after the other, with any numbers, each call on the table that the one before left; a
-- conversion with any second table, in which the list goes on where it is accepted; and lend an image of zero bytes for
-- each state number to the saves and restores of that number, which say how many of its bytes each is lent. Every call
-- answers what the day book answers to the same calls, so that an accepted restore takes the book and its edition back
-- to the last accepted save of its number. Of what is lent and the state after the last call all that `Agrees` says
-- holds: the table is sound in the state's edition and stands for its book, each filled day has one User, accounts,
-- entries and allocations add up, and a registered transfer parts the days between two Users, in either section. And an
-- operator that then holds fewer points than its reserve is refused neither by 16 nor by 19 when it opens one.
--
-- The calls here are definitions. The contracts of the code equate each function with one of them, for every table and
-- all numbers, where E is `editions`: opening::fresh with fresh_call, opening::open with open_call, energy::energy with
-- energy_call, status::status with status_call, transfer::request with request_call, transfer::withdraw with withdraw_call,
-- correction::correct with correct_call, account::account with account_call, allocate::allocate with allocate_call,
-- trial::trial with trial_call, images::save with save_call, images::restore with restore_call, conversion::convert with
-- convert_call.
abbrev pub EveryList : Type 0
EveryList =
    (E : Editions) → BothFit E → (t₀ : List ℤ) (n : NewRegister) (past : ℕ → ℕ) → (fresh_call E t₀ n).0 ≡ pos 0 ∷ []
    → (cs : List Call)
    → let L : Lent = record { table = (fresh_call E t₀ n).1; images = zero_images past } in
    let S : State = fresh_state E n in
    Agrees E (lent_run E cs L) (run E cs S) × (lent_answers E cs L ≡ answers E cs S)
    × Reserved (run E cs S) (λ m. refusal_in (open_call E (lent_run E cs L).table m).0)
