-- What each operator is promised (document 02, g): the points reserved for it.
use Rattle.std.specs.Prelude.{◌≡◌, List, ◌*◌, ◌≤◌, ◌<◌, ℤ, pos, get_or}
use Rattle.numbers.specs.Naturals.{nat_of}
use Rattle.daybook.specs.declared.Edition.{Edition}
use Rattle.daybook.specs.declared.Opening.{Opening}
use Rattle.daybook.specs.declared.NewRegister.{NewRegister}
use Rattle.daybook.specs.Notices.{Numbers, operators_in, held, opening}
use Rattle.daybook.specs.Calls.{Call, State, run}
use Rattle.daybook.specs.Editions.{Editions}
use Rattle.history.specs.Runs.{fresh_state}

-- Does the operator of an opening hold fewer points than its reserve?
abbrev pub BelowReserve : State → Opening → Type 0
BelowReserve S n = held (operators_in S.book.points) (nat_of n.operator) < S.edition.reserve

-- The refusal in an answer.
abbrev pub refusal_in : Numbers → ℤ
refusal_in l = get_or l 0 (pos 0)

-- Such an operator's opening is refused neither by 16 nor by 19.
pub record Reserved (S : State) (refusal : Opening → ℤ) : Type 0 where
  pub never16 : (n : Opening) → BelowReserve S n → ¬ (refusal n ≡ pos 16)
  pub never19 : (n : Opening) → BelowReserve S n → ¬ (refusal n ≡ pos 19)

-- In the day book: after every list of calls from a fresh one, whatever the others opened and whatever was converted,
-- in any two editions whose four reserves fit their points. (Of tables and of the hub's bytes the claims about every
-- list say it.)
abbrev pub ReservesFit : Edition → Type 0
ReservesFit ed = 4 * ed.reserve ≤ ed.points

abbrev pub InEveryEdition : Type 0
InEveryEdition =
    (E : Editions) → ReservesFit E.standard → ReservesFit E.long → (n₀ : NewRegister) (cs : List Call)
    → let S : State = run E cs (fresh_state E n₀) in Reserved S (λ n. refusal_in (opening S.edition n S.book).0)
