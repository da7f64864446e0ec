-- A call that answers with no field. Assumes nothing.
use mathlib.Core.Path.{◌≡◌, refl}
use mathlib.Core.Bool.{true, false≢true}
use mathlib.Core.List.{[], ◌∷◌}
use Prim.Native.Nat.{ℕ, zero, suc}
use lib.IntN.{pos}
use Rattle.numbers.specs.Answers.{refused}
use Rattle.daybook.specs.Notices.{Numbers, decide}

-- Its answer is its row, and on a refusal it leaves what was there.
pub record Kept {X : Type 0} (x : X) (w : Numbers × X) : Type 0 where
  pub row : ℕ
  pub answer : w.0 ≡ pos row ∷ []
  pub sent_back : refused w.0 ≡ true → w.1 ≡ x

pub kept_by : {X : Type 0} (r : ℕ) (x y : X) → Kept x (decide r 0 x ([], y))
unfolding decide
kept_by zero x y = record { row = 0; answer = refl; sent_back = λ e. absurd (false≢true e) }
kept_by (suc r) x y = record { row = suc r; answer = refl; sent_back = λ e. refl }
