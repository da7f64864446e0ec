-- What may be missing, and searches among days or indices.
use Rattle.std.specs.Prelude.{Bool, true, false, cond, ℕ, zero, suc, Option as Maybe, Some, None}
use mathlib.Core.Option.{Option, none, some}

-- f of what is there, b if nothing is.
abbrev pub maybe : {A B : Type 0} → B → (A → B) → Option A → B
maybe b f none = b
maybe b f (some a) = f a

abbrev pub is_some : {A : Type 0} → Option A → Bool
is_some o = maybe false (λ a. true) o

-- What the code answers, as these definitions have it.
abbrev pub option_of : {A : Type 0} → Maybe A → Option A
option_of None = none
option_of (Some a) = some a

-- The first of the n indices from a on at which the test holds. What is left to search is bound by `let` here and below,
-- so that it is computed only where it is asked.
unfoldable pub first_from : (ℕ → Bool) → ℕ → ℕ → Option ℕ
first_from p a zero = none
first_from p a (suc n) = let later : Option ℕ = first_from p (suc a) n in cond (p a) (some a) later

-- The last index below n at which the test holds.
unfoldable pub last_below : (ℕ → Bool) → ℕ → Option ℕ
last_below p zero = none
last_below p (suc n) = let earlier : Option ℕ = last_below p n in cond (p n) (some n) earlier
