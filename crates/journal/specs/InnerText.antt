-- What the functions that cut a line into words say.
use Rattle.std.specs.Prelude.{cond, List, ◌≡◌, ℕ, ◌+◌, ◌^◌, ◌≤◌, ◌<◌, ltb, length, drop, get_or}
use mathlib.Core.Option.{Option, none, some}
use Rattle.std.specs.Prelude as Std·
use Rattle.journal.specs.Text.{words_of}

-- A magnitude as the code holds it: nothing if it is 2^64 or more.
abbrev pub fitting : Option ℕ → Std·.Option ℕ
fitting none = Std·.None
fitting (some m) = cond (ltb m (2 ^ 64)) (Std·.Some m) Std·.None

-- r is the place of the first word's start at or after at, or the line's end.
pub record Skipped (line : List ℕ) (at r : ℕ) : Type 0 where
  pub from : at ≤ r
  pub within : r ≤ length line
  pub same_words : words_of (drop r line) ≡ words_of (drop at line)
  pub stops : r < length line → get_or line r 0 ≡ 32 → ⊥

-- r is the place of the first space at or after at, or the line's end.
pub record Ended (line : List ℕ) (at r : ℕ) : Type 0 where
  pub from : at ≤ r
  pub within : r ≤ length line
  pub unbroken : (k : ℕ) → k < r → at ≤ k → get_or line k 0 ≡ 32 → ⊥
  pub stops : r < length line → get_or line r 0 ≡ 32
