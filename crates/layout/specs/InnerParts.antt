-- A sound part of a table, of any edition: what every function that is lent one relies on.
use Rattle.std.specs.Prelude.{◌≡◌, true, List, ℕ, ◌-◌, ◌/◌, ◌%◌, ◌≤◌, ℤ, length}
use Rattle.layout.specs.Places.{reg_count, off_count, rec_count, recs_place, rec_length, rec_place}
use Rattle.layout.specs.Layout.{num_at}
use Rattle.layout.specs.Sound.{part_sound}

-- How many records a part has room for.
abbrev pub room_of : List ℤ → ℕ
room_of p = (length p - recs_place) / rec_length

-- A sound part of any number of records that a register has room for; and its counts, for arithmetic.
pub record SoundPart (p : List ℤ) : Type 0 where
  pub is_sound : part_sound p ≡ true
  pub long : recs_place ≤ length p
  pub in_fours : length p % 4 ≡ 0
  pub short : length p ≤ 7680
  pub some_regs : 1 ≤ num_at p reg_count
  pub few_regs : num_at p reg_count ≤ 8
  pub few_offs : num_at p off_count ≤ 8
  pub few_recs : rec_place (num_at p rec_count) ≤ length p
