-- A sound part is the layout of its own well-formed lists, and each point in use of a sound table has one. Assumes
-- nothing.
use mathlib.Core.Path.{◌≡◌}
use mathlib.Core.Bool.{true}
use mathlib.Core.List.{List}
use Prim.Native.Nat.{ℕ, ◌+◌, ◌-◌, ◌*◌, ◌/◌, ◌≤◌, ◌<◌}
use native.Mathlib.Omega.{arith}
use native.Mathlib.Nat.{mul-le-mul_left}
use lib.IntN.{ℤ}
use lib.ListN.{length, length-take, length-drop}
use Rattle.numbers.proofs.Bools.{both}
use Rattle.numbers.proofs.Rows.{all_at}
use Rattle.daybook.specs.declared.Edition.{Edition}
use Rattle.lists.specs.Lists.{Lists}
use Rattle.lists.specs.InnerWell.{Well}
use Rattle.layout.specs.Layout.{table_length, stride, Fits, part_of, point_numbers, num_at, point_from}
use Rattle.layout.specs.Sound.{part_sound, sound}
use Rattle.layout.specs.InnerParts.{room_of, SoundPart}
use Rattle.layout.proofs.Numbers.{Few, few, length_point}
use Rattle.layout.proofs.PartSound.{lays_part}
use Rattle.layout.proofs.PartLays.{Counts, counts, part_lays}
use Rattle.layout.proofs.Parts.{part_ends}
use Rattle.layout.proofs.TableSound.{Tested, tested}

-- as many records as there is room for in n numbers
pub room_is : (n room : ℕ) → n ≡ 48 + 4 * room → (n - 48) / 4 ≡ room
room_is n room e = omega arith

-- ---- one part

pub sound_part : (p : List ℤ) (room : ℕ) → length p ≡ 48 + 4 * room → length p ≤ 7680 → part_sound p ≡ true → SoundPart p
unfolding part_sound
sound_part p room len short e =
    let c : Counts p = counts p (both _ _ (both _ _ e).0).0 in
    record {
      is_sound = e;
      long = omega arith;
      in_fours = omega arith;
      short = short;
      some_regs = c.some_regs;
      few_regs = c.few_regs;
      few_offs = c.few_offs;
      few_recs = omega (arith, c.few_recs);
    }

module _ {p : List ℤ} (s : SoundPart p) where
  pub part_long : length p ≡ 48 + 4 * room_of p
  part_long = omega (arith, s.long, s.in_fours)

  pub lays : Well (room_of p) (point_from p) × (point_numbers (room_of p) (point_from p) ≡ p)
  lays = part_lays p (room_of p) part_long s.is_sound

  pub part_well : Well (room_of p) (point_from p)
  part_well = lays.0

  pub part_laid : point_numbers (room_of p) (point_from p) ≡ p
  part_laid = lays.1

-- ---- the layout of a point's lists

pub room_laid : {room : ℕ} {q : Lists} → Few room q → room_of (point_numbers room q) ≡ room
room_laid {room} {q} f = room_is (length (point_numbers room q)) room (length_point f)

pub laid_sound : {room : ℕ} {q : Lists} → Well room q → 48 + 4 * room ≤ 7680 → SoundPart (point_numbers room q)
laid_sound {room} {q} w h =
    let e : length (point_numbers room q) ≡ 48 + 4 * room = length_point (few w) in
    sound_part (point_numbers room q) room e (omega arith) (lays_part w)

-- ---- the parts of a table

-- a part has fewer numbers than a table
pub stride_small : (ed : Edition) → Fits ed → stride ed ≤ 7680
stride_small ed f =
    let m : stride ed * 1 ≤ stride ed * ed.points = mul-le-mul_left (stride ed) f.some in omega (arith, f.in_table)

module _ (ed : Edition) (f : Fits ed) (t : List ℤ) (i : ℕ) where
  pub part_length : i < ed.points → table_length ≤ length t → length (part_of ed t i) ≡ stride ed
  unfolding part_of
  part_length h k = simp (length-take, length-drop) (omega (arith, part_ends ed i f h))

  module _ (s : sound ed t ≡ true) (h : i < num_at t 0) where
    long : length (part_of ed t i) ≡ stride ed
    long = let k : Tested ed t = tested ed t s in part_length (omega (arith, k.few)) k.long

    pub sound_at : SoundPart (part_of ed t i)
    sound_at =
        sound_part (part_of ed t i) ed.records long (omega (arith, long, stride_small ed f))
        (all_at _ (num_at t 0) (tested ed t s).parts i h)

    pub room_at : room_of (part_of ed t i) ≡ ed.records
    room_at = room_is (length (part_of ed t i)) ed.records long
