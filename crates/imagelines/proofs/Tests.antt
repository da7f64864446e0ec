-- What the test of a line says of its numbers. Assumes nothing.
use mathlib.Core.Path.{◌≡◌}
use mathlib.Core.Bool.{Bool, true, ◌&&◌}
use mathlib.Core.List.{List}
use Prim.Native.Nat.{◌≤◌, ◌<◌}
use borrow.Author.Tests.{eqb-true, leb-true, ltb-true}
use lib.Dec.{eqb, leb, ltb}
use lib.IntN.{ℤ}
use lib.ListN.{length}
use Rattle.numbers.proofs.Bools.{both}
use Rattle.lines.specs.Lines.{size}
use Rattle.imagelines.specs.ImageLines.{image_bytes, image_count, lends_image, pokeable, summable}

-- a save or a restore
pub record Lent (xs : List ℤ) : Type 0 where
  pub count : length xs ≡ 3
  pub image : size xs 1 < image_count
  pub bytes : size xs 2 ≤ image_bytes

pub lent : (xs : List ℤ) (t : Bool) → t ≡ lends_image xs → t ≡ true → Lent xs
lent xs t test z =
    let a = ltb (size xs 1) image_count in
    let b = leb (size xs 2) image_bytes in
    let first = both (eqb (length xs) 3) (a && b) (rw test at z) in
    let second = both a b first.1 in
    record {
      count = eqb-true (length xs) 3 first.0;
      image = ltb-true (size xs 1) image_count second.0;
      bytes = leb-true (size xs 2) image_bytes second.1;
    }

-- one byte
pub record Poked (xs : List ℤ) : Type 0 where
  pub image : size xs 0 < image_count
  pub place : size xs 1 < image_bytes
  pub byte : size xs 2 < 256

pub poked : (xs : List ℤ) (t : Bool) → t ≡ pokeable xs → t ≡ true → Poked xs
poked xs t test z =
    let a = ltb (size xs 0) image_count in
    let b = ltb (size xs 1) image_bytes in
    let d = ltb (size xs 2) 256 in
    let first = both (eqb (length xs) 3) (a && (b && d)) (rw test at z) in
    let second = both a (b && d) first.1 in
    let third = both b d second.1 in
    record {
      image = ltb-true (size xs 0) image_count second.0;
      place = ltb-true (size xs 1) image_bytes third.0;
      byte = ltb-true (size xs 2) 256 third.1;
    }

-- the sums
pub summed : (xs : List ℤ) (t : Bool) → t ≡ summable xs → t ≡ true → size xs 0 < image_count
summed xs t test z =
    let a = ltb (size xs 0) image_count in
    ltb-true (size xs 0) image_count (both (eqb (length xs) 1) a (rw test at z)).1
