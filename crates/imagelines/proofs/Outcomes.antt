-- From a call on the bytes of a buffer to the outcome of its line. Assumes nothing.
use mathlib.Core.Path.{◌≡◌, refl, ap}
use mathlib.Core.Bool.{Bool, true, not}
use mathlib.Core.List.{List, [], ◌∷◌, ◌++◌}
use mathlib.Core.Option.{none, some}
use Prim.Native.Nat.{ℕ, ◌+◌, ◌-◌, ◌≤◌}
use native.Mathlib.Omega.{arith}
use borrow.Author.Tests.{not-true}
use lib.IntN.{ℤ, pos}
use lib.ListN.{length, take, drop, set}
use lib.Seq.{drop-drop}
use Rattle.words.specs.Sums.{sums_of}
use Rattle.daybook.specs.FromNumbers.{num}
use Rattle.daybook.specs.Editions.{editions}
use Rattle.images.specs.Images.{save_call, restore_call}
use Rattle.buffers.specs.Buffers.{table_in, written_bytes, written, image_in}
use Rattle.printing.specs.Rows.{row_bytes, row_of}
use Rattle.lines.specs.Lines.{LineResult, size, Played}
use Rattle.imagelines.specs.ImageLines.{image_bytes, image_at, bytes_at, lends_image, blank, answered, save_line, restore_line, pokeable, imgpoke_line, summable, sums_line, on_images, on_register, ImagePlayed}

-- an outcome on one of the buffers is one on both
module _ {out out' : List ℕ} {t : Bool} where
  pub on_images_lem : {images images' : List ℕ} (b : List ℕ) (o : LineResult) → Played o images out images' out' t → ImagePlayed (on_images b o) b images out b images' out' t
  on_images_lem b none p = record { room = p.room; register = refl; images = p.left; text = p.text; call = p.call }
  on_images_lem b (some w) p = record { room = p.room; register = refl; images = p.left; text = p.text; call = p.call }

  pub on_register_lem : {b b' : List ℕ} (images : List ℕ) (o : LineResult) → Played o b out b' out' t → ImagePlayed (on_register images o) b images out b' images out' t
  on_register_lem images none p = record { room = p.room; register = p.left; images = refl; text = p.text; call = p.call }
  on_register_lem images (some w) p = record { room = p.room; register = p.left; images = refl; text = p.text; call = p.call }

-- a save or a restore, on the bytes from a to e
module _ (lent images : List ℕ) (xs : List ℤ) (t : Bool) (test : t ≡ lends_image xs) where
  pub not_saved : not t ≡ true → save_line lent images xs ≡ none
  unfolding save_line
  not_saved z = rw (← test, not-true t z)

  pub not_restored : not t ≡ true → restore_line lent images xs ≡ none
  unfolding restore_line
  not_restored z = rw (← test, not-true t z)

  module _ (z : t ≡ true) (a e : ℕ) (a-is : a ≡ image_at (size xs 1)) (e-is : e ≡ a + size xs 2) where
    long : e - a ≡ size xs 2
    long = omega arith

    pub saved : {out out' : List ℕ} (result : ℤ) (u answer : List ℕ)
        → (result, (u, answer)) ≡ written_bytes (save_call editions (table_in lent) (num xs 0) (image_in (bytes_at images a (e - a)) blank)) (bytes_at images a (e - a)) blank
        → length out' ≤ length out + row_bytes → out' ≡ out ++ (answered answer)
        → Played (save_line lent images xs) images out (take a images ++ (u ++ drop (e - a) (drop a images))) out' true
    unfolding save_line
    saved result u answer q h w =
        let made = rw (long, a-is) at q in
        let bytes = ap (λ (p : ℤ × (List ℕ × List ℕ)). p.1.0) made in
        let numbers = ap (λ (p : ℤ × (List ℕ × List ℕ)). p.1.1) made in
        rw (← test, z) (record { room = h; left = rw (long, drop-drop (size xs 2) a images, a-is, bytes); text = rw numbers at w; call = refl })

    pub restored : {out out' : List ℕ} (result : ℤ) (u answer : List ℕ)
        → (result, (u, answer)) ≡ written (restore_call editions (table_in lent) (num xs 0) (image_in (bytes_at images a (e - a)) blank)) lent blank
        → length out' ≤ length out + row_bytes → out' ≡ out ++ (answered answer)
        → Played (restore_line lent images xs) lent out u out' true
    unfolding restore_line
    restored result u answer q h w =
        let made = rw (long, a-is) at q in
        rw (← test, z, ← made) (record { room = h; left = refl; text = w; call = refl })

-- one byte
module _ (images : List ℕ) (xs : List ℤ) (t : Bool) (test : t ≡ pokeable xs) where
  pub not_poked : not t ≡ true → imgpoke_line images xs ≡ none
  unfolding imgpoke_line
  not_poked z = rw (← test, not-true t z)

  pub set_byte : {out out' : List ℕ} (i place byte : ℕ) → t ≡ true → i ≡ size xs 0 → place ≡ size xs 1 → byte ≡ size xs 2 → length out' ≤ length out + row_bytes → out' ≡ out ++ (row_of (pos 0 ∷ [])) → Played (imgpoke_line images xs) images out (set images (image_at i + place) byte) out' true
  unfolding imgpoke_line
  set_byte i place byte z p q s h w = rw (← test, z, p, q, s) (record { room = h; left = refl; text = w; call = refl })

-- the sums
module _ (images : List ℕ) (xs : List ℤ) (t : Bool) (test : t ≡ summable xs) where
  pub not_summed : not t ≡ true → sums_line images xs ≡ none
  unfolding sums_line
  not_summed z = rw (← test, not-true t z)

  pub sums_are : {out out' : List ℕ} (i s1 s2 : ℕ) → t ≡ true → i ≡ size xs 0
      → let s = sums_of (bytes_at images (image_at i) (image_at i + image_bytes - image_at i)) in
      s1 ≡ s.0 → s2 ≡ s.1
      → length out' ≤ length out + row_bytes → out' ≡ out ++ (row_of (pos 0 ∷ pos s1 ∷ pos s2 ∷ [])) → Played (sums_line images xs) images out images out' true
  unfolding sums_line
  sums_are i s1 s2 z p x y h w =
      let long : image_at i + image_bytes - image_at i ≡ image_bytes = omega arith in
      rw (← test, z, ← p) (record { room = h; left = refl; text = rw (x, y, long) at w; call = refl })
