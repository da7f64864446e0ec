-- The parts, the header and the zeros that are written are the layout of the register in the other edition. Assumes
-- nothing.
use mathlib.Core.Path.{◌≡◌, refl, sym, ◌∙◌, ap, ap₂}
use mathlib.Core.Bool.{true, false}
use mathlib.Core.List.{List, ◌++◌, map, append_assoc}
use Prim.Native.Nat.{ℕ, ◌+◌, ◌-◌, ◌≤◌}
use native.Mathlib.Omega.{arith}
use lib.IntN.{ℤ, pos}
use lib.ListN.{length, set, take, drop, length-drop, take-append-drop}
use lib.Seq.{length-take-le, take-take, drop_at, drop-drop, set-append_left}
use Rattle.daybook.specs.declared.Edition.{Edition}
use Rattle.daybook.specs.Editions.{no_room}
use Rattle.lists.specs.Lists.{Lists, Register}
use Rattle.lists.proofs.Operators.{named_lists}
use Rattle.lists.proofs.OtherRoom.{room_well}
use Rattle.layout.specs.Layout.{table_length, place_of, Fits, part_of, pad, layout, num_at, point_from, register_of, table_book, with_new_book}
use Rattle.layout.specs.Sound.{sound}
use Rattle.layout.specs.InnerWrites.{cleared}
use Rattle.layout.proofs.Blocks.{zeros_of, cleared_mid}
use Rattle.layout.proofs.NewBooks.{new_is}
use Rattle.layout.proofs.PointParts.{eight, up_to, layout_with, layout_same}
use Rattle.layout.proofs.TableSound.{sound_lays, points_count}
use Rattle.layout.proofs.Tables.{named_register}
use Rattle.point.proofs.Rows.{rows_at, length_rows, map_rows, points_read}
use Rattle.table.proofs.Laws.{place_small}
use Rattle.conversion.specs.InnerConversion.{parts_into}
use Rattle.conversion.proofs.Room.{points_fit}
use Rattle.conversion.proofs.CopiedParts.{named, laid, laid_length, parts_are}

module _ (ed to : Edition) (f : Fits ed) (g : Fits to) (t : List ℤ) (s : sound ed t ≡ true) (r : no_room to (table_book ed t) ≡ false)
    (u : List ℤ) (long : table_length ≤ length u) where
  abbrev n : ℕ
  n = num_at t 0

  abbrev R : Register
  R = register_of ed t

  abbrev end : ℕ
  end = place_of to n

  ends : end ≤ table_length
  ends = place_small to g n (points_fit ed to t r)

  -- ---- the header

  header : take 8 t ≡ eight ed R n
  unfolding layout pad
  header =
      sym (take-take 8 table_length t (omega arith)) ∙ ap (take 8) (sym (sound_lays ed f t s).1)
      ∙ ap (eight ed R) (points_count ed t)

  renumbered : set (eight ed R n) 3 (pos to.number) ≡ eight to R n
  unfolding pad
  renumbered = refl

  -- ---- the points

  abbrev points : List ℤ
  points = laid ed to f t s r n

  points_are : map named_lists R.points ≡ rows_at (named ed to f t s r) 0 n
  points_are = ap (λ qs. map named_lists qs) (points_read ed t) ∙ map_rows named_lists (λ i. point_from (part_of ed t i)) 0 n

  abbrev front : List ℤ
  front = eight to R n ++ points

  front_length : length front ≡ end
  unfolding pad
  front_length = laid_length ed to f t s r n (omega arith) (eight to R n) refl

  abbrev left : ℕ
  left = table_length - end

  layout_is : layout to (named_register R) ≡ front ++ zeros_of left
  layout_is =
      layout_same to (named_register R) ∙ layout_with to (named_register R) (map named_lists R.points)
      ∙ ap (λ qs. made (length qs) qs) points_are
      ∙ ap (λ m. made m (rows_at (named ed to f t s r) 0 n)) (length_rows (named ed to f t s r) 0 n)
      ∙ ap (λ m. front ++ zeros_of (table_length - m)) front_length
    where
      made : ℕ → List Lists → List ℤ
      made m qs = let l : List ℤ = up_to to (named_register R) m qs in l ++ zeros_of (table_length - length l)

  -- ---- the whole table

  -- the other table's numbers past the points
  past : drop end u ≡ take left (drop end u) ++ drop table_length u
  past =
      let e : end + left ≡ table_length = omega (arith, ends) in
      sym (take-append-drop left (drop end u)) ∙ ap (λ l. take left (drop end u) ++ l) (drop-drop left end u ∙ ap (λ k. drop k u) e)

  past_length : length (take left (drop end u)) ≡ left
  past_length = length-take-le left (drop end u) (omega (arith, length-drop end u))

  -- what the writes leave
  pub laid_out : (x y z : List ℤ) (a : ℕ) → x ≡ parts_into ed to t u n → y ≡ take 8 t ++ drop 8 x → z ≡ set y 3 (pos to.number)
      → a ≡ end → cleared z a (table_length - a) ≡ with_new_book to u (table_book ed t)
  unfolding table_book pad
  laid_out x y z a ex ey ez ea =
      ap₂ (λ v a. cleared v a (table_length - a)) written ea
      ∙ cleared_mid front (take left (drop end u)) (drop table_length u) end left front_length past_length
      ∙ sym (append_assoc front (zeros_of left) (drop table_length u))
      ∙ ap (λ l. l ++ drop table_length u) (sym layout_is)
      ∙ sym (new_is to g (room_well to (sound_lays ed f t s).0 r) u)
    where
      behind : drop 8 x ≡ points ++ drop end u
      behind =
          ap (drop 8) (ex ∙ parts_are ed to f t s r u (omega arith) n (omega arith) ∙ append_assoc (take 8 u) points (drop end u))
          ∙ drop_at (take 8 u) (points ++ drop end u) 8 (length-take-le 8 u (omega arith))

      written : z ≡ front ++ (take left (drop end u) ++ drop table_length u)
      written =
          ez ∙ ap (λ v. set v 3 (pos to.number)) (ey ∙ ap₂ ◌++◌ header behind)
          ∙ set-append_left (eight ed R n) (points ++ drop end u) 3 (pos to.number) (omega arith)
          ∙ ap (λ l. l ++ (points ++ drop end u)) renumbered
          ∙ sym (append_assoc (eight to R n) points (drop end u))
          ∙ ap (λ l. front ++ l) past
