-- Who holds the points of a table, counted point by point. Assumes nothing.
use mathlib.Core.Path.{◌≡◌, refl, sym, ap, ◌∙◌}
use mathlib.Core.Bool.{Bool, true, false, cond}
use mathlib.Core.List.{[], ◌∷◌}
use Prim.Native.Nat.{ℕ, ◌+◌, ◌≤◌}
use native.Mathlib.Omega.{arith}
use lib.Dec.{eqb}
use mir.Val.{bool_byte}
use Rattle.daybook.specs.Notices.{held}
use Rattle.lists.specs.Lists.{operator_of, book_of}
use Rattle.lists.specs.InnerSteps.{operators_of}
use Rattle.lists.proofs.Operators.{operator, operators_are, held_append}
use Rattle.layout.specs.Layout.{num_at, point_from, register_of, table_book}
use Rattle.point.proofs.Rows.{rows_at, rows_join, map_rows, points_read}
use Rattle.table.specs.declared.register.Register.{Register}
use Rattle.table.specs.InnerRegisters.{operators, number_of_points, part_of}

module _ (r : Register) where
  -- The book's operator of point i.
  abbrev pub operator_at : ℕ → ℕ
  operator_at i = operator_of (num_at (part_of r i) 11)

  pub operators_at : operators r ≡ rows_at operator_at 0 (number_of_points r)
  unfolding table_book book_of point_from
  operators_at =
      operators_are (register_of r.edition r.table.now).points ∙ ap operators_of (points_read r.edition r.table.now)
      ∙ map_rows operator (λ i. point_from (part_of r i)) 0 (number_of_points r)

-- one point more
pub held_next : (f : ℕ → ℕ) (o n : ℕ) → held (rows_at f 0 n) o + cond (eqb (f n) o) 1 0 ≡ held (rows_at f 0 (n + 1)) o
unfolding rows_at held
held_next f o n =
    let last : held (f n ∷ []) o ≡ cond (eqb (f n) o) 1 0 = omega arith in
    ap (λ x. held (rows_at f 0 n) o + x) (sym last) ∙ sym (held_append (rows_at f 0 n) (f n ∷ []) o)
    ∙ ap (λ l. held l o) (rows_join f n 1 0 n (omega arith))

-- a test as a number
pub as_number : (b : Bool) → bool_byte b ≡ cond b 1 0
as_number true = refl
as_number false = refl

pub at_most_one : (b : Bool) → bool_byte b ≤ 1
at_most_one true = omega arith
at_most_one false = omega arith
