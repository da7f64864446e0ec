-- A point's part in the table: read it, and put another in its place. What is outside of the part is framed by
-- `with_part_front` and `with_part_past`. Assumes nothing.
use mathlib.Core.Path.{◌≡◌, sym, ◌∙◌, ap, ap₂}
use mathlib.Core.List.{List, ◌++◌, append_assoc}
use Prim.Native.Nat.{ℕ, suc, ◌+◌, ◌-◌, ◌*◌, ◌≤◌, ◌<◌}
use native.Mathlib.Omega.{arith}
use native.Mathlib.Nat.{mul-suc, mul-le-mul_left}
use lib.ListN.{length, get_or, take, drop, length-append, length-drop, take-append-drop}
use lib.Seq.{length-take-le, take-append-le, take-take, take_at, drop_at, drop-append-add, drop-drop, get_or-take, get_or-drop}
use lib.IntN.{ℤ, pos}
use Rattle.daybook.specs.declared.Edition.{Edition}
use Rattle.layout.specs.Layout.{table_length, stride, place_of, Fits, part_of}
use Rattle.layout.specs.InnerWrites.{with_part}

-- a later point starts past the end of an earlier one
pub next_place : (ed : Edition) (i j : ℕ) → i < j → place_of ed i + stride ed ≤ place_of ed j
next_place ed i j h = step (stride ed) (mul-le-mul_left (stride ed) h) (mul-suc (stride ed) i)
  where
    step : (s : ℕ) → s * suc i ≤ s * j → s * suc i ≡ s * i + s → 8 + s * i + s ≤ 8 + s * j
    step s k e = omega arith

-- a number of a part is one of the table
pub part_number : (ed : Edition) (t : List ℤ) (i j : ℕ) → j < stride ed → get_or (part_of ed t i) j (pos 0) ≡ get_or t (place_of ed i + j) (pos 0)
unfolding part_of
part_number ed t i j h = get_or-take (stride ed) (drop (place_of ed i) t) j (pos 0) h ∙ get_or-drop (place_of ed i) t j (pos 0)

-- a part of a table that fits ends in the table
pub part_ends : (ed : Edition) (i : ℕ) → Fits ed → i < ed.points → place_of ed i + stride ed ≤ table_length
part_ends ed i f h = chain (place_of ed i + stride ed) (place_of ed ed.points) (next_place ed i ed.points h) f.in_table
  where
    chain : (a b : ℕ) → a ≤ b → b ≤ table_length → a ≤ table_length
    chain a b h k = omega arith

-- ---- s numbers from place a on

module _ (a s : ℕ) (t p : List ℤ) (e : length p ≡ s) (h : a + s ≤ length t) where
  abbrev patched : List ℤ
  patched = take a t ++ (p ++ drop (a + s) t)

  front_length : length (take a t) ≡ a
  front_length = length-take-le a t (omega arith)

  patched_length : length patched ≡ length t
  patched_length =
      length-append (take a t) (p ++ drop (a + s) t)
      ∙ omega (arith, front_length, length-append p (drop (a + s) t), length-drop (a + s) t)

  patched_front : (n : ℕ) → n ≤ a → take n patched ≡ take n t
  patched_front n k = take-append-le n (take a t) (p ++ drop (a + s) t) (omega (arith, front_length)) ∙ take-take n a t k

  patched_past : (n : ℕ) → a + s ≤ n → drop n patched ≡ drop n t
  patched_past n k =
      ap₂ drop (split n k) (sym (append_assoc (take a t) p (drop (a + s) t)))
      ∙ drop-append-add (take a t ++ p) (drop (a + s) t) (n - (a + s))
      ∙ drop-drop (n - (a + s)) (a + s) t
      ∙ ap (λ m. drop m t) (back n k)
    where
      split : (n : ℕ) → a + s ≤ n → n ≡ length (take a t ++ p) + (n - (a + s))
      split n k = omega (arith, length-append (take a t) p, front_length)

      back : (n : ℕ) → a + s ≤ n → a + s + (n - (a + s)) ≡ n
      back n k = omega arith

-- ---- the part of point i

module _ (ed : Edition) (t : List ℤ) (i : ℕ) (p : List ℤ) (e : length p ≡ stride ed) (h : place_of ed i + stride ed ≤ length t) where
  pub with_part_length : length (with_part ed t i p) ≡ length t
  unfolding with_part
  with_part_length = patched_length (place_of ed i) (stride ed) t p e h

  pub with_part_front : (n : ℕ) → n ≤ place_of ed i → take n (with_part ed t i p) ≡ take n t
  unfolding with_part
  with_part_front = patched_front (place_of ed i) (stride ed) t p e h

  pub with_part_past : (n : ℕ) → place_of ed i + stride ed ≤ n → drop n (with_part ed t i p) ≡ drop n t
  unfolding with_part
  with_part_past = patched_past (place_of ed i) (stride ed) t p e h

  pub with_part_itself : part_of ed (with_part ed t i p) i ≡ p
  unfolding with_part part_of
  with_part_itself =
      ap (take (stride ed)) (drop_at (take (place_of ed i) t) (p ++ drop (place_of ed i + stride ed) t) (place_of ed i) (front_length (place_of ed i) (stride ed) t p e h))
      ∙ take_at p (drop (place_of ed i + stride ed) t) (stride ed) e

-- a part put back as it was
pub with_part_own : (ed : Edition) (t : List ℤ) (i : ℕ) → with_part ed t i (part_of ed t i) ≡ t
unfolding with_part part_of
with_part_own ed t i =
    ap (λ l. take (place_of ed i) t ++ (take (stride ed) (drop (place_of ed i) t) ++ l)) (sym (drop-drop (stride ed) (place_of ed i) t))
    ∙ ap (λ l. take (place_of ed i) t ++ l) (take-append-drop (stride ed) (drop (place_of ed i) t))
    ∙ take-append-drop (place_of ed i) t
