-- The bytes that the functions read and write, each as its definition says.
use mathlib.Core.Path.{◌≡◌, refl, sym, ap, ◌∙◌}
use mathlib.Core.List.{List, map}
use Prim.Native.Nat.{ℕ, ◌+◌, ◌*◌, ◌<◌, ◌≤◌}
use native.Mathlib.Nat.{zero-add}
use native.Mathlib.Omega.{arith}
use lib.IntN.{ℤ, pos}
use lib.ListN.{length, get_or, take, replicate, length-replicate, length-map, get_or-map}
use lib.Seq.{take_all, length-take-le}
use borrow.Author.Tests.{le-leb, lt-leb, ne_eqb}
use Rattle.words.specs.Words.{with_number, with_word}
use Rattle.words.specs.Tables.{decoded_into, encoded_into}
use Rattle.words.proofs.Tables.{length_decoded, encoded_more}
use Rattle.words.proofs.Back.{decoded_alike}
use Rattle.daybook.specs.Notices.{Numbers}
use Rattle.buffers.specs.Buffers.{numbers_in, with_numbers, table_in, replied, written}

-- ---- numbers that are read

pub numbers_length : (b : List ℕ) (n : ℕ) → length (numbers_in b n) ≡ n
unfolding numbers_in
numbers_length b n = length_decoded (replicate n (pos 0)) 0 b 0 n ∙ length-replicate n (pos 0)

module _ (b : List ℕ) (t u : List ℤ) (n : ℕ) (h : n ≤ length t) (e : u ≡ decoded_into t 0 b 0 n) where
  pub read_length : length (take n u) ≡ n
  read_length = let k : length u ≡ length t = ap length e ∙ length_decoded t 0 b 0 n in length-take-le n u (omega arith)

  -- what the places held before does not matter
  pub read_numbers : take n u ≡ numbers_in b n
  unfolding numbers_in
  read_numbers =
      let z : List ℤ = replicate n (pos 0) in
      let long : length z ≡ n = length-replicate n (pos 0) in
      ap (take n) e ∙ decoded_alike t 0 z 0 b 0 b 0 n (omega arith) (omega arith) (λ k l. refl)
      ∙ take_all n (decoded_into z 0 b 0 n) (omega (arith, length_decoded z 0 b 0 n))

pub table_short : (b : List ℕ) → length b < 61504 → numbers_in b 0 ≡ table_in b
unfolding table_in
table_short b h = rw (lt-leb 61504 (length b) h)

pub table_long : (b : List ℕ) → 61504 ≤ length b → numbers_in b 7688 ≡ table_in b
unfolding table_in
table_long b h = rw (le-leb 61504 (length b) h)

-- ---- an answer

pub one_more : (b ns u v : List ℕ) (k : ℕ) → u ≡ encoded_into b 0 (map pos ns) 0 k → v ≡ with_number u (8 * k) 8 (get_or ns k 0)
    → v ≡ encoded_into b 0 (map pos ns) 0 (k + 1)
unfolding with_word
one_more b ns u v k p q =
    encoded_more b 0 (map pos ns) 0 u v k (pos (get_or ns k 0)) p (rw zero-add (sym (get_or-map pos ns k 0))) (rw zero-add q)

module _ (ns answer : List ℕ) where
  pub replied_room : (answer' : List ℕ) → 8 * length ns ≤ length answer → answer' ≡ with_numbers (map pos ns) answer
      → (pos (get_or ns 0 0), answer') ≡ replied (map pos ns) answer
  unfolding replied
  replied_room answer' h e = rw (length-map ns pos, le-leb (8 * length ns) (length answer) h, get_or-map pos ns 0 0, e)

  pub replied_one : length answer < 8 * length ns → get_or ns 0 0 ≡ 1 → (pos 1, answer) ≡ replied (map pos ns) answer
  unfolding replied
  replied_one h e = rw (length-map ns pos, lt-leb (8 * length ns) (length answer) h, get_or-map pos ns 0 0, e)

  pub replied_two : length answer < 8 * length ns → (get_or ns 0 0 ≡ 1 → ⊥) → (pos 2, answer) ≡ replied (map pos ns) answer
  unfolding replied
  replied_two h e =
      rw (length-map ns pos, lt-leb (8 * length ns) (length answer) h, get_or-map pos ns 0 0, ne_eqb (get_or ns 0 0) 1 e)

-- ---- the end of a call

module _ (w : Numbers × List ℤ) (buffer answer answer' : List ℕ) (r : ℕ) (e : (pos r, answer') ≡ replied w.0 answer) (z : ℤ) (f : z ≡ pos r) where
  pub written_none : (r ≡ 0 → ⊥) → (z, (buffer, answer')) ≡ written w buffer answer
  unfolding written
  written_none n = rw (← e, ne_eqb r 0 n, f)

  pub written_all : r ≡ 0 → (buffer' : List ℕ) → buffer' ≡ encoded_into buffer 0 w.1 0 (length w.1)
      → (z, (buffer', answer')) ≡ written w buffer answer
  unfolding written with_numbers
  written_all n buffer' g = rw (← e, f, n, g)
