-- A sound register's numbers, written over bytes, are read back from them. Assumes nothing.
use mathlib.Core.Path.{◌≡◌, refl, sym, ◌∙◌, subst}
use mathlib.Core.Bool.{Bool, true, false}
use mathlib.Core.List.{List}
use Prim.Native.Nat.{ℕ, ◌+◌, ◌*◌, ◌≤◌, ◌<◌}
use native.Mathlib.Nat.{zero-add}
use native.Mathlib.Omega.{arith}
use lib.Dec.{leb}
use lib.IntN.{ℤ, pos}
use lib.ListN.{length, get_or, replicate, length-replicate}
use lib.Seq.{ext_get_or, take_all}
use borrow.Author.Tests.{leb-true, leb-false}
use Rattle.words.specs.Tables.{decoded_into, encoded_into}
use Rattle.words.proofs.Tables.{length_decoded, length_encoded}
use Rattle.words.proofs.Back.{decoded_encoded_at}
use Rattle.daybook.specs.declared.Edition.{Edition}
use Rattle.layout.specs.Layout.{table_length, Fits}
use Rattle.layout.specs.Sound.{sound}
use Rattle.layout.proofs.Words.{AllFit, fit_at, sound_fits}
use Rattle.buffers.specs.Buffers.{numbers_in, with_numbers, table_in}
use Rattle.buffers.proofs.Bytes.{numbers_length, table_short, table_long}

pub bytes_length : (t : List ℤ) (b : List ℕ) → length (with_numbers t b) ≡ length b
unfolding with_numbers
bytes_length t b = length_encoded b 0 t 0 (length t)

-- numbers that fit come back
numbers_back : (t : List ℤ) (b : List ℕ) → AllFit t → 8 * length t ≤ length b → numbers_in (with_numbers t b) (length t) ≡ t
unfolding numbers_in with_numbers
numbers_back t b f h = ext_get_or (pos 0) u t long (λ i l. at i (omega (arith, long)))
  where
    z : List ℤ
    z = replicate (length t) (pos 0)

    u : List ℤ
    u = decoded_into z 0 (encoded_into b 0 t 0 (length t)) 0 (length t)

    long : length u ≡ length t
    long = length_decoded z 0 (encoded_into b 0 t 0 (length t)) 0 (length t) ∙ length-replicate (length t) (pos 0)

    at : (i : ℕ) → i < length t → get_or u i (pos 0) ≡ get_or t i (pos 0)
    at i l =
        subst (λ k. get_or u k (pos 0) ≡ get_or t k (pos 0)) (zero-add i)
        (decoded_encoded_at z 0 b 0 t 0 (length t) (omega arith) (omega (arith, length-replicate (length t) (pos 0))) i (pos 0) l (fit_at f (0 + i)))

-- ---- the register

-- A register's table has all its numbers, or its bytes are too few and it has none.
pub table_whole : (b : List ℕ) → 61504 ≤ length b → length (table_in b) ≡ table_length
table_whole b h = subst (λ t. length t ≡ table_length) (table_long b h) (numbers_length b 7688)

pub table_none : (b : List ℕ) → length b < 61504 → length (table_in b) ≡ 0
table_none b h = subst (λ t. length t ≡ 0) (table_short b h) (numbers_length b 0)

-- so that a table of that many numbers has enough bytes
pub table_enough : (b : List ℕ) → table_length ≤ length (table_in b) → 61504 ≤ length b
table_enough b k = go (leb 61504 (length b)) refl
  where
    go : (x : Bool) → leb 61504 (length b) ≡ x → 61504 ≤ length b
    go true e = leb-true 61504 (length b) e
    go false e = absurd (omega (arith, k, table_none b (leb-false 61504 (length b) e)))

pub table_back : (ed : Edition) → Fits ed → (t : List ℤ) (b : List ℕ) → sound ed t ≡ true → length t ≡ table_length → 61504 ≤ length b → table_in (with_numbers t b) ≡ t
table_back ed f t b s e h =
    sym (table_long (with_numbers t b) (omega (arith, bytes_length t b)))
    ∙ subst (λ n. numbers_in (with_numbers t b) n ≡ t) e (numbers_back t b fits (omega arith))
  where
    fits : AllFit t
    fits = subst AllFit (take_all table_length t (omega arith)) (sound_fits ed f t s)
