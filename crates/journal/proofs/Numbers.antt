-- The digits of a number, byte by byte as the code goes. Assumes nothing.
use Rattle.std.proofs.Common.{◌≡◌, ℕ, zero, suc, ◌+◌, ◌*◌, ◌-◌, ◌^◌, ◌<◌, ◌≤◌, Bool, true, false, ◌&&◌, cond, eqb, ltb, leb, List, [], ◌∷◌, length, get_or, take, drop, ℤ, pos, ◌-ℤ◌, FitsSigned, Some, None, Ok, Err, refl, sym, ◌∙◌, add-one, arith, w64}
use Rattle.std.specs.Prelude as Std·
use Rattle.std.specs.Option.{SomeIff}
use Rattle.std.specs.Result.{OkIff, result_ok}
use Rattle.std.specs.Cmp.Lexicographic.{pointwise}
use mathlib.Core.Option.{Option, none, some}
use borrow.Author.Tests.{lt-leb, le-leb, le-ltb, lt-ltb, leb-true, ltb-true, ltb-false}
use Rattle.std.proofs.lemmas.Int.{ints}
use lib.IntN.{sub_ℕ}
use lib.ListN.{drop_of_length-le}
use lib.Seq.{drop-cons}
use Rattle.numbers.specs.Search.{maybe}
use Rattle.numbers.proofs.Bools.{both}
use Rattle.journal.specs.Text.{is_digit, digits_after, value_of_digits, non_negative, negative, number_of, value_of}
use Rattle.journal.specs.InnerText.{fitting}

-- digits only add to a number that is too large already
pub too_large : (n : ℕ) (s : List ℕ) → 2 ^ 64 ≤ n → fitting (digits_after n s) ≡ None
unfolding digits_after
too_large n [] h = rw (le-ltb n (2 ^ 64) h)
too_large n (b ∷ s) h = go (is_digit b) refl (too_large (10 * n + (b - 48)) s (omega arith))
  where
    go : (t : Bool) → is_digit b ≡ t → fitting (digits_after (10 * n + (b - 48)) s) ≡ None → fitting (digits_after n (b ∷ s)) ≡ None
    go true e f = rw e f
    go false e f = rw e

pub digits_start : (s : List ℕ) → 0 < length s → fitting (digits_after 0 (drop 0 s)) ≡ fitting (value_of_digits s)
unfolding value_of_digits
digits_start [] h = absurd (omega arith)
digits_start (b ∷ s) h = refl

pub digits_missing : (s : List ℕ) → length s ≡ 0 → None ≡ fitting (value_of_digits s)
unfolding value_of_digits
digits_missing [] h = refl
digits_missing (b ∷ s) h = absurd (omega arith)

-- n is read, and byte i is next
module _ (s : List ℕ) (i n : ℕ) (inv : fitting (digits_after n (drop i s)) ≡ fitting (value_of_digits s)) where
  module _ (h : i < length s) where
    pub digits_other : is_digit (get_or s i 0) ≡ false → None ≡ fitting (value_of_digits s)
    unfolding digits_after
    digits_other e = rw (drop-cons s i 0, e) at inv

    pub digits_more : (m : ℕ) → m ≡ 10 * n + (get_or s i 0 - 48) → is_digit (get_or s i 0) ≡ true → fitting (digits_after m (drop (i + 1) s)) ≡ fitting (value_of_digits s)
    unfolding digits_after
    digits_more m q e = rw (q, add-one i) (rw (drop-cons s i 0, e) at inv)

    pub digits_large : is_digit (get_or s i 0) ≡ true → 2 ^ 64 ≤ 10 * n + (get_or s i 0 - 48) → None ≡ fitting (value_of_digits s)
    digits_large e l =
        sym (too_large (10 * n + (get_or s i 0 - 48)) (drop (i + 1) s) l) ∙ digits_more (10 * n + (get_or s i 0 - 48)) refl e

  pub digits_end : length s ≤ i → n < 2 ^ 64 → Some n ≡ fitting (value_of_digits s)
  unfolding digits_after
  digits_end h l =
      let e : fitting (some n) ≡ Some n = rw (lt-ltb n (2 ^ 64) l) in
      sym e ∙ (rw (drop_of_length-le s h) at inv)

-- ---- a number

pub number_minus : (s : List ℕ) → pointwise eqb (take 1 s) (45 ∷ []) ≡ true → number_of s ≡ maybe none negative (value_of_digits (drop 1 s))
unfolding number_of
number_minus [] h = cc
number_minus (b ∷ s) h = rw (both (eqb b 45) true h).0

pub number_plain : (s : List ℕ) → pointwise eqb (take 1 s) (45 ∷ []) ≡ false → number_of s ≡ maybe none non_negative (value_of_digits s)
unfolding number_of value_of_digits
number_plain [] h = refl
number_plain (b ∷ s) h = go (eqb b 45) refl
  where
    go : (t : Bool) → eqb b 45 ≡ t → cond (eqb b 45) (maybe none negative (value_of_digits s)) (maybe none non_negative (digits_after 0 (b ∷ s))) ≡ maybe none non_negative (digits_after 0 (b ∷ s))
    go true e = let k : (true && true) ≡ false = rw e at h in cc
    go false e = rw e

-- what f says of a number that the code holds, and of one that is too large for it
pub of_nothing : (f : ℕ → Option ℤ) (o : Option ℕ) → ((m : ℕ) → 2 ^ 64 ≤ m → f m ≡ none) → None ≡ fitting o → none ≡ maybe none f o
of_nothing f none h e = refl
of_nothing f (some m) h e = go (ltb m (2 ^ 64)) refl
  where
    go : (t : Bool) → ltb m (2 ^ 64) ≡ t → none ≡ f m
    go true q = let k : None ≡ Some m = rw q at e in cc
    go false q = sym (h m (ltb-false m (2 ^ 64) q))

pub of_some : (f : ℕ → Option ℤ) (o : Option ℕ) (m : ℕ) → Some m ≡ fitting o → f m ≡ maybe none f o
of_some f none m e = cc
of_some f (some n) m e = go (ltb n (2 ^ 64)) refl
  where
    go : (t : Bool) → ltb n (2 ^ 64) ≡ t → f m ≡ f n
    go true q = let k : Some m ≡ Some n = rw q at e in cc
    go false q = let k : Some m ≡ None = rw q at e in cc

pub negative_large : (m : ℕ) → 2 ^ 63 < m → negative m ≡ none
negative_large m h = rw (lt-leb m (2 ^ 63) h)

pub non_negative_large : (m : ℕ) → 2 ^ 63 ≤ m → non_negative m ≡ none
non_negative_large m h = rw (le-ltb m (2 ^ 63) h)

minus_is : (m : ℕ) → (pos 0 -ℤ pos m) ≡ sub_ℕ 0 m
minus_is zero = refl
minus_is (suc m) = refl

pub negative_checked : (m : ℕ) (r : Std·.Option ℤ) → SomeIff r (FitsSigned w64 (pos 0 -ℤ pos m)) (pos 0 -ℤ pos m) → value_of r ≡ negative m
negative_checked m None h = go (leb m (2 ^ 63)) refl
  where
    go : (t : Bool) → leb m (2 ^ 63) ≡ t → none ≡ negative m
    go true q = absurd (h (omega (arith, ints, leb-true m (2 ^ 63) q)))
    go false q = rw q
negative_checked m (Some x) h = let k : m ≤ 2 ^ 63 = omega (arith, ints, h.0) in rw (le-leb m (2 ^ 63) k, h.1, minus_is m)

pub non_negative_checked : {E : Type 0} (m : ℕ) (r : Std·.Result ℤ E) → OkIff r (FitsSigned w64 (pos m)) (pos m) → value_of (result_ok r) ≡ non_negative m
non_negative_checked m (Err x) h = go (ltb m (2 ^ 63)) refl
  where
    go : (t : Bool) → ltb m (2 ^ 63) ≡ t → none ≡ non_negative m
    go true q = absurd (h (omega (arith, ints, ltb-true m (2 ^ 63) q)))
    go false q = rw q
non_negative_checked m (Ok x) h = let k : m < 2 ^ 63 = omega (arith, ints, h.0) in rw (lt-ltb m (2 ^ 63) k, h.1)

pub ruleset digit_steps = (digits_start, digits_missing, digits_other, digits_more, digits_large, digits_end)
