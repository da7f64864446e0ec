-- Numbers and rows, as the code goes. Assumes nothing.
use Rattle.std.proofs.Common.{◌≡◌, refl, sym, ap, ◌∙◌, ℕ, ◌+◌, ◌-◌, ◌<◌, ◌≤◌, ◌%◌, ◌/◌, ◌^◌, Bool, true, false, List, [], ◌∷◌, ◌++◌, length, drop, map, get_or, cond, append_assoc, length-append, arith}
use borrow.Author.Tests.{lt-ltb, le-ltb, eqb-true, eqb-false, ltb-true}
use mathlib.Core.List.{append-nil}
use lib.Dec.{eqb}
use lib.IntN.{ℤ, pos, negsuc, nat_abs}
use lib.Signed.{lt_z}
use lib.ListN.{drop_of_length-le, length-map, get_or-map}
use lib.Seq.{drop-cons}
use native.Mathlib.Numerals.{add-one}
use mir.Syntax.{w64}
use mir.Val.{SFits, to_z, of_z}
use mir.ValLaws.{to_z-of_z}
use borrow.Author.Rules.{rules}
use Rattle.io.specs.Digits.{hex_digit_ascii}
use Rattle.std.specs.Fmt.{decimal}
use Rattle.std.proofs.lemmas.Fmt.{AppendsLastDigit, decimal_from_appends, length-decimal-le}
use Rattle.printing.specs.Rows.{decimal_within, decimal_of, text_of, ending, row_of, hex_digits}

within_appends : AppendsLastDigit decimal_within
unfolding decimal_within
within_appends = record {
  one = λ k n h. rw (lt-ltb n 10 h) refl;
  more = λ k n h. rw (le-ltb n 10 h, lt-ltb (n % 10) 10 (omega arith)) refl;
}

pub decimal_is : (n : ℕ) → n < 2 ^ 64 → decimal_of n ≡ decimal n
unfolding decimal_of
decimal_is n h =
    let few : length (decimal n) ≤ 20 = length-decimal-le 20 n (omega arith) (omega arith) h in
    decimal_from_appends decimal_within within_appends 20 n h few

nineteen : (n : ℕ) → n ≤ 2 ^ 63 → length (decimal n) ≤ 19
nineteen n h = length-decimal-le 19 n (omega arith) (omega arith) (omega arith)

negative_text : (x : ℤ) → lt_z x (pos 0) ≡ true → text_of x ≡ 45 ∷ decimal_of (nat_abs x)
unfolding text_of
negative_text (pos n) h = absurd (omega (arith, ltb-true n 0 h))
negative_text (negsuc n) h = refl

other_text : (x : ℤ) → lt_z x (pos 0) ≡ false → text_of x ≡ decimal_of (nat_abs x)
unfolding text_of
other_text (pos n) h = refl
other_text (negsuc n) h = absurd (search rules)

abbrev rd : ℤ → ℤ
rd x = to_z w64 (of_z w64 x)

-- a signed number x: its sign, where it has one, in u, and the digits of its amount n
module _ (x : ℤ) (f : SFits w64 x) (n : ℕ) (u v digits : List ℕ) (is : n ≡ nat_abs (rd x)) (bound : n ≤ 2 ^ 63) (e : digits ≡ decimal n) where
  pub negative_fits : u ≡ 45 ∷ [] → length u + length digits ≤ 20
  negative_fits g = rw (g, e) (omega (arith, nineteen n bound))

  pub other_fits : u ≡ [] → length u + length digits ≤ 20
  other_fits g = rw (g, e) (omega (arith, nineteen n bound))

  pub negative_is : lt_z (rd x) (pos 0) ≡ true → u ≡ 45 ∷ [] → v ≡ u ++ digits → v ≡ text_of x
  negative_is h g more =
      let r : rd x ≡ x = to_z-of_z w64 x f in
      let amount : n ≡ nat_abs x = rw r at is in
      rw (more, g, e, negative_text x (rw r at h), ← amount, decimal_is n (omega arith))

  pub other_is : lt_z (rd x) (pos 0) ≡ false → u ≡ [] → v ≡ u ++ digits → v ≡ text_of x
  other_is h g more =
      let r : rd x ≡ x = to_z-of_z w64 x f in
      let amount : n ≡ nat_abs x = rw r at is in
      rw (more, g, e, other_text x (rw r at h), ← amount, decimal_is n (omega arith))

-- a number x behind what stands before it: u is that, with its sign where it has one; its amount n follows in digits
module _ (x : ℤ) (n : ℕ) (before u digits : List ℕ) (is : n ≡ nat_abs x) (e : digits ≡ decimal n) where
  pub signed_fits : n ≤ 2 ^ 63 → u ≡ before ++ (45 ∷ []) → length u + length digits ≤ length before + 20
  signed_fits bound g = rw (g, e, length-append) (omega (arith, nineteen n bound))

  pub plain_fits : n < 2 ^ 64 → u ≡ before → length u + length digits ≤ length before + 20
  plain_fits bound g = rw (g, e) (omega (arith, length-decimal-le 20 n (omega arith) (omega arith) bound))

  pub signed_is : n < 2 ^ 64 → lt_z x (pos 0) ≡ true → u ≡ before ++ (45 ∷ []) → u ++ digits ≡ before ++ text_of x
  signed_is bound h g = rw (g, e, negative_text x h, ← is, decimal_is n bound, append_assoc)

  pub plain_is : n < 2 ^ 64 → lt_z x (pos 0) ≡ false → u ≡ before → u ++ digits ≡ before ++ text_of x
  plain_is bound h g = rw (g, e, other_text x h, ← is, decimal_is n bound)

-- ---- rows

ending_is : (xs : List ℤ) (i : ℕ) → i < length xs → cond (eqb (length xs - 1 - i) 0) 10 32 ≡ ending (drop (i + 1) xs)
ending_is xs i h = go (eqb (length xs - 1 - i) 0) refl
  where
    go : (t : Bool) → eqb (length xs - 1 - i) 0 ≡ t → cond (eqb (length xs - 1 - i) 0) 10 32 ≡ ending (drop (i + 1) xs)
    go true e =
        let z : length xs - 1 - i ≡ 0 = eqb-true (length xs - 1 - i) 0 e in
        let l : length xs ≤ i + 1 = omega arith in
        rw (e, drop_of_length-le xs l)
    go false e =
        let z : length xs - 1 - i ≡ 0 → ⊥ = eqb-false (length xs - 1 - i) 0 e in
        let l : i + 1 < length xs = omega arith in
        rw (e, drop-cons xs (i + 1) (pos 0))

row_at : (xs : List ℤ) (i : ℕ) (d : ℤ) → i < length xs → row_of (drop i xs) ≡ text_of (get_or xs i d) ++ (ending (drop (i + 1) xs) ∷ row_of (drop (i + 1) xs))
unfolding row_of
row_at xs i d h = rw (add-one i, drop-cons xs i d)

pub row_more : (xs : List ℤ) (i : ℕ) (d : ℤ) (before shown : List ℕ) (after : ℕ) → i < length xs → after ≡ cond (eqb (length xs - 1 - i) 0) 10 32 → shown ≡ before ++ (text_of (get_or xs i d) ++ (after ∷ [])) → shown ++ row_of (drop (i + 1) xs) ≡ before ++ row_of (drop i xs)
row_more xs i d before shown after h a e = rw (e, a, ending_is xs i h, row_at xs i d h, append_assoc, append_assoc)

-- one more of the numbers xs, of any type, with the values f
pub number_more : {T : Type 0} (f : T → ℤ) (xs : List T) (i : ℕ) (x : T) (before shown : List ℕ) (after : ℕ) → i < length xs → x ≡ get_or xs i x → after ≡ cond (eqb (length xs - 1 - i) 0) 10 32 → shown ≡ before ++ (text_of (f x) ++ (after ∷ [])) → shown ++ row_of (drop (i + 1) (map f xs)) ≡ before ++ row_of (drop i (map f xs))
number_more f xs i x before shown after h r a e =
    let value : get_or (map f xs) i (f x) ≡ f x = get_or-map f xs i x ∙ ap f (sym r) in
    row_more (map f xs) i (f x) before shown after (rw length-map h) (rw length-map a) (rw value e)

pub row_end : (xs : List ℤ) (i : ℕ) (shown : List ℕ) → length xs ≤ i → shown ++ row_of (drop i xs) ≡ shown
unfolding row_of
row_end xs i shown h = rw (drop_of_length-le xs h, append-nil)

-- ---- bytes in base sixteen

pub digits_more : (bytes before one two : List ℕ) (i x y : ℕ) → i < length bytes → x ≡ hex_digit_ascii (get_or bytes i 0 / 16) → y ≡ hex_digit_ascii (get_or bytes i 0 % 16) → one ≡ before ++ (x ∷ []) → two ≡ one ++ (y ∷ []) → two ++ hex_digits (drop (i + 1) bytes) ≡ before ++ hex_digits (drop i bytes)
unfolding hex_digits
digits_more bytes before one two i x y h p q e f =
    rw (f, e, append_assoc, append_assoc, add-one i, drop-cons bytes i 0, p, q)

pub digits_end : (bytes shown : List ℕ) (i : ℕ) → length bytes ≤ i → shown ++ hex_digits (drop i bytes) ≡ shown
unfolding hex_digits
digits_end bytes shown i h = rw (drop_of_length-le bytes h, append-nil)
