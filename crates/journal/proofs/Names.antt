-- Words compared with names. Assumes nothing.
use Rattle.std.proofs.Common.{◌≡◌, ◌≢◌, ℕ, zero, suc, ◌<◌, Bool, true, false, ltb, List, [], ◌∷◌, get_or, refl, ap, ◌∙◌, rules, lit<, Decides}
use Rattle.std.specs.List.{list_all}
use Rattle.std.specs.Str.{IsUtf8}
use Rattle.std.proofs.lemmas.Str.{IsUtf8-from_ascii}
use Rattle.std.proofs.lemmas.Slice.Eq.{compares_Decides}
use borrow.Author.Tests.{ltb-true}
use Rattle.numbers.proofs.Bools.{both}
use Rattle.journal.specs.Names.{same_bytes}

same_bytes_decides : (v w : List ℕ) → Decides (same_bytes v w) (v ≡ w)
unfolding same_bytes
same_bytes_decides v w = compares_Decides same_bytes (search rules) v w

not_true : (t : Bool) → (t ≡ true → ⊥) → t ≡ false
not_true true h = absurd (h refl)
not_true false h = refl

pub same_bytes_other : (v w : List ℕ) → v ≢ w → same_bytes v w ≡ false
same_bytes_other v w h = not_true (same_bytes v w) (λ e. h ((same_bytes_decides v w).0 e))

-- each name is text, so what is no text is no name
ascii_at : (w : List ℕ) (i : ℕ) → list_all (λ b. ltb b 128) w ≡ true → get_or w i 0 < 128
ascii_at [] i h = lit< tt
ascii_at (b ∷ w) zero h = ltb-true b 128 (both (ltb b 128) (list_all (λ b. ltb b 128) w) h).0
ascii_at (b ∷ w) (suc i) h = ascii_at w i (both (ltb b 128) (list_all (λ b. ltb b 128) w) h).1

pub same_bytes_no_text : (v : List ℕ) → ¬ (IsUtf8 v) → (w : List ℕ) → list_all (λ b. ltb b 128) w ≡ true → same_bytes v w ≡ false
same_bytes_no_text v h w t =
    same_bytes_other v w (λ e. h (IsUtf8-from_ascii v (λ i. ascii_at v i (ap (list_all (λ b. ltb b 128)) e ∙ t))))
