-- Bytes that a call with no field has for a lent buffer, and the image that such a call is lent. Assumes nothing.
use mathlib.Core.Path.{◌≡◌, refl, sym, ◌∙◌, ap}
use mathlib.Core.Bool.{Bool, true, false, not, cond}
use mathlib.Core.List.{List, [], ◌∷◌, ◌++◌, append-nil}
use Prim.Native.Nat.{ℕ, zero, suc}
use native.Mathlib.Omega.{arith}
use lib.Dec.{leb, eqb}
use lib.IntN.{pos}
use lib.ListN.{length, take, drop}
use lib.Seq.{take-length, drop-length}
use borrow.Author.Tests.{ne_eqb}
use Rattle.numbers.specs.Naturals.{same_z}
use Rattle.numbers.specs.Answers.{refused}
use Rattle.daybook.specs.Notices.{Numbers}
use Rattle.daybook.proofs.Kept.{Kept}
use Rattle.buffers.specs.Buffers.{replied, written_bytes, image_in}

-- ---- bytes for a buffer

-- With room for the answer the buffer has them.
pub bytes_left : (w : Numbers × List ℕ) (buffer answer : List ℕ) → Kept buffer w → leb 8 (length answer) ≡ true
    → (written_bytes w buffer answer).1.0 ≡ w.1
unfolding replied
bytes_left w buffer answer k e = go k.row k.answer
  where
    go : (row : ℕ) → w.0 ≡ pos row ∷ [] → cond (same_z (replied w.0 answer).0 (pos 0)) w.1 buffer ≡ w.1
    go zero a = rw (a, e)
    go (suc row) a =
        let ne : eqb (suc row) 0 ≡ false = ne_eqb (suc row) 0 (λ (z : suc row ≡ 0). omega arith) in
        rw (a, e, ne) (sym (k.sent_back (ap refused a ∙ ap not ne)))

-- With none it is as it was.
bytes_back : (row : ℕ) (w : Numbers × List ℕ) → w.0 ≡ pos row ∷ [] → (buffer answer : List ℕ) → leb 8 (length answer) ≡ false
    → (written_bytes w buffer answer).1.0 ≡ buffer
unfolding replied
bytes_back row w a buffer answer e = go (eqb row 1) refl
  where
    go : (one : Bool) → eqb row 1 ≡ one → cond (same_z (replied w.0 answer).0 (pos 0)) w.1 buffer ≡ buffer
    go true d = rw (a, e, d)
    go false d = rw (a, e, d)

-- And the result is 2, unless the row is 1.
pub bytes_short : (row : ℕ) (w : Numbers × List ℕ) → w.0 ≡ pos row ∷ [] → eqb row 1 ≡ false → (buffer answer : List ℕ)
    → leb 8 (length answer) ≡ false → written_bytes w buffer answer ≡ (pos 2, (buffer, answer))
unfolding replied
bytes_short row w a d buffer answer e = rw (a, e, d)

-- ---- the lent bytes of an image

-- as many of its first bytes
pub image_lent : (image answer : List ℕ) (n : ℕ) → n ≡ length (image_in image answer) → take n image ≡ image_in image answer
unfolding image_in
image_lent image answer n e = ap (λ k. take k image) e ∙ go (leb 8 (length answer))
  where
    go : (b : Bool) → take (length (cond b image [])) image ≡ cond b image []
    go true = take-length image
    go false = refl

no_bytes : (b : List ℕ) → length b ≡ 0 → b ≡ []
no_bytes [] e = refl
no_bytes (x ∷ b) e = absurd (omega arith)

-- What a call w leaves of them, in front of the others, is what the image is left with.
module _ (w : List ℕ → Numbers × List ℕ) (keeps : (b : List ℕ) → Kept b (w b)) (same : (b : List ℕ) → length (w b).1 ≡ length b) (image answer : List ℕ) where
  pub image_left : (n : ℕ) → n ≡ length (image_in image answer)
      → (w (image_in image answer)).1 ++ drop n image ≡ (written_bytes (w (image_in image answer)) image answer).1.0
  unfolding image_in
  image_left n e = ap (λ k. (w (image_in image answer)).1 ++ drop k image) e ∙ go (leb 8 (length answer)) refl
    where
      go : (b : Bool) → leb 8 (length answer) ≡ b
          → (w (cond b image [])).1 ++ drop (length (cond b image [])) image ≡ (written_bytes (w (cond b image [])) image answer).1.0
      go true f =
          ap (λ l. (w image).1 ++ l) (drop-length image) ∙ append-nil (w image).1
          ∙ sym (bytes_left (w image) image answer (keeps image) f)
      go false f = ap (λ l. l ++ image) (no_bytes (w []).1 (same []))
          ∙ sym (bytes_back (keeps []).row (w []) (keeps []).answer image answer f)
