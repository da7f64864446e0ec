-- Lines that are no call, a row that is printed, and a call on the first bytes of a buffer. Assumes nothing.
use mathlib.Core.Path.{◌≡◌, refl, sym, ap, ◌∙◌}
use mathlib.Core.List.{List, ◌++◌, append-nil}
use mathlib.Core.Bool.{Bool, true, false}
use mathlib.Core.Option.{none, some}
use Prim.Native.Nat.{ℕ, ◌+◌, ◌≤◌}
use native.Mathlib.Omega.{arith}
use borrow.Author.Tests.{eq-eqb}
use lib.IntN.{ℤ}
use lib.ListN.{length, take, drop, take-append-drop}
use Rattle.journal.specs.declared.Command.{Command}
use Rattle.journal.specs.declared.Command.TheVariants.{Call, Look, Table, Poke, Lend, Room, Hub, Unknown, Image, Convert, Trial}
use Rattle.journal.specs.declared.CallWord.{CallWord}
use Rattle.printing.specs.Rows.{row_bytes, row_of}
use Rattle.lines.specs.Lines.{LineResult, taking, on_lent, line_of, Played}

-- a line that is no call
pub nothing : {o : LineResult} (b out : List ℕ) → o ≡ none → Played o b out b out false
nothing b out e = record { room = omega arith; left = rw e; text = rw (e, append-nil); call = rw e }

-- a line of n numbers whose row is xs
pub something : {b b' b'' out out' : List ℕ} (n : ℕ) (xs : List ℤ) {ys zs : List ℤ} → length xs ≡ n → b' ≡ b'' → zs ≡ ys → length out' ≤ length out + row_bytes → out' ≡ out ++ (row_of zs) → Played (taking n xs (ys, b'')) b out b' out' true
something n xs l e x h w = rw (eq-eqb (length xs) n l) (record { room = h; left = e; text = rw (← x) w; call = refl })

-- the commands that are no such line
pub no_line : (c : Command) (b : List ℕ) (lent room : ℕ) (xs : List ℤ) → ((call : CallWord) → c ≡ Call call → ⊥) → (c ≡ Look → ⊥) → (c ≡ Table → ⊥) → (c ≡ Poke → ⊥) → (c ≡ Convert → ⊥) → line_of c b lent room xs ≡ none
no_line (Call call) b lent room xs f g h i j = absurd (f call refl)
no_line Look b lent room xs f g h i j = absurd (g refl)
no_line Table b lent room xs f g h i j = absurd (h refl)
no_line Poke b lent room xs f g h i j = absurd (i refl)
no_line Lend b lent room xs f g h i j = refl
no_line Room b lent room xs f g h i j = refl
no_line Hub b lent room xs f g h i j = refl
no_line Unknown b lent room xs f g h i j = refl
no_line (Image w) b lent room xs f g h i j = refl
no_line Convert b lent room xs f g h i j = absurd (j refl)
no_line Trial b lent room xs f g h i j = refl

-- an outcome on the first bytes of a buffer is one on the buffer
pub on_lent_lem : {out out' : List ℕ} {t : Bool} (b u : List ℕ) (n : ℕ) (o : LineResult) → Played o (take n b) out u out' t → Played (on_lent b n o) b out (u ++ drop n b) out' t
on_lent_lem b u n none p =
    record { room = p.room; left = ap (λ (v : List ℕ). v ++ drop n b) p.left ∙ take-append-drop n b; text = p.text; call = p.call }
on_lent_lem b u n (some o) p =
    record { room = p.room; left = ap (λ (v : List ℕ). v ++ drop n b) p.left; text = p.text; call = p.call }

pub on_lent_kept : {out out' : List ℕ} {t : Bool} (b : List ℕ) (n : ℕ) (o : LineResult) → Played o (take n b) out (take n b) out' t → Played (on_lent b n o) b out b out' t
on_lent_kept b n o p =
    let q = on_lent_lem b (take n b) n o p in
    record { room = q.room; left = sym (take-append-drop n b) ∙ q.left; text = q.text; call = q.call }
