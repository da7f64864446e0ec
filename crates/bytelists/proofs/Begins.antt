-- Where a list of calls through the hub begins: the bytes that a petlumas_fresh that returned 0 left. Assumes nothing.
use mathlib.Core.Path.{◌≡◌, sym, ◌∙◌, ap, subst}
use mathlib.Core.Bool.{Bool, true, false, cond}
use mathlib.Core.List.{List}
use Prim.Native.Nat.{ℕ, ◌*◌}
use native.Mathlib.Omega.{arith}
use lib.Dec.{leb}
use lib.IntN.{ℤ, pos}
use lib.ListN.{length, get_or}
use Rattle.numbers.specs.Naturals.{nat_of, same_z}
use Rattle.daybook.specs.declared.Edition.{Edition}
use Rattle.daybook.specs.declared.NewRegister.{NewRegister}
use Rattle.daybook.specs.Notices.{Numbers}
use Rattle.daybook.specs.Editions.{Editions, edition_no}
use Rattle.lists.specs.Lists.{book_of}
use Rattle.lists.proofs.OpenStep.{no_points}
use Rattle.layout.specs.Layout.{BothFit}
use Rattle.layout.proofs.Editions.{number_fits}
use Rattle.layout.proofs.NewBooks.{new_length}
use Rattle.opening.specs.Opening.{fresh_call}
use Rattle.history.specs.Runs.{fresh_state, zero_images}
use Rattle.history.proofs.Runs.{Begins, fresh_begins, fresh_table, zeros_hold}
use Rattle.buffers.specs.Buffers.{with_numbers, table_in, replied, written}
use Rattle.bytelists.specs.ByteLists.{petlumas_fresh, LentBytes, byte_step}
use Rattle.bytelists.proofs.Back.{table_whole, table_enough}
use Rattle.bytelists.proofs.Steps.{Holds, table_put}

-- A result of 0 says that the refusal is 0 and that the bytes were written.
returned_zero : (w : Numbers × List ℤ) (b answer : List ℕ) → (written w b answer).0 ≡ pos 0
    → (get_or w.0 0 (pos 0) ≡ pos 0) × ((written w b answer).1.0 ≡ with_numbers w.1 b)
unfolding written replied
returned_zero w b answer = go (leb (8 * length w.0) (length answer))
  where
    refusal : ℤ
    refusal = get_or w.0 0 (pos 0)

    result : Bool → ℤ
    result was = (cond {A = ℤ × List ℕ} was (refusal, with_numbers w.0 answer) (cond (same_z refusal (pos 1)) (pos 1) (pos 2), answer)).0

    never : (z : Bool) → cond z (pos 1) (pos 2) ≡ pos 0 → ⊥
    never true e = let k : ◌≡◌ {A = ℕ} 0 1 = cc in omega arith
    never false e = let k : ◌≡◌ {A = ℕ} 0 2 = cc in omega arith

    go : (was : Bool) → result was ≡ pos 0
        → (refusal ≡ pos 0) × (cond (same_z (result was) (pos 0)) (with_numbers w.1 b) b ≡ with_numbers w.1 b)
    go true e = (e, ap (λ z. cond (same_z z (pos 0)) (with_numbers w.1 b) b) e)
    go false e = absurd (never (same_z refusal (pos 1)) e)

pub fresh_holds : (E : Editions) → BothFit E → (b₀ second answer : List ℕ) (n : NewRegister) (past : ℕ → ℕ)
    → let L₀ : LentBytes = record { register = b₀; images = zero_images past } in
    (byte_step E (petlumas_fresh n) second answer L₀).0.0 ≡ pos 0
    → Holds E (byte_step E (petlumas_fresh n) second answer L₀).1 (fresh_state E n)
unfolding byte_step book_of
fresh_holds E fit b₀ second answer n past returned =
    let (refusal, bytes) = returned_zero (fresh_call E t n) b₀ answer returned in
    let a : Begins E t n (fresh_call E t n) = fresh_begins E t n refusal in
    let enough = table_enough b₀ a.long in
    subst (λ b. Holds E (record { register = b; images = zero_images past }) (fresh_state E n)) (sym bytes)
    (table_put E fit (fresh_call E t n).1 b₀ (zero_images past) (fresh_state E n)
    (record { table = fresh_table E fit t n refusal; images = zeros_hold E past })
    (ap length a.left ∙ new_length to (number_fits E fit _) (no_points to n a.no_row) t (table_whole b₀ enough)) enough)
  where
    t : List ℤ
    t = table_in b₀

    to : Edition
    to = edition_no E (nat_of n.edition)
