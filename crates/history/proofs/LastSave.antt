-- A restore takes the book back to the last save of its number. Assumes nothing.
use mathlib.Core.Path.{◌≡◌, refl, sym, ◌∙◌, ap}
use mathlib.Core.Bool.{Bool, true, false, not, ◌&&◌, cond, and-true, false≢true}
use mathlib.Core.Option.{Option, none, some, some-injective, none-ne-some}
use mathlib.Core.List.{List, [], ◌∷◌}
use Prim.Native.Nat.{ℕ}
use native.Mathlib.Omega.{arith}
use lib.Dec.{leb, eqb}
use lib.IntN.{ℤ, pos, negsuc}
use lib.ListN.{get_or}
use borrow.Author.Tests.{eqb-true, eq-eqb, not-true}
use Rattle.numbers.specs.Naturals.{nat_of, same_z}
use Rattle.numbers.specs.Search.{maybe, is_some}
use Rattle.numbers.specs.Answers.{refused}
use Rattle.numbers.proofs.Bools.{both}
use Rattle.daybook.specs.declared.Edition.{Edition}
use Rattle.daybook.specs.Book.{Book}
use Rattle.daybook.specs.Notices.{least, Numbers, decide}
use Rattle.daybook.specs.States.{is_state, image_length, under}
use Rattle.daybook.specs.Editions.{Editions}
use Rattle.daybook.specs.Calls.{save!, restore!, Call, fresh!, notice!, query!, state!, convert!, State, on_with, renewed, converted, stated, step, run}
use Rattle.lists.proofs.Rows.{decide_keeps}
use Rattle.images.proofs.GivesBack.{state_same}
use Rattle.history.specs.LastSave.{saves, no_save, BackToTheLastSave}

same_self : (n : ℤ) → same_z n n ≡ true
same_self (pos a) = eq-eqb a a refl
same_self (negsuc a) = eq-eqb a a refl

abbrev ranged : ℤ → ℕ → Bool
ranged n lent = is_state n && leb image_length lent

-- ---- a save

-- The answer and the state after a save, by row 2's test.
abbrev saved_by : Bool → ℤ → State → Numbers × State
saved_by b n S =
    decide (least ((2, not b) ∷ [])) 0 S
    ([], record { edition = S.edition; book = S.book; saved = under (nat_of n) (some (S.edition, S.book)) S.saved })

-- an accepted one keeps the book under its number
save_keeps : (S : State) (n : ℤ) (lent : ℕ) → refused (stated (save! n lent) S).0 ≡ false
    → (is_state n ≡ true) × ((stated (save! n lent) S).1.saved (nat_of n) ≡ some (S.edition, S.book))
unfolding stated least decide
save_keeps S n lent = go (ranged n lent) refl
  where
    go : (b : Bool) → ranged n lent ≡ b → refused (saved_by b n S).0 ≡ false → (is_state n ≡ true) × ((saved_by b n S).1.saved (nat_of n) ≡ some (S.edition, S.book))
    go true e a = ((both (is_state n) (leb image_length lent) e).0, ap (λ x. cond x (some (S.edition, S.book)) (S.saved (nat_of n))) (eq-eqb (nat_of n) (nat_of n) refl))
    go false e a = absurd (false≢true (sym a))

-- ---- calls between

module _ (E : Editions) (n : ℤ) (number : is_state n ≡ true) (w : Edition × Book) where
  -- Under the number n that book is saved, in that edition.
  abbrev Has : State → Type 0
  Has S = S.saved (nat_of n) ≡ some w

  other_save : (S : State) (m : ℤ) (lent : ℕ) → (same_z m n && not (refused (stated (save! m lent) S).0)) ≡ false → Has S → Has (stated (save! m lent) S).1
  unfolding stated least decide
  other_save S m lent = go (ranged m lent) refl
    where
      under_other : (x : Bool) → eqb (nat_of n) (nat_of m) ≡ x → is_state m ≡ true → same_z m n ≡ false → Has S → cond x (some (S.edition, S.book)) (S.saved (nat_of n)) ≡ some w
      under_other true e k d h = absurd (false≢true (sym d ∙ ap (λ z. same_z z n) (sym (state_same n m number k (eqb-true _ _ e))) ∙ same_self n))
      under_other false e k d h = h

      go : (b : Bool) → ranged m lent ≡ b → (same_z m n && not (refused (saved_by b m S).0)) ≡ false → Has S → Has (saved_by b m S).1
      go true e a h = under_other (eqb (nat_of n) (nat_of m)) refl (both (is_state m) (leb image_length lent) e).0 (sym (and-true (same_z m n)) ∙ a) h
      go false e a h = h

  restore_keeps : (S : State) (m : ℤ) (lent : ℕ) → Has S → Has (stated (restore! m lent) S).1
  unfolding stated
  restore_keeps S m lent h = decide_keeps 0 S _ Has _ h (λ z. go (S.saved (nat_of m)))
    where
      go : (o : Option (Edition × Book)) → Has (maybe S (on_with S) o)
      go none = h
      go (some v) = h

  call_keeps : (c : Call) (S : State) → not (saves n c S) ≡ true → Has S → Has (step E c S).1
  unfolding step renewed converted
  call_keeps (fresh! m) S a h = decide_keeps 0 S _ Has _ h (λ z. h)
  call_keeps (notice! c) S a h = h
  call_keeps (query! q) S a h = h
  call_keeps (convert! t) S a h = decide_keeps 0 S _ Has _ h (λ z. h)
  call_keeps (state! (save! m lent)) S a h = other_save S m lent (not-true _ a) h
  call_keeps (state! (restore! m lent)) S a h = restore_keeps S m lent h

  run_keeps : (cs : List Call) (S : State) → no_save E n cs S ≡ true → Has S → Has (run E cs S)
  unfolding no_save run
  run_keeps [] S a h = h
  run_keeps (c ∷ cs) S a h =
      let (one, rest) = both (not (saves n c S)) (no_save E n cs (step E c S).1) a in run_keeps cs (step E c S).1 rest (call_keeps c S one h)

  -- ---- a restore

  restore_back : (S : State) (lent : ℕ) → Has S → (stated (restore! n lent) S).0 ≡ pos 0 ∷ []
      → ((stated (restore! n lent) S).1.edition ≡ w.0) × ((stated (restore! n lent) S).1.book ≡ w.1)
  unfolding stated least decide
  restore_back S lent h = go (ranged n lent) (S.saved (nat_of n)) h
    where
      by : Bool → Option (Edition × Book) → Numbers × State
      by b o = decide (least ((2, not b) ∷ (17, not (is_some o)) ∷ [])) 0 S ([], maybe S (on_with S) o)

      go : (b : Bool) (o : Option (Edition × Book)) → o ≡ some w → (by b o).0 ≡ pos 0 ∷ [] → ((by b o).1.edition ≡ w.0) × ((by b o).1.book ≡ w.1)
      go true none e a = absurd (none-ne-some w e)
      go true (some v) e a =
          let is : v ≡ w = some-injective v w e in (ap (λ (v : Edition × Book). v.0) is, ap (λ (v : Edition × Book). v.1) is)
      go false none e a = absurd (none-ne-some w e)
      go false (some v) e a = let z : ◌≡◌ {A = ℕ} 2 0 = ap (λ (l : Numbers). nat_of (get_or l 0 (pos 0))) a in absurd (omega arith)

pub back_to_the_last_save : BackToTheLastSave
back_to_the_last_save E S n lent lent' cs a z r =
    let (number, kept) = save_keeps S n lent (not-true _ (both (same_z n n) _ a).1) in
    let w : Edition × Book = (S.edition, S.book) in
    restore_back E n number w (run E cs (stated (save! n lent) S).1) lent' (run_keeps E n number w cs (stated (save! n lent) S).1 z kept) r
