-- A list of calls on what stands for a state is the list on the state, and an accepted fresh makes a table that stands for
-- the state it begins. Assumes nothing.
use mathlib.Core.Path.{◌≡◌, refl, sym, ap, ap₂, subst}
use mathlib.Core.Option.{none}
use mathlib.Core.List.{List, [], ◌∷◌}
use Prim.Native.Nat.{ℕ, zero, suc, ◌+◌, ◌≤◌}
use native.Mathlib.Omega.{arith}
use lib.Dec.{ltb}
use lib.IntN.{ℤ, pos}
use lib.ListN.{length, length-replicate}
use borrow.Author.Tests.{ltb-false}
use Rattle.numbers.specs.Naturals.{nat_of}
use Rattle.daybook.specs.declared.NewRegister.{NewRegister}
use Rattle.daybook.specs.Notices.{Row, least, Numbers, decide, fresh_rows, fresh_book}
use Rattle.daybook.specs.Editions.{Editions, edition_no}
use Rattle.daybook.specs.Calls.{Call, State, run, answers}
use Rattle.daybook.specs.States.{image_length}
use Rattle.lists.proofs.Rows.{least_none}
use Rattle.layout.specs.Layout.{table_length, BothFit, with_new_book}
use Rattle.opening.specs.Opening.{fresh_call}
use Rattle.images.proofs.GivesBack.{take_zeros}
use Rattle.history.specs.Runs.{Lent, lent_run, lent_answers, zero_images}
use Rattle.history.specs.Promise.{refusal_in}
use Rattle.history.specs.Agreement.{TableOf, ImagesHold, StandsFor}
use Rattle.history.proofs.Steps.{Follows, fresh_stands, call_agrees}

-- What the calls leave stands for the state that the book's calls leave, and the answers are the same.
pub run_agrees : (E : Editions) → BothFit E → (cs : List Call) (L : Lent) (S : State) → StandsFor E L S
    → StandsFor E (lent_run E cs L) (run E cs S) × (lent_answers E cs L ≡ answers E cs S)
unfolding lent_run run lent_answers answers
run_agrees E fit [] L S r = (r, refl)
run_agrees E fit (c ∷ cs) L S r =
    let f : Follows E _ _ = call_agrees E fit L S r c in
    let (stands, same) = run_agrees E fit cs _ _ f.stands_for in
    (stands, ap₂ ◌∷◌ f.answer same)

-- ---- where a list begins

-- An accepted fresh found a table that is long enough, and wrote the empty book over it.
pub record Begins (E : Editions) (t : List ℤ) (n : NewRegister) (w : Numbers × List ℤ) : Type 0 where
  pub long : table_length ≤ length t
  pub no_row : least (fresh_rows n) ≡ 0
  pub answer : w.0 ≡ pos 0 ∷ []
  pub left : w.1 ≡ with_new_book (edition_no E (nat_of n.edition)) t (fresh_book n)

pub fresh_begins : (E : Editions) (t : List ℤ) (n : NewRegister) → refusal_in (fresh_call E t n).0 ≡ pos 0 → Begins E t n (fresh_call E t n)
unfolding fresh_call decide
fresh_begins E t n = go (least rows) refl
  where
    rows : List Row
    rows = (1, ltb (length t) table_length) ∷ fresh_rows n

    given : ℕ → Numbers × List ℤ
    given r = decide r 0 t ([], with_new_book (edition_no E (nat_of n.edition)) t (fresh_book n))

    go : (r : ℕ) → least rows ≡ r → refusal_in (given r).0 ≡ pos 0 → Begins E t n (given r)
    go zero z e =
        let (short, row) = least_none 0 (ltb (length t) table_length) (fresh_rows n) z in
        record { long = ltb-false (length t) table_length short; no_row = row; answer = refl; left = refl }
    go (suc r) z e = let k : suc r ≡ 0 = ap nat_of e in absurd (omega arith)

pub fresh_table : (E : Editions) → BothFit E → (t : List ℤ) (n : NewRegister) → refusal_in (fresh_call E t n).0 ≡ pos 0
    → TableOf E (edition_no E (nat_of n.edition)) (fresh_book n) (fresh_call E t n).1
fresh_table E fit t n e =
    let b : Begins E t n _ = fresh_begins E t n e in
    subst (TableOf E (edition_no E (nat_of n.edition)) (fresh_book n)) (sym b.left) (fresh_stands E fit t n b.no_row)

-- images of zero bytes hold nothing
pub zeros_hold : (E : Editions) (past : ℕ → ℕ) → ImagesHold E (λ k. none) (zero_images past)
zeros_hold E past =
    record {
      whole = λ n. omega (arith, length-replicate {A = ℕ} (image_length + past n) 0);
      holds = λ n. take_zeros (image_length + past n) (omega arith);
    }
