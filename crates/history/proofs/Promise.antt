-- The points left cover the unfilled reserves of all four operators, after every list of calls. Assumes nothing.
use mathlib.Core.Path.{◌≡◌, refl, sym, ◌∙◌, ap, ap₂, subst}
use mathlib.Core.Bool.{Bool, true, false, not, cond, and-false}
use mathlib.Core.Option.{Option, none, some, some-injective, none-ne-some}
use mathlib.Core.List.{List, [], ◌∷◌, ◌++◌, map, map-map, map-append}
use Prim.Native.Nat.{ℕ, zero, suc, ◌+◌, ◌-◌, ◌≤◌, ◌<◌}
use native.Mathlib.Omega.{arith}
use lib.Dec.{eqb}
use lib.IntN.{ℤ, pos}
use lib.ListN.{length, length-map, length-append}
use borrow.Author.Tests.{lt-leb, le-ltb, eq-eqb, ne_eqb, eqb-false}
use Rattle.numbers.specs.Naturals.{nat_of}
use Rattle.numbers.specs.Search.{maybe, is_some}
use Rattle.calendar.specs.Calendar.{within}
use Rattle.daybook.specs.declared.Edition.{Edition}
use Rattle.daybook.specs.declared.Facts.{Facts}
use Rattle.daybook.specs.declared.Opening.{Opening}
use Rattle.daybook.specs.declared.NewRegister.{NewRegister}
use Rattle.daybook.specs.Book.{Point, Book}
use Rattle.daybook.specs.Notices.{least, decide, find, facts_of, operators_in, held, unfilled, over_four, others_unfilled, opening_rows, opening}
use Rattle.daybook.specs.Editions.{Editions, edition_no, no_room, convert_rows}
use Rattle.daybook.specs.Calls.{Notice, open!, save!, restore!, Call, fresh!, notice!, query!, state!, convert!, Answer, noted, State, on_with, renewed, converted, stated, step, run}
use Rattle.lists.proofs.Rows.{above, least_first, least_none, decide_keeps}
use Rattle.lists.proofs.Operators.{held_append}
use Rattle.lists.proofs.Bounds.{within_bounds}
use Rattle.lists.proofs.OpenStep.{OpenClear, open_clear}
use Rattle.lists.proofs.OtherRoom.{HasRoom, has_room}
use Rattle.layout.specs.Layout.{BothFit}
use Rattle.opening.specs.Opening.{open_call}
use Rattle.opening.proofs.OpenCall.{ranged}
use Rattle.history.specs.Runs.{notice_call, Lent, lent_step, fresh_state}
use Rattle.history.specs.Agreement.{StandsFor}
use Rattle.history.specs.Promise.{BelowReserve, refusal_in, Reserved, ReservesFit, InEveryEdition}
use Rattle.history.proofs.Steps.{call_agrees}
use Rattle.history.proofs.Facts.{facts_in, facts_after}

-- ---- one opening more

-- The points left cover the unfilled reserves of all four.
pub record Covered (ed : Edition) (operators : List ℕ) : Type 0 where
  pub few : length operators ≤ ed.points
  pub covers : over_four (unfilled ed operators) ≤ ed.points - length operators

-- over four, one of them apart
apart : (f : ℕ → ℕ) (o : ℕ) → 1 ≤ o → o ≤ 4 → over_four f ≡ over_four (λ x. cond (eqb x o) 0 (f x)) + f o
apart f zero h k = absurd (omega arith)
apart f (suc zero) h k = omega arith
apart f (suc (suc zero)) h k = omega arith
apart f (suc (suc (suc zero))) h k = omega arith
apart f (suc (suc (suc (suc zero)))) h k = omega arith
apart f (suc (suc (suc (suc (suc o))))) h k = absurd (omega arith)

module _ (ed : Edition) (l : List ℕ) (o : ℕ) where
  abbrev more : List ℕ
  more = l ++ (o ∷ [])

  own_more : held more o ≡ held l o + 1
  unfolding held
  own_more = held_append l (o ∷ []) o ∙ rw (eq-eqb o o refl)

  others_same : others_unfilled ed more o ≡ others_unfilled ed l o
  unfolding others_unfilled held
  others_same = λ i. term 1 i + term 2 i + term 3 i + term 4 i
    where
      term : (x : ℕ) → cond (eqb x o) 0 (unfilled ed more x) ≡ cond (eqb x o) 0 (unfilled ed l x)
      term x = go (eqb x o) refl
        where
          go : (b : Bool) → eqb x o ≡ b → cond b 0 (unfilled ed more x) ≡ cond b 0 (unfilled ed l x)
          go true e = refl
          go false e =
              let other : ¬ (x ≡ o) = eqb-false x o e in
              ap (λ h. ed.reserve - h) (held_append l (o ∷ []) x ∙ rw (ne_eqb o x (λ z. other (sym z))) (omega arith))

  module _ (low : 1 ≤ o) (high : o ≤ 4) (c : Covered ed l) where
    all_four : others_unfilled ed l o + (ed.reserve - held l o) ≤ ed.points - length l
    unfolding others_unfilled
    all_four = omega (arith, c.covers, apart (unfilled ed l) o low high)

    all_more : over_four (unfilled ed more) ≡ others_unfilled ed l o + (ed.reserve - (held l o + 1))
    unfolding others_unfilled
    all_more = apart (unfilled ed more) o low high ∙ ap₂ ◌+◌ others_same (ap (λ h. ed.reserve - h) own_more)

    covered_more : length l < ed.points → others_unfilled ed l o ≤ ed.points - suc (length l) → Covered ed more
    covered_more room left =
        record {
          few = omega (arith, longer);
          covers = rw (all_more, longer) (one_less ed.points (length l) (others_unfilled ed l o) ed.reserve (held l o) all_four left);
        }
      where
        longer : length more ≡ length l + 1
        longer = length-append l (o ∷ [])

        one_less : (p n x r h : ℕ) → x + (r - h) ≤ p - n → x ≤ p - suc n → x + (r - (h + 1)) ≤ p - (n + 1)
        one_less p n x r h a b = omega arith

-- ---- after every list of calls

pub none_covered : (ed : Edition) → ReservesFit ed → Covered ed []
unfolding held
none_covered ed fit = record { few = omega arith; covers = omega arith }

operators_facts : (ps : List Point) → map (λ (f : Facts). f.operator) (map (λ (p : Point). p.facts) ps) ≡ operators_in ps
operators_facts ps = map-map (λ (f : Facts). f.operator) (λ (p : Point). p.facts) ps

-- In a book the points left cover the reserves.
abbrev BookCovers : Edition → Book → Type 0
BookCovers ed B = Covered ed (operators_in B.points)

notice_covers : (c : Notice) (ed : Edition) (B : Book) → BookCovers ed B → BookCovers ed (noted c ed B).1
unfolding facts_of
notice_covers c ed B k =
    let P : List Facts → Type 0 = λ fs. Covered ed (map (λ (f : Facts). f.operator) fs) in
    subst (Covered ed) (operators_facts (noted c ed B).1.points)
    (facts_after P c ed B (subst (Covered ed) (sym (operators_facts B.points)) k) (λ n e z.
    subst (Covered ed) (sym (map-append (λ (f : Facts). f.operator) (facts_in B) (facts_of n ∷ [])))
    (let clear : OpenClear ed n _ _ = open_clear ed n _ _ z in
    rw (operators_facts B.points) (covered_more ed _ (nat_of n.operator) clear.operator_low clear.operator_high k clear.room clear.covers))))

-- In a state they do so in its book, and in each saved one.
pub record Covers (S : State) : Type 0 where
  pub book : BookCovers S.edition S.book
  pub saved : (n : ℕ) (w : Edition × Book) → S.saved n ≡ some w → BookCovers w.0 w.1

module _ (E : Editions) (fit0 : ReservesFit E.standard) (fit1 : ReservesFit E.long) where
  number_reserves : (n : ℕ) → ReservesFit (edition_no E n)
  unfolding edition_no
  number_reserves n = go (eqb n 1)
    where
      go : (b : Bool) → ReservesFit (cond b E.long E.standard)
      go true = fit1
      go false = fit0

  pub fresh_covers : (n : NewRegister) → Covers (fresh_state E n)
  fresh_covers n =
      record { book = none_covered _ (number_reserves (nat_of n.edition)); saved = λ k w e. absurd (none-ne-some w e) }

  -- row 22 lets a book in where the points left cover its reserves
  converted_covers : (S : State) (ed : Edition) → no_room ed S.book ≡ false → Covers S → Covers (on_with S (ed, S.book))
  converted_covers S ed room k =
      let h : HasRoom ed S.book.points = has_room ed S.book room in
      let all : length (operators_in S.book.points) ≡ length S.book.points = length-map S.book.points _ in
      record { book = record { few = omega (arith, h.points, all); covers = omega (arith, h.reserves, all) }; saved = k.saved }

  pub covered_step : (c : Call) (S : State) → Covers S → Covers (step E c S).1
  unfolding step renewed converted convert_rows stated
  covered_step (fresh! n) S k =
      decide_keeps 0 S _ Covers _ k (λ z. record { book = (fresh_covers n).book; saved = k.saved })
  covered_step (query! q) S k = k
  covered_step (notice! c) S k = record { book = notice_covers c S.edition S.book k.book; saved = k.saved }
  covered_step (convert! t) S k =
      decide_keeps 0 S _ Covers _ k (λ z. converted_covers S _ (least_none 21 _ [] (least_none 0 _ _ z).1).0 k)
  covered_step (state! (save! n lent)) S k =
      decide_keeps 0 S _ Covers _ k (λ z. record { book = k.book; saved = λ j w e. go j (eqb j (nat_of n)) w e })
    where
      go : (j : ℕ) (b : Bool) (w : Edition × Book) → cond b (some (S.edition, S.book)) (S.saved j) ≡ some w → BookCovers w.0 w.1
      go j true w e = subst (λ (w : Edition × Book). BookCovers w.0 w.1) (some-injective (S.edition, S.book) w e) k.book
      go j false w e = k.saved j w e
  covered_step (state! (restore! n lent)) S k = decide_keeps 0 S _ Covers _ k (λ z. go (S.saved (nat_of n)) refl)
    where
      go : (o : Option (Edition × Book)) → S.saved (nat_of n) ≡ o → Covers (maybe S (on_with S) o)
      go none e = k
      go (some w) e = record { book = k.saved (nat_of n) w e; saved = k.saved }

  covered_run : (cs : List Call) (S : State) → Covers S → Covers (run E cs S)
  unfolding run
  covered_run [] S k = k
  covered_run (c ∷ cs) S k = covered_run cs (step E c S).1 (covered_step c S k)

-- ---- what is answered

-- with rows 16 and 19 passed, 5 is the highest that can be answered
low_rows : (out known : Bool) → least ((2, out) ∷ (5, known) ∷ (16, false) ∷ (19, false) ∷ []) ≤ 5
unfolding least
low_rows true true = omega arith
low_rows true false = omega arith
low_rows false true = omega arith
low_rows false false = omega arith

module _ (ed : Edition) (n : Opening) (known : Bool) (l : List ℕ) (c : Covered ed l) (below : held l (nat_of n.operator) < ed.reserve) where
  abbrev o : ℕ
  o = nat_of n.operator

  -- no operator: row 2
  nobody : within (pos 1) (pos 4) n.operator ≡ false → ranged n ≡ false
  nobody e = rw e (simp and-false)

  row_low : least (opening_rows ed n known l) ≤ 5
  unfolding opening_rows above
  row_low = go (within (pos 1) (pos 4) n.operator) refl
    where
      row : ℕ
      row = least (opening_rows ed n known l)

      go : (named : Bool) → within (pos 1) (pos 4) n.operator ≡ named → row ≤ 5
      go false e = let two : row ≡ 2 = least_first 2 (not (ranged n)) _ refl (ap not (nobody e)) in omega arith
      go true e =
          let b = within_bounds 1 4 n.operator e in
          let four = all_four ed l o b.0 b.1 c in
          rw (lt-leb ed.points (length l) (omega (arith, four)))
          (rw (le-ltb (ed.points - suc (length l)) (others_unfilled ed l o) (omega (arith, four))) (low_rows (not (ranged n)) known))

abbrev pub book_refusal : State → Opening → ℤ
book_refusal S n = refusal_in (opening S.edition n S.book).0

answered : (r m : ℕ) (B C : Book) → refusal_in (decide r 0 B ([], C)).0 ≡ pos m → r ≡ m
unfolding decide
answered zero m B C e = ap nat_of e
answered (suc r) m B C e = ap nat_of e

pub reserved_covered : (S : State) → Covers S → Reserved S (book_refusal S)
unfolding opening
reserved_covered S k =
    record {
      never16 = λ n b e. let z : row n ≡ 16 = answered (row n) 16 S.book _ e in absurd (omega (arith, low n b));
      never19 = λ n b e. let z : row n ≡ 19 = answered (row n) 19 S.book _ e in absurd (omega (arith, low n b));
    }
  where
    row : Opening → ℕ
    row n = least (opening_rows S.edition n (is_some (find (nat_of n.mirn) S.book.points)) (operators_in S.book.points))

    low : (n : Opening) → BelowReserve S n → row n ≤ 5
    low n b = row_low S.edition n (is_some (find (nat_of n.mirn) S.book.points)) (operators_in S.book.points) k.book b

pub in_every_edition : InEveryEdition
in_every_edition E fit0 fit1 n₀ cs = reserved_covered _ (covered_run E fit0 fit1 cs (fresh_state E n₀) (fresh_covers E fit0 fit1 n₀))

-- ---- on what is lent, which answers as the book does

pub reserved_lent : (E : Editions) → BothFit E → (L : Lent) (S : State) → StandsFor E L S → Reserved S (book_refusal S)
    → Reserved S (λ n. refusal_in (open_call E L.table n).0)
unfolding lent_step notice_call step noted
reserved_lent E fit L S r kept =
    record {
      never16 = λ n b e. kept.never16 n b (sym (same n) ∙ e);
      never19 = λ n b e. kept.never19 n b (sym (same n) ∙ e);
    }
  where
    same : (n : Opening) → refusal_in (open_call E L.table n).0 ≡ book_refusal S n
    same n = ap (λ (a : Answer). refusal_in a.0) (call_agrees E fit L S r (notice! (open! n))).answer
