-- The facts of a book's points: a notice leaves them, but for open, which adds one.
-- Assumes nothing.
use mathlib.Core.Path.{◌≡◌, refl, sym, ◌∙◌, ap, subst}
use mathlib.Core.Bool.{Bool, true, false, cond}
use mathlib.Core.Option.{Option, none, some, some-injective}
use mathlib.Core.List.{List, [], ◌∷◌, ◌++◌, map, map-append}
use Prim.Native.Nat.{ℕ}
use lib.Dec.{eqb}
use lib.IntN.{ℤ}
use Rattle.numbers.specs.Naturals.{nat_of}
use Rattle.numbers.specs.Search.{maybe, is_some}
use Rattle.daybook.specs.declared.Edition.{Edition}
use Rattle.daybook.specs.declared.Facts.{Facts}
use Rattle.daybook.specs.declared.Opening.{Opening}
use Rattle.daybook.specs.Book.{Entry, Point, Book, with_entries, with_off, with_fro, with_pending}
use Rattle.daybook.specs.Notices.{Row, least, Numbers, decide, find, put, with_point, on_point, facts_of, opened, operators_in, opening_rows, opening, Which, Outcome, registers, lapses, stays, entered, enter, energy, switched, status, request, withdraw}
use Rattle.daybook.specs.Corrections.{corrected, correct_at, correct}
use Rattle.daybook.specs.Calls.{Notice, open!, energy!, status!, request!, withdraw!, correct!, noted}
use Rattle.lists.proofs.Rows.{decide_keeps}

abbrev point_facts : Point → Facts
point_facts p = p.facts

-- The facts of all points, in order of opening.
abbrev pub facts_in : Book → List Facts
facts_in B = map point_facts B.points

put_facts : (m : ℕ) (p p' : Point) (ps : List Point) → p'.facts ≡ p.facts → find m ps ≡ some p → map point_facts (put m p' ps) ≡ map point_facts ps
unfolding find put
put_facts m p p' [] s e = refl
put_facts m p p' (x ∷ ps) s e = go (eqb m x.facts.mirn) e (put_facts m p p' ps s)
  where
    go : (b : Bool) → cond b (some x) (find m ps) ≡ some p → (find m ps ≡ some p → map point_facts (put m p' ps) ≡ map point_facts ps)
        → map point_facts (cond b (p' ∷ ps) (x ∷ put m p' ps)) ≡ x.facts ∷ map point_facts ps
    go true e ih = ap (λ f. f ∷ map point_facts ps) (s ∙ sym (ap point_facts (some-injective x p e)))
    go false e ih = ap (λ l. x.facts ∷ l) (ih e)

-- a call on a point leaves them where its effect leaves the point's
on_point_facts : (k : ℕ) (m : ℤ) (early : List Row) (rows : Point → List Row) (effect : Point → Numbers × Point)
    → ((p : Point) → (effect p).1.facts ≡ p.facts) → (B : Book) → facts_in (on_point k m early rows effect B).1 ≡ facts_in B
unfolding on_point with_point
on_point_facts k m early rows effect same B = go (find (nat_of m) B.points) refl
  where
    go : (o : Option Point) → find (nat_of m) B.points ≡ o
        → facts_in (decide (least (early ++ maybe ((4, true) ∷ []) rows o)) k B
        (maybe ([], B) (λ p. ((effect p).0, with_point (nat_of m) (effect p).1 B)) o)).1 ≡ facts_in B
    go none e = decide_keeps k B _ (λ C. facts_in C ≡ facts_in B) _ refl (λ z. refl)
    go (some p) e =
        decide_keeps k B _ (λ C. facts_in C ≡ facts_in B) _ refl (λ z. put_facts (nat_of m) p (effect p).1 B.points (same p) e)

entered_facts : (x : Entry) (w : Which) (o : Outcome) (p : Point) → (entered x w o p).1.facts ≡ p.facts
unfolding entered with_entries with_fro with_pending
entered_facts x w (registers u) p = refl
entered_facts x w lapses p = refl
entered_facts x w stays p = refl

-- What holds of the facts, and of these with an opening's behind them where no row sends it back, holds after any notice.
pub facts_after : (P : List Facts → Type 0) (c : Notice) (ed : Edition) (B : Book) → P (facts_in B)
    → ((n : Opening) → c ≡ open! n
    → least (opening_rows ed n (is_some (find (nat_of n.mirn) B.points)) (operators_in B.points)) ≡ 0
    → P (facts_in B ++ (facts_of n ∷ [])))
    → P (facts_in (noted c ed B).1)
unfolding noted opening energy enter status switched with_off request withdraw with_pending opened correct correct_at corrected with_fro
facts_after P (open! n) ed B now more =
    decide_keeps 0 B _ (λ C. P (facts_in C)) _ now (λ z. subst P (sym (map-append point_facts B.points (opened n ∷ []))) (more n refl z))
facts_after P (energy! n) ed B now more = subst P (sym (on_point_facts _ _ _ _ _ (λ p. entered_facts _ _ _ p) B)) now
facts_after P (status! n) ed B now more = subst P (sym (on_point_facts _ _ _ _ _ (λ p. refl) B)) now
facts_after P (request! n holidays) ed B now more = subst P (sym (on_point_facts _ _ _ _ _ (λ p. refl) B)) now
facts_after P (withdraw! n) ed B now more = subst P (sym (on_point_facts _ _ _ _ _ (λ p. refl) B)) now
facts_after P (correct! n) ed B now more = subst P (sym (on_point_facts _ _ _ _ _ (λ p. refl) B)) now
