-- The operators of a register's points: as the book names them, and as a table leaves them. Assumes nothing.
use mathlib.Core.Path.{◌≡◌, refl, sym, ◌∙◌, ap, ap₂}
use mathlib.Core.Bool.{Bool, true, false, cond}
use mathlib.Core.Option.{Option, none, some, some-injective}
use mathlib.Core.List.{List, [], ◌∷◌, ◌++◌, map, map-map}
use Prim.Native.Nat.{ℕ, zero, suc, ◌+◌, ◌≤◌}
use native.Mathlib.Omega.{arith}
use lib.Dec.{eqb, eqb-suc-zero}
use lib.IntN.{ℤ}
use Rattle.numbers.specs.Naturals.{nat_of}
use Rattle.numbers.specs.Search.{maybe}
use Rattle.daybook.specs.Book.{Point}
use Rattle.daybook.specs.Notices.{Row, least, Numbers, decide, operators_in, held}
use Rattle.lists.specs.Lists.{Lists, Register, operator_of, with_operator, book_facts, point_of, with_facts, unnamed_again}
use Rattle.lists.specs.InnerSteps.{find_lists, put_lists, with_lists, on_lists, operators_of}
use Rattle.lists.proofs.Rows.{decide_keeps}

-- The book's operator of a point.
abbrev pub operator : Lists → ℕ
operator q = operator_of q.facts.operator

pub named : (o : ℕ) → 1 ≤ o → operator_of o ≡ o
named zero h = absurd (omega arith)
named (suc o) h = refl

pub operators_are : (qs : List Lists) → operators_in (map point_of qs) ≡ operators_of qs
unfolding point_of
operators_are qs = map-map (λ (p : Point). p.facts.operator) point_of qs

pub held_append : (l m : List ℕ) (o : ℕ) → held (l ++ m) o ≡ held l o + held m o
unfolding held
held_append [] m o = omega arith
held_append (x ∷ l) m o = add (cond (eqb x o) 1 0) _ _ _ (held_append l m o)
  where
    add : (a x y z : ℕ) → x ≡ y + z → a + x ≡ a + y + z
    add a x y z e = omega arith

-- ---- named by the book, and unnamed again

-- A point's lists with the operator that the book names.
abbrev pub named_lists : Lists → Lists
named_lists q = with_facts (book_facts q.facts) q

-- The lists qs, named and then unnamed where those before were, are as they stand.
abbrev pub OperatorsKept : List Lists → List Lists → Type 0
OperatorsKept before qs = unnamed_again before (map named_lists qs) ≡ qs

-- a number of one operator is named as it stands, and a 0 is one again
one_kept : (old q : Lists) → q.facts.operator ≡ old.facts.operator
    → cond (eqb old.facts.operator 0) (with_facts (with_operator 0 (named_lists q).facts) (named_lists q)) (named_lists q) ≡ q
unfolding with_facts
one_kept old q e = go old.facts.operator q.facts.operator e refl
  where
    from : ℕ → Lists
    from o = with_facts (with_operator o q.facts) q

    go : (a o : ℕ) → o ≡ a → q.facts.operator ≡ o → cond (eqb a 0) (from 0) (from (operator_of o)) ≡ q
    go zero o e h = ap from (sym (h ∙ e))
    go (suc a) o e h = rw (eqb-suc-zero a) (ap from (named o (omega arith) ∙ sym h))

pub kept_same : (qs : List Lists) → OperatorsKept qs qs
unfolding unnamed_again
kept_same [] = refl
kept_same (q ∷ qs) = ap₂ ◌∷◌ (one_kept q q refl) (kept_same qs)

-- one more point, whose operator is named
pub kept_more : (q : Lists) → 1 ≤ q.facts.operator → (qs : List Lists) → OperatorsKept qs (qs ++ (q ∷ []))
unfolding unnamed_again with_facts
kept_more q h [] = ap {B = List Lists} (λ o. with_facts (with_operator o q.facts) q ∷ []) (named q.facts.operator h)
kept_more q h (x ∷ qs) = ap₂ ◌∷◌ (one_kept x x refl) (kept_more q h qs)

-- a point in the place of one with its operator
pub kept_put : (m : ℕ) (q q' : Lists) (qs : List Lists) → q'.facts.operator ≡ q.facts.operator → find_lists m qs ≡ some q
    → OperatorsKept qs (put_lists m q' qs)
unfolding unnamed_again find_lists put_lists
kept_put m q q' [] s e = refl
kept_put m q q' (x ∷ qs) s e = go (eqb m x.facts.mirn) e (kept_put m q q' qs s)
  where
    go : (b : Bool) → cond b (some x) (find_lists m qs) ≡ some q → (find_lists m qs ≡ some q → OperatorsKept qs (put_lists m q' qs))
        → OperatorsKept (x ∷ qs) (cond b (q' ∷ qs) (x ∷ put_lists m q' qs))
    go true e ih =
        ap₂ ◌∷◌ (one_kept x q' (s ∙ ap (λ (q : Lists). q.facts.operator) (sym (some-injective x q e)))) (kept_same qs)
    go false e ih = ap₂ ◌∷◌ (one_kept x x refl) (ih e)

-- a call on a point keeps them where its effect keeps the point's
pub on_lists_kept : (k : ℕ) (m : ℤ) (early : List Row) (rows : Lists → List Row) (effect : Lists → Numbers × Lists)
    → ((q : Lists) → (effect q).1.facts.operator ≡ q.facts.operator) → (R : Register)
    → OperatorsKept R.points (on_lists k m early rows effect R).1.points
unfolding on_lists with_lists
on_lists_kept k m early rows effect same R = go (find_lists (nat_of m) R.points) refl
  where
    P : Register → Type 0
    P S = OperatorsKept R.points S.points

    go : (o : Option Lists) → find_lists (nat_of m) R.points ≡ o
        → P (decide (least (early ++ maybe ((4, true) ∷ []) rows o)) k R
        (maybe ([], R) (λ q. ((effect q).0, with_lists (nat_of m) (effect q).1 R)) o)).1
    go none e = decide_keeps k R _ P _ (kept_same R.points) (λ z. kept_same R.points)
    go (some q) e =
        decide_keeps k R _ P _ (kept_same R.points) (λ z. kept_put (nat_of m) q (effect q).1 R.points (same q) e)
