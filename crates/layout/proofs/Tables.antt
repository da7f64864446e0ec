-- A whole register: its lists come back from its numbers and from its days. Assumes nothing.
use mathlib.Core.Path.{◌≡◌, refl, sym, ◌∙◌, ap, ap₂}
use mathlib.Core.List.{List, ◌∷◌, ◌++◌, map, append_assoc}
use Prim.Native.Nat.{ℕ}
use lib.ListN.{length, take, drop}
use lib.Seq.{take_at, drop_at}
use lib.IntN.{ℤ}
use Rattle.daybook.specs.declared.Edition.{Edition}
use Rattle.lists.specs.Lists.{Lists, Register, book_facts, point_of, book_of, with_facts, as_found}
use Rattle.lists.specs.InnerWell.{Well, Points, nopoint, point, WellFormed}
use Rattle.lists.proofs.Operators.{named_lists, OperatorsKept}
use Rattle.lists.proofs.Records.{records_is}
use Rattle.lists.proofs.Registrations.{registrations_is}
use Rattle.lists.proofs.Spans.{point_spans}
use Rattle.layout.specs.Layout.{table_length, stride, pad, point_numbers, points_numbers, layout, point_from, points_from, register_of, table_book, lists_of, book_register, with_book}
use Rattle.layout.proofs.Numbers.{few, length_point}
use Rattle.layout.proofs.Parse.{point_alone}

-- ---- from the numbers

points_back : (ed : Edition) {qs : List Lists} (rest : List ℤ) → Points ed.records qs → points_from ed (length qs) (points_numbers ed.records qs ++ rest) ≡ qs
unfolding points_from points_numbers
points_back ed rest nopoint = refl
points_back ed rest (point {q = q} {qs = qs} w n r) =
    let long : length (point_numbers ed.records q) ≡ stride ed = length_point (few w) in
    let t : List ℤ = points_numbers ed.records qs ++ rest in
    ap (λ s. point_from (take (stride ed) s) ∷ points_from ed (length qs) (drop (stride ed) s)) (append_assoc (point_numbers ed.records q) (points_numbers ed.records qs) rest)
    ∙ ap₂ (λ p s. point_from p ∷ points_from ed (length qs) s) (take_at (point_numbers ed.records q) t (stride ed) long) (drop_at (point_numbers ed.records q) t (stride ed) long)
    ∙ ap₂ ◌∷◌ (point_alone w) (points_back ed rest r)

-- the register that a layout's numbers stand for is the one laid out
pub register_back : (ed : Edition) {R : Register} → WellFormed ed R → (rest : List ℤ) → register_of ed (layout ed R ++ rest) ≡ R
unfolding register_of layout pad
register_back ed {R} w rest = λ i. record { nondaily = R.nondaily; daily = R.daily; points = back i }
  where
    back : points_from ed (length R.points) (drop 8 (layout ed R ++ rest)) ≡ R.points
    back = ap (points_from ed (length R.points)) (append_assoc (points_numbers ed.records R.points) _ rest) ∙ points_back ed _ w.points_ok

-- ---- from the days

lists_back : {room : ℕ} {q : Lists} → Well room q → lists_of (point_of q) ≡ named_lists q
unfolding lists_of point_of with_facts
lists_back {q = q} w = λ i. record {
  facts = book_facts q.facts;
  regs = registrations_is w i;
  offs = point_spans w i;
  recs = records_is w i;
  pending = q.pending;
}

all_back : {room : ℕ} {qs : List Lists} → Points room qs → map lists_of (map point_of qs) ≡ map named_lists qs
all_back nopoint = refl
all_back (point w n r) = ap₂ ◌∷◌ (lists_back w) (all_back r)

-- The register with the operators that the book names.
abbrev pub named_register : Register → Register
named_register R = record { nondaily = R.nondaily; daily = R.daily; points = map named_lists R.points }

-- a book gives back the well-formed lists that it stands for, their operators named
pub book_back : {ed : Edition} {R : Register} → WellFormed ed R → book_register (book_of R) ≡ named_register R
unfolding book_register book_of
book_back {R = R} w = λ i. record { nondaily = R.nondaily; daily = R.daily; points = all_back w.points_ok i }

-- so a book is written as the layout of its lists, where these keep the operators of the table
pub written_is : (ed : Edition) {R : Register} → WellFormed ed R → (t : List ℤ) → OperatorsKept (register_of ed t).points R.points
    → with_book ed t (book_of R) ≡ layout ed R ++ drop table_length t
unfolding with_book as_found
written_is ed {R} w t kept =
    ap (λ S. layout ed (as_found (register_of ed t) S) ++ drop table_length t) (book_back w)
    ∙ ap (λ qs. layout ed (record { nondaily = R.nondaily; daily = R.daily; points = qs }) ++ drop table_length t) kept

-- and its book is read back
pub book_of_layout : (ed : Edition) {R : Register} → WellFormed ed R → (rest : List ℤ) → table_book ed (layout ed R ++ rest) ≡ book_of R
unfolding table_book
book_of_layout ed w rest = ap book_of (register_back ed w rest)

-- one book, one register, but for operators that are not named
pub one_register : {ed : Edition} {R S : Register} → WellFormed ed R → WellFormed ed S → book_of R ≡ book_of S → named_register R ≡ named_register S
one_register w v e = sym (book_back w) ∙ ap book_register e ∙ book_back v
