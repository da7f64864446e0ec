use Rattle.std.proofs.Common.{◌≡◌, List, ℕ, ℤ, refl, sym, ◌∙◌, ap, map, length, arith, rules}
use Rattle.std.proofs.lemmas.Result.{err_from_is_err_and}
use Rattle.numbers.specs.Naturals.{nat_of}
use Rattle.daybook.specs.declared.AllocationQuery.{AllocationQuery}
use Rattle.daybook.specs.Book.{Book}
use Rattle.daybook.specs.Queries.{weight, weights, total}
use Rattle.table.specs.InnerRegisters.{book}
use Rattle.table.proofs.Locating.{not_sound}
use Rattle.table.proofs.Registers.{own_edition, table_passes}
use Rattle.daybook.specs.Editions.{editions}
use Rattle.allocate.specs.Allocate.{allocate_call}
use Rattle.allocate.specs.InnerParts.{padded}
use Rattle.allocate.proofs.Given.{total_padded}
use Rattle.allocate.proofs.Apportioned.{in_range_tells}
use Rattle.allocate.proofs.Call.{sent_back_lem, handed_out, call_unsound, call_range, call_weightless, call_given}
use Rattle.allocate.proofs.allocate.Goals as goal

-- the weights are the book's, and so is their sum
module _ (q : AllocationQuery) (B : Book) {ws : List ℕ} where
  weights_are : {g a b : ℕ} → ws ≡ padded (map (weight g a b) B.points) → g ≡ nat_of q.gasday → a ≡ nat_of q.from → b ≡ nat_of q.to → ws ≡ padded (weights q B)
  unfolding weights
  weights_are e g a b = e ∙ (λ i. padded (map (weight (g i) (a i) (b i)) B.points))

  sum_is : {s : ℕ} → s ≡ total ws → ws ≡ padded (weights q B) → s ≡ total (weights q B)
  sum_is e w = e ∙ ap total w ∙ total_padded _

-- the call on one table is that on the same table
call_on : {t u : List ℤ} (q : AllocationQuery) (room : ℕ) → t ≡ u → allocate_call editions t q room ≡ allocate_call editions u q room
call_on q room = ap (λ t. allocate_call editions t q room)

pub returns-in_err-register : goal.returns-in_err-register
returns-in_err-register c =
    let p = err_from_is_err_and c.from_residual.result c.from_residual.ensures.1 in
    let w = not_sound _ c.in_err-register.ensures.is in
    rw (p.1, p.2, w.0) (sent_back_lem 1 c.args.out.now (call_unsound _ _ refl _ _ w.1))

pub returns-then-not-in_range : goal.returns-then-not-in_range
returns-then-not-in_range c =
    let ed = table_passes c.in_ok-register.register c.in_ok-register.ensures.ok in
    sent_back_lem 2 c.args.out.now (call_range _ _ ed.1 _ _ ed.2 (sym c.in_range.ensures ∙ c.if-not-in_range.true))

pub weights-ws-requires : goal.weights-ws-requires
weights-ws-requires c =
    let q = c.args.q in
    let ok = (in_range_tells q (length c.args.out.now) (sym c.in_range.ensures ∙ c.if-not-in_range.false)).0 in
    let gasday : c.natural-gasday.result ≡ nat_of q.gasday = search rules in
    let from : c.natural-from.result ≡ nat_of q.from = search rules in
    let to : c.natural-to.result ≡ nat_of q.to = search rules in (
      omega (arith, ok.gasday_high, gasday),
      omega (arith, ok.order, from, to),
      omega (arith, ok.window, from, to),
      omega (arith, ok.to_high, to),
    )

pub returns-then-s-eq0 : goal.returns-then-s-eq0
returns-then-s-eq0 c =
    let r = c.in_ok-register.register in
    let ok = c.in_ok-register.ensures.ok in
    let weigh = weights_are c.args.q (book r) c.weights-ws.ensures.0 (search rules) (search rules) (search rules) in
    let sum = sum_is c.args.q (book r) c.sum_of-s.ensures weigh in
    sent_back_lem 15 c.args.out.now
    (call_on _ _ (sym ok.0) ∙ call_weightless _ _ (own_edition r ok) _ _ r.is_sound (sym c.in_range.ensures ∙ c.if-not-in_range.false) (sym sum ∙ c.if-s-eq0.true))

pub apportion-requires : goal.apportion-requires
apportion-requires c =
    record {
      in_range = sym c.in_range.ensures ∙ c.if-not-in_range.false;
      weigh = weights_are c.args.q (book c.in_ok-register.register) c.weights-ws.ensures.0 (search rules) (search rules) (search rules);
      sum = c.sum_of-s.ensures;
      some = omega (arith, c.if-s-eq0.false);
      few = omega (arith, c.weights-ws.ensures.1);
    }

pub returns : goal.returns
returns c =
    let r = c.in_ok-register.register in
    let ok = c.in_ok-register.ensures.ok in
    let weigh = weights_are c.args.q (book r) c.weights-ws.ensures.0 (search rules) (search rules) (search rules) in
    let sum = sum_is c.args.q (book r) c.sum_of-s.ensures weigh in
    handed_out c.args.out.now c.apportion.ensures
    (call_on _ _ (sym ok.0) ∙ call_given _ _ (own_edition r ok) _ _ r.is_sound (sym c.in_range.ensures ∙ c.if-not-in_range.false) (λ z. c.if-s-eq0.false (sum ∙ z)))
