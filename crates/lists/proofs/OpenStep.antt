-- fresh makes a well-formed register; open is the step on the lists, and keeps the register well-formed.
use mathlib.Core.Path.{◌≡◌, refl, sym, ◌∙◌, ap, ap₂}
use mathlib.Core.Bool.{Bool, true, false, cond, true≢false}
use mathlib.Core.Option.{Option, none, some, none-ne-some}
use mathlib.Core.List.{List, [], ◌∷◌, ◌++◌, map, map-append}
use Prim.Native.Nat.{ℕ, suc, ◌-◌, ◌≤◌, ◌<◌}
use native.Mathlib.Omega.{arith}
use lib.Dec.{eqb}
use lib.ListN.{length, length-append, length-map}
use lib.IntN.{ℤ, pos, negsuc}
use lib.Signed.{le_z}
use borrow.Author.Tests.{leb-true, leb-false, ltb-false, le-leb, eqb-false, ne_eqb}
use Rattle.numbers.specs.Naturals.{nat_of}
use Rattle.numbers.specs.Search.{maybe, is_some}
use Rattle.numbers.proofs.Bools.{both}
use Rattle.calendar.specs.Calendar.{within}
use Rattle.daybook.specs.declared.NewRegister.{NewRegister}
use Rattle.daybook.specs.declared.Opening.{Opening}
use Rattle.daybook.specs.declared.Edition.{Edition}
use Rattle.daybook.specs.declared.Facts.{Facts}
use Rattle.daybook.specs.Book.{Point, Book, from_on}
use Rattle.daybook.specs.Notices.{least, Numbers, decide, is_range, find, fresh_rows, facts_of, opened, operators_in, others_unfilled, opening_rows, opening}
use Rattle.lists.specs.Lists.{Lists, Register, user_on, off_on, entry_on, with_operator, point_of, book_of}
use Rattle.lists.specs.InnerSteps.{find_lists, opened_lists, operators_of, opening_lists}
use Rattle.lists.specs.InnerWell.{Regs, noreg, reg, starts, nospan, norec, nopending, FactsOk, Well, Points, nopoint, point, WellFormed}
use Rattle.lists.proofs.Rows.{least_none, decide_map_where, decide_keeps}
use Rattle.lists.proofs.Points.{find_is}
use Rattle.lists.proofs.Operators.{operator, named, operators_are, OperatorsKept, kept_same, kept_more}
use Rattle.lists.proofs.Bounds.{within_bounds, both_hold}

-- ---- fresh

-- What holds of the numbers of a fresh that isn't sent back.
pub record FreshClear (n : NewRegister) : Type 0 where
  pub nondaily_ok : is_range n.nondaily ≡ true
  pub daily_ok : is_range n.daily ≡ true
  pub edition_ok : nat_of n.edition ≤ 1

pub fresh_clear : (n : NewRegister) → least (fresh_rows n) ≡ 0 → FreshClear n
unfolding fresh_rows
fresh_clear n z =
    let b = both_hold _ _ (least_none 1 _ [] z).0 in
    let a = both (is_range n.nondaily) (is_range n.daily) b.0 in
    record { nondaily_ok = a.0; daily_ok = a.1; edition_ok = (within_bounds 0 1 n.edition b.1).1 }

-- No points, with ranges that aren't sent back, are well-formed.
pub no_points : (ed : Edition) (n : NewRegister) → least (fresh_rows n) ≡ 0
    → WellFormed ed (record { nondaily = n.nondaily; daily = n.daily; points = [] })
no_points ed n z =
    let clear : FreshClear n = fresh_clear n z in
    record { nondaily_ok = clear.nondaily_ok; daily_ok = clear.daily_ok; points_few = omega arith; points_ok = nopoint }

-- ---- open

-- What holds of an opening that isn't sent back, where `known` says whether its MIRN is among the points and `operators`
-- are the points' operators.
pub record OpenClear (ed : Edition) (n : Opening) (known : Bool) (operators : List ℕ) : Type 0 where
  pub mirn_low : 1 ≤ nat_of n.mirn
  pub mirn_high : nat_of n.mirn ≤ 9999999999
  pub kind_ok : nat_of n.kind ≤ 1
  pub user_low : 1 ≤ nat_of n.user
  pub user_high : nat_of n.user ≤ 16
  pub install_ok : nat_of n.install ≤ 39999
  pub base_ok : within (negsuc 0) (pos 10000) n.base ≡ true
  pub section_ok : nat_of n.section ≤ 1
  pub operator_low : 1 ≤ nat_of n.operator
  pub operator_high : nat_of n.operator ≤ 4
  pub new : known ≡ false
  pub room : length operators < ed.points
  pub covers : others_unfilled ed operators (nat_of n.operator) ≤ ed.points - suc (length operators)

pub open_clear : (ed : Edition) (n : Opening) (known : Bool) (operators : List ℕ)
    → least (opening_rows ed n known operators) ≡ 0 → OpenClear ed n known operators
unfolding opening_rows
open_clear ed n known operators z =
    let two = least_none 1 _ _ z in
    let five = least_none 4 known _ two.1 in
    let sixteen = least_none 15 _ _ five.1 in
    let nineteen = least_none 18 _ [] sixteen.1 in
    let operator = both_hold _ _ two.0 in
    let section = both _ _ operator.0 in
    let base = both _ _ section.0 in
    let install = both _ _ base.0 in
    let user = both _ _ install.0 in
    let kind = both _ _ user.0 in
    let m = within_bounds 1 9999999999 n.mirn kind.0 in
    let u = within_bounds 1 16 n.user user.1 in
    let o = within_bounds 1 4 n.operator operator.1 in
    record {
      mirn_low = m.0;
      mirn_high = m.1;
      kind_ok = (within_bounds 0 1 n.kind kind.1).1;
      user_low = u.0;
      user_high = u.1;
      install_ok = (within_bounds 0 39999 n.install install.1).1;
      base_ok = base.1;
      section_ok = (within_bounds 0 1 n.section section.1).1;
      operator_low = o.0;
      operator_high = o.1;
      new = five.0;
      room = leb-false ed.points (length operators) sixteen.0;
      covers = ltb-false _ _ nineteen.0;
    }

-- A base load that isn't sent back, -1 read as 1,000, is at most 10,000.
base_bound : (z : ℤ) → within (negsuc 0) (pos 10000) z ≡ true → cond (le_z (pos 0) z) (nat_of z) 1000 ≤ 10000
base_bound (pos b) e = rw (le-leb 0 b (omega arith)) (leb-true b 10000 e)
base_bound (negsuc b) e = omega arith

-- Its facts are in range.
pub facts_ok_lem : {ed : Edition} {n : Opening} {known : Bool} {operators : List ℕ} → OpenClear ed n known operators
    → FactsOk (facts_of n)
unfolding facts_of
facts_ok_lem {n = n} clear =
    record {
      mirn_low = clear.mirn_low;
      mirn_high = clear.mirn_high;
      kind_ok = clear.kind_ok;
      install_ok = clear.install_ok;
      base_ok = base_bound n.base clear.base_ok;
      section_ok = clear.section_ok;
      operator_ok = clear.operator_high;
    }

-- The point of the new lists is the book's new point.
pub opened_is : (n : Opening) → 1 ≤ nat_of n.operator → point_of (opened_lists n) ≡ opened n
unfolding point_of opened_lists opened facts_of user_on off_on entry_on from_on
opened_is n h = ap (λ o. with_facts_of (with_operator o (facts_of n))) (named (nat_of n.operator) h)
  where
    with_facts_of : Facts → Point
    with_facts_of f = record { facts = f; entry = (opened n).entry; off = (opened n).off; fro = (opened n).fro; pending = none }

-- open on the days is open on the lists.
pub open_step : (ed : Edition) (n : Opening) (R : Register)
    → opening ed n (book_of R) ≡ ((opening_lists ed n R).0, book_of (opening_lists ed n R).1)
unfolding opening opening_lists book_of
open_step ed n R =
    ap (λ rows. decide (least rows) 0 (book_of R) ([], with_points (map point_of R.points ++ (opened n ∷ [])))) rows_is
    ∙ decide_map_where book_of _ 0 R _ _ (λ z. ap {B = Numbers × Book} (λ ps. ([], with_points ps)) (points_is (open_clear ed n _ _ z).operator_low))
  where
    with_points : List Point → Book
    with_points ps = record { nondaily = R.nondaily; daily = R.daily; points = ps }

    found : (o : Option Lists) → is_some (maybe none (λ q. some (point_of q)) o) ≡ is_some o
    found none = refl
    found (some q) = refl

    known_is : is_some (find (nat_of n.mirn) (map point_of R.points)) ≡ is_some (find_lists (nat_of n.mirn) R.points)
    known_is = ap is_some (find_is (nat_of n.mirn) R.points) ∙ found (find_lists (nat_of n.mirn) R.points)

    rows_is : opening_rows ed n (is_some (find (nat_of n.mirn) (map point_of R.points))) (operators_in (map point_of R.points))
        ≡ opening_rows ed n (is_some (find_lists (nat_of n.mirn) R.points)) (operators_of R.points)
    rows_is = ap₂ (opening_rows ed n) known_is (operators_are R.points)

    points_is : 1 ≤ nat_of n.operator → map point_of R.points ++ (opened n ∷ []) ≡ map point_of (R.points ++ (opened_lists n ∷ []))
    points_is h =
        ap (λ p. map point_of R.points ++ (p ∷ [])) (sym (opened_is n h))
        ∙ sym (map-append point_of R.points (opened_lists n ∷ []))

-- A new point is well-formed: one registration from the install day on, and nothing else.
pub opened_well : {ed : Edition} {n : Opening} {known : Bool} {operators : List ℕ} (room : ℕ) → OpenClear ed n known operators
    → Well room (opened_lists n)
unfolding opened_lists facts_of
opened_well {n = n} room clear =
    record {
      facts_ok = facts_ok_lem clear;
      regs_ok = registered;
      regs_start = starts refl;
      regs_few = omega arith;
      offs_ok = nospan;
      offs_few = omega arith;
      recs_ok = norec;
      recs_few = omega arith;
      pending_ok = nopending;
    }
  where
    registered : Regs 0 (nat_of n.install) ((nat_of n.install, nat_of n.user) ∷ [])
    registered =
        reg {lo = nat_of n.install} {x = (nat_of n.install, nat_of n.user)} (omega arith) (omega arith) clear.user_low
        clear.user_high (ne_eqb 0 (nat_of n.user) (omega arith)) noreg

-- A MIRN that isn't among the points, nor that of a point behind them, isn't among them all.
find_last : (m : ℕ) (qs : List Lists) (q : Lists) → find_lists m qs ≡ none → eqb m q.facts.mirn ≡ false
    → find_lists m (qs ++ (q ∷ [])) ≡ none
unfolding find_lists
find_last m [] q e h = rw h
find_last m (x ∷ xs) q e h = go (eqb m x.facts.mirn) e (λ f. find_last m xs q f h)
  where
    go : (t : Bool) → cond t (some x) (find_lists m xs) ≡ none → (find_lists m xs ≡ none → find_lists m (xs ++ (q ∷ [])) ≡ none)
        → cond t (some x) (find_lists m (xs ++ (q ∷ []))) ≡ none
    go true e ih = e
    go false e ih = ih e

-- A point whose MIRN is new may come last.
pub points_append : {room : ℕ} {qs : List Lists} {q : Lists} → Points room qs → Well room q
    → find_lists q.facts.mirn qs ≡ none → Points room (qs ++ (q ∷ []))
unfolding find_lists
points_append nopoint w e = point w refl nopoint
points_append {room} {q = q} (point {q = x} {qs = xs} v d r) w e =
    go (eqb q.facts.mirn x.facts.mirn) refl e (points_append r w)
  where
    go : (t : Bool) → eqb q.facts.mirn x.facts.mirn ≡ t → cond t (some x) (find_lists q.facts.mirn xs) ≡ none
        → (find_lists q.facts.mirn xs ≡ none → Points room (xs ++ (q ∷ []))) → Points room (x ∷ xs ++ (q ∷ []))
    go true h e ih = absurd (none-ne-some x (sym e))
    go false h e ih =
        let other : ¬ (q.facts.mirn ≡ x.facts.mirn) = eqb-false _ _ h in
        point v (find_last x.facts.mirn xs q d (ne_eqb x.facts.mirn q.facts.mirn (omega arith))) (ih e)

-- open keeps a register well-formed.
pub open_keeps : (ed : Edition) (n : Opening) {R : Register} → WellFormed ed R → WellFormed ed (opening_lists ed n R).1
unfolding opening_lists opened_lists facts_of
open_keeps ed n {R} ok = decide_keeps 0 R _ (WellFormed ed) _ ok (λ z. after (open_clear ed n _ _ z))
  where
    missing : (o : Option Lists) → is_some o ≡ false → o ≡ none
    missing none e = refl
    missing (some q) e = absurd (true≢false e)

    after : OpenClear ed n (is_some (find_lists (nat_of n.mirn) R.points)) (operators_of R.points)
        → WellFormed ed (record { nondaily = R.nondaily; daily = R.daily; points = R.points ++ (opened_lists n ∷ []) })
    after clear =
        record {
          nondaily_ok = ok.nondaily_ok;
          daily_ok = ok.daily_ok;
          points_few = simp length-append (omega (arith, clear.room, length-map R.points operator));
          points_ok = points_append ok.points_ok (opened_well ed.records clear) (missing _ clear.new);
        }

-- It leaves the operators of the points that were there as they stood.
pub open_kept : (ed : Edition) (n : Opening) (R : Register) → OperatorsKept R.points (opening_lists ed n R).1.points
unfolding opening_lists opened_lists facts_of
open_kept ed n R =
    decide_keeps 0 R _ (λ (S : Register). OperatorsKept R.points S.points) _ (kept_same R.points) (λ z.
    kept_more (opened_lists n) (open_clear ed n _ _ z).operator_low R.points)
