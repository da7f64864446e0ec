-- Lists in another edition: well-formed where it has room for their book, and so with the operators that the book names.
-- Assumes nothing.
use mathlib.Core.Path.{◌≡◌, refl, ◌∙◌, ap, ap₂}
use mathlib.Core.Bool.{Bool, true, false, ◌||◌, cond}
use mathlib.Core.Option.{none, some}
use mathlib.Core.List.{List, [], ◌∷◌, map}
use Prim.Native.Nat.{ℕ, zero, suc, ◌+◌, ◌≤◌}
use native.Mathlib.Omega.{arith}
use lib.Dec.{ltb, eqb}
use lib.ListN.{length, length-map}
use borrow.Author.Tests.{ltb-false}
use Rattle.numbers.specs.Search.{maybe}
use Rattle.numbers.proofs.Bools.{neither}
use Rattle.daybook.specs.declared.Edition.{Edition}
use Rattle.daybook.specs.Book.{Point, Book, records}
use Rattle.daybook.specs.Notices.{operators_in, unfilled, over_four}
use Rattle.daybook.specs.Editions.{largest, most_records, no_room}
use Rattle.lists.specs.Lists.{Lists, Register, user_on, off_on, entry_on, operator_of, with_operator, point_of, book_of, with_facts}
use Rattle.lists.specs.InnerSteps.{find_lists}
use Rattle.lists.specs.InnerWell.{FactsOk, Well, Points, nopoint, point, WellFormed}
use Rattle.lists.proofs.Operators.{named_lists}
use Rattle.lists.proofs.Records.{records_is}

-- ---- room in another edition

with_room : {room room' : ℕ} {q : Lists} → Well room q → length q.recs ≤ room' → Well room' q
with_room w h =
    record {
      facts_ok = w.facts_ok;
      regs_ok = w.regs_ok;
      regs_start = w.regs_start;
      regs_few = w.regs_few;
      offs_ok = w.offs_ok;
      offs_few = w.offs_few;
      recs_ok = w.recs_ok;
      recs_few = h;
      pending_ok = w.pending_ok;
    }

few_records : {room : ℕ} (room' : ℕ) {qs : List Lists} → Points room qs → most_records (map point_of qs) ≤ room' → Points room' qs
unfolding most_records largest
few_records room' nopoint h = nopoint
few_records room' (point {q = q} {qs = qs} w n r) h =
    let own : length (records (point_of q)) ≡ length q.recs = ap length (records_is w) in
    point (with_room w (omega (arith, own, h))) n (few_records room' r (omega (arith, h)))

-- What an edition that has room for a book says of it.
pub record HasRoom (to : Edition) (ps : List Point) : Type 0 where
  pub points : length ps ≤ to.points
  pub records : most_records ps ≤ to.records
  pub reserves : length ps + over_four (unfilled to (operators_in ps)) ≤ to.points

pub has_room : (to : Edition) (B : Book) → no_room to B ≡ false → HasRoom to B.points
unfolding no_room
has_room to B e =
    let ps : List Point = B.points in
    let b = neither (ltb to.points (length ps) || ltb to.records (most_records ps)) _ e in
    let a = neither (ltb to.points (length ps)) (ltb to.records (most_records ps)) b.0 in
    record { points = ltb-false _ _ a.0; records = ltb-false _ _ a.1; reserves = ltb-false _ _ b.1 }

pub room_well : {ed : Edition} (to : Edition) {R : Register} → WellFormed ed R → no_room to (book_of R) ≡ false → WellFormed to R
unfolding book_of
room_well to {R} w e =
    let h : HasRoom to (book_of R).points = has_room to (book_of R) e in
    record {
      nondaily_ok = w.nondaily_ok;
      daily_ok = w.daily_ok;
      points_few = omega (arith, h.points, length-map R.points point_of);
      points_ok = few_records to.records w.points_ok h.records;
    }

-- ---- operators named

operator_small : (o : ℕ) → o ≤ 4 → operator_of o ≤ 4
operator_small zero h = omega arith
operator_small (suc o) h = h

pub named_well : {room : ℕ} {q : Lists} → Well room q → Well room (named_lists q)
unfolding with_facts
named_well {q = q} w =
    record {
      facts_ok =
          let f : FactsOk q.facts = w.facts_ok in
          record {
            mirn_low = f.mirn_low;
            mirn_high = f.mirn_high;
            kind_ok = f.kind_ok;
            install_ok = f.install_ok;
            base_ok = f.base_ok;
            section_ok = f.section_ok;
            operator_ok = operator_small q.facts.operator f.operator_ok;
          };
      regs_ok = w.regs_ok;
      regs_start = w.regs_start;
      regs_few = w.regs_few;
      offs_ok = w.offs_ok;
      offs_few = w.offs_few;
      recs_ok = w.recs_ok;
      recs_few = w.recs_few;
      pending_ok = w.pending_ok;
    }

find_named : (m : ℕ) (qs : List Lists) → find_lists m (map named_lists qs) ≡ maybe none (λ q. some (named_lists q)) (find_lists m qs)
unfolding find_lists with_facts
find_named m [] = refl
find_named m (q ∷ qs) = go (eqb m q.facts.mirn) (find_named m qs)
  where
    go : (b : Bool) → find_lists m (map named_lists qs) ≡ maybe none (λ q. some (named_lists q)) (find_lists m qs)
        → cond b (some (named_lists q)) (find_lists m (map named_lists qs)) ≡ maybe none (λ q. some (named_lists q)) (cond b (some q) (find_lists m qs))
    go true ih = refl
    go false ih = ih

pub named_points : {room : ℕ} {qs : List Lists} → Points room qs → Points room (map named_lists qs)
unfolding with_facts
named_points nopoint = nopoint
named_points (point {q = q} {qs = qs} w n r) =
    point (named_well w) (find_named q.facts.mirn qs ∙ ap (maybe none (λ q. some (named_lists q))) n) (named_points r)

-- the book is the same
named_twice : (o : ℕ) → operator_of (operator_of o) ≡ operator_of o
named_twice zero = refl
named_twice (suc o) = refl

pub named_book : (qs : List Lists) → map point_of (map named_lists qs) ≡ map point_of qs
unfolding point_of with_facts
named_book [] = refl
named_book (q ∷ qs) =
    ap₂ {C = List Point} (λ o ps. point_with o ∷ ps) (named_twice q.facts.operator) (named_book qs)
  where
    point_with : ℕ → Point
    point_with o =
        record {
          facts = with_operator o q.facts;
          entry = entry_on q.recs;
          off = off_on q.offs;
          fro = user_on 0 q.regs;
          pending = q.pending;
        }
