-- The load apportioned, once the tests before it were passed: it is what the book gives. Assumes nothing.
use mathlib.Core.Path.{◌≡◌, ◌∙◌, ap, ap₂}
use mathlib.Core.Bool.{true}
use mathlib.Core.List.{List, ◌++◌, map}
use Prim.Native.Nat.{ℕ, ◌+◌, ◌-◌, ◌*◌, ◌≤◌, ◌<◌}
use native.Mathlib.Omega.{arith}
use lib.Dec.{leb}
use lib.ListN.{length, drop, replicate, length-append, length-map, length-replicate, get_or-append}
use lib.IntN.{ℤ, pos, sub_ℕ, ◌+ℤ◌, ◌-ℤ◌}
use lib.Signed.{le_z, lt_z}
use borrow.Author.Tests.{leb-true, ltb-true}
use Rattle.numbers.specs.Naturals.{nat_of}
use Rattle.numbers.proofs.Bools.{both}
use Rattle.calendar.specs.Calendar.{within, is_day}
use Rattle.calendar.proofs.Dates.{days_order}
use Rattle.daybook.specs.declared.AllocationQuery.{AllocationQuery}
use Rattle.daybook.specs.Book.{Point, Book}
use Rattle.daybook.specs.Notices.{users}
use Rattle.daybook.specs.Queries.{allocation_in_range, at_least0, tdm_of, nsl_of, weight, weights, total, split, point_shares, total_of}
use Rattle.lists.proofs.Bounds.{within_bounds}
use Rattle.lists.proofs.Splits.{split_length}
use Rattle.layout.specs.Calls.{placed}
use Rattle.table.specs.declared.register.Register.{Register}
use Rattle.table.specs.InnerRegisters.{book, number_of_points}
use Rattle.allocate.specs.InnerParts.{padded, SharesBelow, total_to, load_of, MaySplit, given_of}
use Rattle.allocate.proofs.Loads.{is_load, next_order}
use Rattle.allocate.proofs.Arrays.{points_few_lem}
use Rattle.allocate.proofs.Given.{total_padded, split_padded, split_small, user_total}

-- ---- numbers in range

pub record InRange (q : AllocationQuery) : Type 0 where
  pub gasday_low : 1 ≤ nat_of q.gasday
  pub gasday_high : nat_of q.gasday ≤ 39999
  pub order : nat_of q.from ≤ nat_of q.to + 1
  pub window : nat_of q.to ≤ nat_of q.from + 399
  pub to_high : nat_of q.to ≤ 39999
  pub tdq_ok : within (pos 0) (pos 1000000000) q.tdq ≡ true
  pub uag_ok : is_load q.uag ≡ true
  pub clp_ok : is_load q.clp ≡ true

pub in_range_tells : (q : AllocationQuery) (room : ℕ) → allocation_in_range q room ≡ true → InRange q × (32 ≤ room)
in_range_tells q room e =
    let j = both _ (leb 32 room) e in
    let i = both _ (is_load q.clp) j.0 in
    let h = both _ (is_load q.uag) i.0 in
    let g = both _ (within (pos 0) (pos 1000000000) q.tdq) h.0 in
    let f = both _ (leb (nat_of q.to - nat_of q.from) 399) g.0 in
    let d = both _ (lt_z q.to q.gasday) f.0 in
    let c = both _ (le_z q.from (q.to +ℤ pos 1)) d.0 in
    let b = both _ (is_day q.to) c.0 in
    let a = both (is_day q.gasday) (is_day q.from) b.0 in
    let day : (z : ℤ) → is_day z ≡ true → nat_of z ≤ 39999 = λ z k. (within_bounds 0 39999 z k).1 in
    let before : nat_of q.to < nat_of q.gasday = ltb-true _ _ ((days_order q.to q.gasday b.1 a.0).1 ∙ d.1) in (
      record {
        gasday_low = omega arith;
        gasday_high = day q.gasday a.0;
        order = leb-true _ _ (next_order q.from q.to a.1 b.1 ∙ c.1);
        window = let days : nat_of q.to - nat_of q.from ≤ 399 = leb-true _ _ f.1 in omega arith;
        to_high = day q.to b.1;
        tdq_ok = g.1;
        uag_ok = h.1;
        clp_ok = i.1;
      },
      leb-true 32 room j.1,
    )

-- ---- arrays of 32

pub padded_32 : (l : List ℕ) → length l ≤ 32 → length (padded l) ≡ 32
unfolding padded
padded_32 l h = simp (length-append, length-replicate) (omega arith)

pub placed_long : (xs out : List ℤ) → length xs ≡ 32 → 32 ≤ length (placed xs out)
unfolding placed
placed_long xs out e = simp length-append (omega arith)

-- ---- what is given

module _ {r : Register} {q : AllocationQuery} {ws : List ℕ} {s room : ℕ} (given : MaySplit r q ws s room) where
  abbrev B : Book
  B = book r

  abbrev G : ℕ
  G = nat_of q.gasday

  few_points : length B.points ≤ 32
  few_points = points_few_lem r.edition r.fits r.table.now r.is_sound

  pub in_range_lem : InRange q
  in_range_lem = (in_range_tells q room given.in_range).0

  pub load_is : {load : ℕ} (tdm : ℕ) → load ≡ at_least0 (load_of q tdm (1000000 * number_of_points r)) → sub_ℕ tdm (1000000 * number_of_points r) ≡ tdm_of G B → load ≡ nsl_of q B
  unfolding nsl_of
  load_is tdm e f = e ∙ ap (λ z. at_least0 (q.tdq -ℤ z -ℤ q.uag -ℤ q.clp)) f

  sum_is : s ≡ total (weights q B)
  sum_is = given.sum ∙ ap total given.weigh ∙ total_padded (weights q B)

  pub fros_32 : length (padded (map (λ p. p.fro G) B.points)) ≡ 32
  fros_32 = padded_32 (map (λ p. p.fro G) B.points) (omega (arith, length-map B.points (λ p. p.fro G), few_points))

  pub weigh_32 : length ws ≡ 32
  unfolding weights
  weigh_32 = ap length given.weigh ∙ padded_32 (weights q B) (omega (arith, length-map B.points (weight G (nat_of q.from) (nat_of q.to)), few_points))

  pub split_32 : (load : ℕ) → length (split load s 0 ws) ≡ 32
  split_32 load = split_length load s 0 ws ∙ weigh_32

  module _ {load : ℕ} (is : load ≡ nsl_of q B) where
    abbrev w : Point → ℕ
    w = weight G (nat_of q.from) (nat_of q.to)

    split_is : split load s 0 ws ≡ split load s 0 (map w B.points) ++ replicate (32 - length B.points) (pos 0)
    unfolding weights
    split_is =
        ap (split load s 0) given.weigh ∙ split_padded load s (map w B.points)
        ∙ ap (λ n. split load s 0 (map w B.points) ++ replicate (32 - n) (pos 0)) (length-map B.points w)

    own_is : split load s 0 (map w B.points) ≡ point_shares q B
    unfolding point_shares weights
    own_is = ap₂ (λ l z. split l z 0 (map w B.points)) is sum_is

    -- the 32 numbers
    pub shares_are : split load s 0 ws ≡ (given_of q B).1
    unfolding given_of
    shares_are = split_is ∙ ap (λ l. l ++ replicate (32 - length B.points) (pos 0)) own_is

    pub shares_small : load ≤ 3032000000 → (out : List ℤ) → SharesBelow 3032000000 (placed (split load s 0 ws) out)
    unfolding placed
    shares_small h out k l =
        let z : 0 + total ws ≤ s = omega (arith, given.sum) in
        rw (get_or-append (split load s 0 ws) (drop (length (split load s 0 ws)) out) (pos 0) k (omega (arith, split_32 load)))
        (omega (arith, split_small load s given.some 0 ws z k))

    -- the sixteen totals
    pub totals_are : (out : List ℤ) → map (λ u. pos (total_to (padded (map (λ p. p.fro G) B.points)) (placed (split load s 0 ws) out) u 32)) users ≡ map (λ u. total_of G u B.points (point_shares q B)) users
    unfolding placed
    totals_are out i = map (λ u. own u i) users
      where
        own : (u : ℕ) → pos (total_to (padded (map (λ p. p.fro G) B.points)) (placed (split load s 0 ws) out) u 32) ≡ total_of G u B.points (point_shares q B)
        own u =
            ap (λ l. pos (total_to (padded (map (λ p. p.fro G) B.points)) (l ++ drop (length (split load s 0 ws)) out) u 32)) split_is
            ∙ user_total load s given.some G w B.points few_points (drop (length (split load s 0 ws)) out) u
            ∙ ap (total_of G u B.points) own_is
