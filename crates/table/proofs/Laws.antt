-- What the loops and the parts of the whole table need. Assumes nothing.
use mathlib.Core.Path.{◌≡◌, sym, ap, ◌∙◌}
use mathlib.Core.Bool.{Bool, true, false, not, ◌&&◌}
use mathlib.Core.List.{List, ◌++◌}
use Prim.Native.Nat.{ℕ, suc, ◌+◌, ◌-◌, ◌*◌, ◌≤◌, ◌<◌}
use native.Mathlib.Omega.{arith}
use native.Mathlib.Nat.{mul-suc, mul-le-mul_left}
use lib.Dec.{leb, eqb}
use lib.ListN.{get_or, length, take, drop}
use lib.Seq.{drop-drop}
use lib.IntN.{ℤ, pos, negsuc}
use borrow.Author.Tests.{le-leb, lt-leb, eq-eqb, ne_eqb, leb-true}
use Rattle.std.specs.Prelude.{Option as Maybe, Some, None, MatchOption}
use Rattle.numbers.specs.InnerEnergies.{bias_of}
use Rattle.numbers.specs.Rows.{all}
use Rattle.numbers.specs.Search.{option_of}
use Rattle.numbers.proofs.Bools.{both}
use Rattle.numbers.proofs.Rows.{all_none, all_more, all_fails, all_done}
use Rattle.numbers.proofs.Search.{first_is_lem, first_none}
use Rattle.daybook.specs.Notices.{is_range}
use Rattle.daybook.specs.declared.Edition.{Edition}
use Rattle.layout.specs.Layout.{table_length, stride, place_of, Fits, part_of, num_at, points_from}
use Rattle.layout.specs.InnerWrites.{with_part}
use Rattle.layout.specs.Sound.{zeros, part_sound, mirns_differ, sound}
use Rattle.layout.specs.InnerMirns.{later_differ}
use Rattle.layout.proofs.TableSound.{Tested, tested}
use Rattle.table.specs.InnerTable.{body_sound}
use Rattle.table.specs.Lookup.{index_of}

-- The part of point i as code lends it, from place a to place b, and the table once it is back.
abbrev pub lent : List ℤ → ℕ → ℕ → List ℤ
lent t a b = take (b - a) (drop a t)

abbrev pub back_in : List ℤ → ℕ → ℕ → List ℤ → List ℤ
back_in t a b p = take a t ++ (p ++ drop (b - a) (drop a t))

-- a point's place lies in the table, and the next point's place is where it ends
module _ (ed : Edition) (f : Fits ed) (i : ℕ) where
  pub place_small : i ≤ ed.points → place_of ed i ≤ table_length
  place_small h =
      let m : stride ed * i ≤ stride ed * ed.points = mul-le-mul_left (stride ed) h in omega (arith, f.in_table)

  pub place_next : place_of ed (i + 1) ≡ place_of ed i + stride ed
  place_next =
      let z : i + 1 ≡ suc i = omega arith in rw z (omega (arith, mul-suc (stride ed) i))

module _ (ed : Edition) (f : Fits ed) (t : List ℤ) (i a b : ℕ) (e : a ≡ place_of ed i) (g : b ≡ place_of ed (i + 1)) where
  long : b - a ≡ stride ed
  long = omega (arith, place_next ed f i)

  pub part_is_lem : lent t a b ≡ part_of ed t i
  unfolding part_of
  part_is_lem = rw (long, e)

  pub part_put : (p : List ℤ) → back_in t a b p ≡ with_part ed t i p
  unfolding with_part
  part_put p = rw (long, e) (ap (λ l. take (place_of ed i) t ++ (p ++ l)) (drop-drop (stride ed) (place_of ed i) t))

-- a validation range is an energy
pub range_small : (z : ℤ) → is_range z ≡ true → bias_of z ≤ 2000000
range_small (pos n) e = rw e (omega (arith, leb-true n 1000000 e))
range_small (negsuc n) e =
    let z : n ≡ 0 = omega (arith, leb-true n 0 (both (leb n 0) true e).0) in rw z (omega arith)

-- Is point i's MIRN another than that of point i + 1 + j?
abbrev pub differ_at : Edition → List ℤ → ℕ → ℕ → Bool
differ_at ed t i j = not (eqb (num_at t (place_of ed i)) (num_at t (place_of ed (suc i + j))))

abbrev pub mirn_at : Edition → List ℤ → ℕ → ℕ → Bool
mirn_at ed t m i = eqb (num_at t (place_of ed i)) m

-- ---- the loops

-- the point of a MIRN, by `find` over the n points in use
module _ (ed : Edition) (t : List ℤ) (m n : ℕ) (e : n ≡ num_at t 0) where
  pub index_found : (r : Maybe ℕ)
      → MatchOption r ((k : ℕ) → 0 ≤ k → k < n → mirn_at ed t m k ≡ false) (λ i. (0 ≤ i) × (i < n) × (mirn_at ed t m i ≡ true) × ((k : ℕ) → 0 ≤ k → k < i → mirn_at ed t m k ≡ false))
      → option_of r ≡ index_of ed t m
  unfolding index_of
  index_found None h =
      sym (first_none (mirn_at ed t m) 0 (num_at t 0) (λ k u v. h k u (omega (arith, e, v))))
  index_found (Some i) h = sym (first_is_lem (mirn_at ed t m) 0 (num_at t 0) i h.0 (omega (arith, e, h.1)) h.2 h.3)

-- one more MIRN that differs, one that does not, and the end
module _ (ed : Edition) (t : List ℤ) (i : ℕ) where
  pub later_none : all (differ_at ed t i) (i + 1 - suc i) ≡ true
  later_none = let z : i + 1 - suc i ≡ 0 = omega arith in rw z (all_none (differ_at ed t i))

  module _ (n j r : ℕ) (l : i < j) (e : r ≡ num_at t (place_of ed j)) where
    place_is : place_of ed (suc i + (j - suc i)) ≡ place_of ed j
    place_is = let k : suc i + (j - suc i) ≡ j = omega arith in ap (place_of ed) k

    pub later_fails : j < n → r ≡ num_at t (place_of ed i) → false ≡ later_differ ed t n i
    unfolding later_differ
    later_fails h q =
        sym (all_fails (differ_at ed t i) (j - suc i) (n - suc i) (omega arith) (ap not (eq-eqb _ _ (sym q ∙ e ∙ ap (num_at t) (sym place_is)))))

    pub later_more : (r ≡ num_at t (place_of ed i) → ⊥) → all (differ_at ed t i) (j - suc i) ≡ true → all (differ_at ed t i) (j + 1 - suc i) ≡ true
    later_more h q =
        let m : j + 1 - suc i ≡ j - suc i + 1 = omega arith in
        rw m (all_more (differ_at ed t i) (j - suc i) q (ap not (ne_eqb _ _ (λ (z : num_at t (place_of ed i) ≡ num_at t (place_of ed (suc i + (j - suc i)))). h (e ∙ ap (num_at t) (sym place_is) ∙ sym z)))))

  pub later_done : (n j : ℕ) → all (differ_at ed t i) (j - suc i) ≡ true → j ≡ n → true ≡ later_differ ed t n i
  unfolding later_differ
  later_done n j q e = all_done (differ_at ed t i) (j - suc i) (n - suc i) q (ap (λ k. k - suc i) e)

-- ---- the whole table

pub body_is : (ed : Edition) (t : List ℤ) (n end : ℕ) (a b o z p m e : Bool) → n ≡ num_at t 0 → a ≡ is_range (get_or t 1 (pos 0)) → b ≡ is_range (get_or t 2 (pos 0)) → o ≡ eqb (num_at t 3) ed.number → z ≡ zeros t 4 8
    → p ≡ all (λ i. part_sound (part_of ed t i)) n → m ≡ mirns_differ (points_from ed n (drop 8 t)) → end ≡ place_of ed n → e ≡ zeros t end table_length → (a && b && o && z && p && m && e) ≡ body_sound ed t
unfolding body_sound
body_is ed t n end a b o z p m e q ea eb eo ez ep em g ee = rw (ea, eb, eo, ez, ep, em, ee, g, q)

module _ (ed : Edition) (t : List ℤ) where
  pub short_unsound : length t < 7688 → false ≡ sound ed t
  unfolding sound
  short_unsound h = rw (lt-leb 7688 (length t) h)

  pub many_unsound : 7688 ≤ length t → ed.points < num_at t 0 → false ≡ sound ed t
  unfolding sound
  many_unsound h k = rw (le-leb 7688 (length t) h, lt-leb (num_at t 0) ed.points k)

  pub body_sound_lem : 7688 ≤ length t → num_at t 0 ≤ ed.points → body_sound ed t ≡ sound ed t
  unfolding sound body_sound
  body_sound_lem h k = rw (le-leb 7688 (length t) h, le-leb (num_at t 0) ed.points k)

  -- a sound table is long enough and has not too many points
  pub sound_long : sound ed t ≡ true → (7688 ≤ length t) × (num_at t 0 ≤ ed.points)
  sound_long e = let s : Tested ed t = tested ed t e in (s.long, s.few)
