-- A table is a sound register exactly where its first numbers are the layout of well-formed lists. Assumes nothing.
use mathlib.Core.Path.{◌≡◌, refl, sym, ◌∙◌, ap, ap₂, subst}
use mathlib.Core.Bool.{true, not}
use mathlib.Core.Option.{none}
use mathlib.Core.List.{List, [], ◌∷◌, ◌++◌}
use Prim.Native.Nat.{ℕ, zero, suc, ◌+◌, ◌*◌, ◌≤◌, ◌<◌}
use native.Mathlib.Omega.{arith}
use native.Mathlib.Nat.{mul-suc, mul-zero, mul-le-mul_left}
use lib.Dec.{leb, eqb}
use lib.ListN.{length, get_or, take, drop, length-take, length-drop}
use lib.Seq.{take-add}
use lib.IntN.{ℤ, pos}
use borrow.Author.Tests.{leb-true, eqb-true, not-true}
use Rattle.numbers.specs.Rows.{all}
use Rattle.numbers.proofs.Bools.{both}
use Rattle.numbers.proofs.Rows.{all_at}
use Rattle.daybook.specs.declared.Edition.{Edition}
use Rattle.daybook.specs.Notices.{is_range}
use Rattle.lists.specs.Lists.{Lists}
use Rattle.lists.specs.InnerSteps.{find_lists}
use Rattle.lists.specs.InnerWell.{Well, Points, nopoint, point, WellFormed}
use Rattle.layout.specs.Layout.{table_length, stride, place_of, Fits, part_of, pad, points_numbers, layout, num_at, points_from, register_of, table_book}
use Rattle.layout.specs.Sound.{each, zeros, part_sound, mirns_differ, sound}
use Rattle.layout.proofs.Numbers.{pad_take}
use Rattle.layout.proofs.RowsLaid.{clean}
use Rattle.layout.proofs.PartSound.{zeros_at}
use Rattle.layout.proofs.PartLays.{part_lays}
use Rattle.layout.proofs.Tables.{named_register, one_register}
use Rattle.layout.proofs.Mirns.{next as next_part}

-- ---- MIRNs that differ

other : (q : Lists) (qs : List Lists) → each (λ (r : Lists). not (eqb q.facts.mirn r.facts.mirn)) qs ≡ true → find_lists q.facts.mirn qs ≡ none
unfolding each find_lists
other q [] e = refl
other q (r ∷ qs) e =
    let b = both (not (eqb q.facts.mirn r.facts.mirn)) _ e in
    rw (not-true (eqb q.facts.mirn r.facts.mirn) b.0) (other q qs b.1)

-- Points that are all well formed.
data AllWell (room : ℕ) : List Lists → Type 0 where
  nowell : AllWell room []
  alsowell : {q : Lists} {qs : List Lists} → Well room q → AllWell room qs → AllWell room (q ∷ qs)

points_of_lem : {room : ℕ} {qs : List Lists} → AllWell room qs → mirns_differ qs ≡ true → Points room qs
unfolding mirns_differ
points_of_lem nowell e = nopoint
points_of_lem (alsowell {q = q} {qs = qs} w r) e =
    let b = both (each (λ (r : Lists). not (eqb q.facts.mirn r.facts.mirn)) qs) (mirns_differ qs) e in
    point w (other q qs b.0) (points_of_lem r b.1)

-- ---- from a sound table to lists

module _ (ed : Edition) (t : List ℤ) where
  next : (i : ℕ) → place_of ed i + stride ed ≡ place_of ed (suc i)
  next i = omega (arith, mul-suc (stride ed) i)

  -- the k points from point i on
  points_lay : (k i : ℕ) → place_of ed (i + k) ≤ length t → ((j : ℕ) → i ≤ j → j < i + k → part_sound (part_of ed t j) ≡ true)
      → AllWell ed.records (points_from ed k (drop (place_of ed i) t)) × (points_numbers ed.records (points_from ed k (drop (place_of ed i) t)) ≡ take (stride ed * k) (drop (place_of ed i) t))
  unfolding points_from points_numbers part_of
  points_lay zero i h f = (nowell, ap (λ n. take n (drop (place_of ed i) t)) (sym (mul-zero (stride ed))))
  points_lay (suc k) i h f =
      let m : stride ed * suc k ≡ stride ed + stride ed * k = omega (arith, mul-suc (stride ed) k) in
      let e : i + suc k ≡ suc i + k = omega arith in
      let far : stride ed * suc i ≤ stride ed * (i + suc k) = mul-le-mul_left (stride ed) (omega arith) in
      let d : drop (stride ed) (drop (place_of ed i) t) ≡ drop (place_of ed (suc i)) t = next_part ed t i in
      let long : length (take (stride ed) (drop (place_of ed i) t)) ≡ 48 + 4 * ed.records = simp (length-take, length-drop) (omega (arith, next i)) in
      let here = part_lays (take (stride ed) (drop (place_of ed i) t)) ed.records long (f i (omega arith) (omega arith)) in
      let r = points_lay k (suc i) (rw e at h) (λ j a b. f j (omega arith) (omega arith)) in (
        alsowell here.0 (subst (λ u. AllWell ed.records (points_from ed k u)) (sym d) r.0),
        ap₂ ◌++◌ here.1 (ap (λ u. points_numbers ed.records (points_from ed k u)) d ∙ r.1 ∙ ap (take (stride ed * k)) (sym d))
            ∙ sym (take-add (stride ed) (stride ed * k) (drop (place_of ed i) t))
            ∙ ap (λ n. take n (drop (place_of ed i) t)) (sym m),
      )

-- What a sound table's tests say, one by one.
pub record Tested (ed : Edition) (t : List ℤ) : Type 0 where
  pub long : table_length ≤ length t
  pub few : num_at t 0 ≤ ed.points
  pub nondaily_ok : is_range (get_or t 1 (pos 0)) ≡ true
  pub daily_ok : is_range (get_or t 2 (pos 0)) ≡ true
  pub own_number : num_at t 3 ≡ ed.number
  pub spare : zeros t 4 8 ≡ true
  pub parts : all (λ i. part_sound (part_of ed t i)) (num_at t 0) ≡ true
  pub mirns : mirns_differ (points_from ed (num_at t 0) (drop 8 t)) ≡ true
  pub rest : zeros t (place_of ed (num_at t 0)) table_length ≡ true

pub tested : (ed : Edition) (t : List ℤ) → sound ed t ≡ true → Tested ed t
unfolding sound
tested ed t e =
    let a = both _ (zeros t (place_of ed (num_at t 0)) table_length) e in
    let b = both _ (mirns_differ (points_from ed (num_at t 0) (drop 8 t))) a.0 in
    let c = both _ (all (λ i. part_sound (part_of ed t i)) (num_at t 0)) b.0 in
    let d = both _ (zeros t 4 8) c.0 in
    let k = both _ (eqb (num_at t 3) ed.number) d.0 in
    let f = both _ (is_range (get_or t 2 (pos 0))) k.0 in
    let g = both _ (is_range (get_or t 1 (pos 0))) f.0 in
    let h = both (leb table_length (length t)) (leb (num_at t 0) ed.points) g.0 in
    record {
      long = leb-true _ _ h.0;
      few = leb-true _ _ h.1;
      nondaily_ok = g.1;
      daily_ok = f.1;
      own_number = eqb-true _ _ k.1;
      spare = d.1;
      parts = c.1;
      mirns = b.1;
      rest = a.1;
    }

pub length_points : (ed : Edition) (n : ℕ) (t : List ℤ) → length (points_from ed n t) ≡ n
unfolding points_from
length_points ed zero t = refl
length_points ed (suc n) t = ap suc (length_points ed n (drop (stride ed) t))

-- the count at the front is right
pub points_count : (ed : Edition) (t : List ℤ) → length (register_of ed t).points ≡ num_at t 0
unfolding register_of
points_count ed t = length_points ed (num_at t 0) (drop 8 t)

four : (t : List ℤ) → 4 ≤ length t → get_or t 0 (pos 0) ∷ get_or t 1 (pos 0) ∷ get_or t 2 (pos 0) ∷ get_or t 3 (pos 0) ∷ [] ≡ take 4 t
four [] h = absurd (omega arith)
four (x ∷ []) h = absurd (omega arith)
four (x ∷ y ∷ []) h = absurd (omega arith)
four (x ∷ y ∷ z ∷ []) h = absurd (omega arith)
four (x ∷ y ∷ z ∷ w ∷ t) h = refl

-- a sound table's lists are well formed, and its numbers are their layout
pub sound_lays : (ed : Edition) → Fits ed → (t : List ℤ) → sound ed t ≡ true → WellFormed ed (register_of ed t) × (layout ed (register_of ed t) ≡ take table_length t)
unfolding register_of layout
sound_lays ed fits t e = (well, whole)
  where
    s : Tested ed t
    s = tested ed t e

    n : ℕ
    n = num_at t 0

    ends : place_of ed n ≤ table_length
    ends = let m : stride ed * n ≤ stride ed * ed.points = mul-le-mul_left (stride ed) s.few in omega arith

    place0 : place_of ed 0 ≡ 8
    place0 = ap (λ x. 8 + x) (mul-zero (stride ed))

    lay : AllWell ed.records (points_from ed n (drop 8 t)) × (points_numbers ed.records (points_from ed n (drop 8 t)) ≡ take (stride ed * n) (drop 8 t))
    lay =
        subst
        (λ a. AllWell ed.records (points_from ed n (drop a t)) × (points_numbers ed.records (points_from ed n (drop a t)) ≡ take (stride ed * n) (drop a t)))
        place0
        (points_lay ed t n 0 (subst (λ k. place_of ed k ≤ length t) (sym (nought n)) (omega (arith, s.long, ends))) (λ j a b. all_at _ n s.parts j (omega arith)))
      where
        nought : (k : ℕ) → 0 + k ≡ k
        nought k = omega arith

    well : WellFormed ed (register_of ed t)
    well = record {
      nondaily_ok = s.nondaily_ok;
      daily_ok = s.daily_ok;
      points_few = subst (λ k. k ≤ ed.points) (sym (length_points ed n (drop 8 t))) s.few;
      points_ok = points_of_lem lay.0 s.mirns;
    }

    head : pos (length (points_from ed n (drop 8 t))) ∷ get_or t 1 (pos 0) ∷ get_or t 2 (pos 0) ∷ pos ed.number ∷ [] ≡ take 4 t
    head =
        ap₂ (λ x y. x ∷ get_or t 1 (pos 0) ∷ get_or t 2 (pos 0) ∷ y ∷ [])
        (ap pos (length_points ed n (drop 8 t)) ∙ clean (get_or t 0 (pos 0)) (omega (arith, s.few, fits.few)))
        (ap pos (sym s.own_number) ∙ clean (get_or t 3 (pos 0)) (omega (arith, s.own_number, fits.numbered)))
        ∙ four t (omega (arith, s.long))

    whole : pad table_length (pad 8 (pos (length (points_from ed n (drop 8 t))) ∷ get_or t 1 (pos 0) ∷ get_or t 2 (pos 0) ∷ pos ed.number ∷ []) ++ points_numbers ed.records (points_from ed n (drop 8 t))) ≡ take table_length t
    whole =
        ap₂ (λ u v. pad table_length (pad 8 u ++ v)) head lay.1
        ∙ ap (λ u. pad table_length (u ++ take (stride ed * n) (drop 8 t))) (pad_take 8 4 t (omega arith) (omega (arith, s.long)) (λ i a b. zeros_at t 4 8 s.spare i a b))
        ∙ ap (pad table_length) (sym (take-add 8 (stride ed * n) t))
        ∙ pad_take table_length (place_of ed n) t ends s.long (λ i a b. zeros_at t (place_of ed n) table_length s.rest i a b)

-- one book, one table: sound tables of one edition with equal books hold the same numbers, where the operators of both
-- are named
pub one_table : (ed : Edition) → Fits ed → (t u : List ℤ) → sound ed t ≡ true → sound ed u ≡ true → table_book ed t ≡ table_book ed u
    → named_register (register_of ed t) ≡ register_of ed t → named_register (register_of ed u) ≡ register_of ed u → take table_length t ≡ take table_length u
unfolding table_book
one_table ed f t u a b e m n =
    let x = sound_lays ed f t a in
    let y = sound_lays ed f u b in
    sym x.1 ∙ ap (layout ed) (sym m ∙ one_register x.0 y.0 e ∙ n) ∙ y.1
