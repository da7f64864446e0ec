-- A call that writes a point leaves all other numbers of the table as they were. Assumes nothing.
use mathlib.Core.Path.{◌≡◌, refl, sym, ◌∙◌, ap, ap₂, subst}
use mathlib.Core.Bool.{Bool, true, false, not, ◌&&◌, ◌||◌, cond, false≢true}
use mathlib.Core.Option.{Option, none, some, some-injective}
use mathlib.Core.List.{List, [], ◌∷◌, ◌++◌}
use Prim.Native.Nat.{ℕ, ◌+◌, ◌-◌, ◌≤◌, ◌<◌}
use native.Mathlib.Omega.{arith}
use lib.Dec.{leb, ltb, eqb}
use lib.IntN.{ℤ, pos}
use lib.ListN.{length, get_or, drop, length-set}
use lib.Seq.{get_or-take, get_or-drop, get_or-set_other}
use borrow.Author.Tests.{leb-false, ltb-false, eqb-true, eqb-false}
use Rattle.numbers.specs.Naturals.{nat_of}
use Rattle.numbers.specs.Search.{maybe}
use Rattle.numbers.specs.Answers.{refused}
use Rattle.numbers.proofs.Bools.{neither}
use Rattle.numbers.proofs.Search.{from_bound}
use Rattle.daybook.specs.declared.Edition.{Edition}
use Rattle.daybook.specs.Editions.{Editions}
use Rattle.daybook.specs.declared.Opening.{Opening}
use Rattle.daybook.specs.declared.Facts.{Facts}
use Rattle.daybook.specs.Notices.{Row, Numbers, facts_of}
use Rattle.daybook.specs.Calls.{Notice, open!, energy!, status!, request!, withdraw!, correct! }
use Rattle.lists.specs.Lists.{Lists, Register}
use Rattle.lists.specs.InnerSteps.{with_offs, with_regs, with_pending_lists, find_lists, put_lists, with_lists, on_lists, opened_lists, opening_lists, entered_lists, enter_lists, energy_lists, status_lists, request_lists, withdraw_lists, corrected_lists, correct_lists_at, correct_lists, notice_lists}
use Rattle.lists.specs.InnerWell.{Points, WellFormed}
use Rattle.lists.proofs.Rows.{decide_keeps}
use Rattle.lists.proofs.Notices.{notice_step, notice_keeps, notice_kept}
use Rattle.layout.specs.Layout.{table_length, stride, place_of, BothFit, edition_in, part_of, head_numbers, point_numbers, layout, num_at, point_from, register_of, table_book}
use Rattle.layout.specs.InnerWrites.{with_part, append_registration, open_point, append_point}
use Rattle.layout.specs.Sound.{sound}
use Rattle.layout.specs.Calls.{answer_and_table, on_edition}
use Rattle.layout.proofs.Numbers.{Few, few, length_point}
use Rattle.layout.proofs.Parts.{part_number, part_ends, with_part_length, with_part_front, with_part_past, with_part_itself}
use Rattle.layout.proofs.PartBlocks.{snoc_length}
use Rattle.layout.proofs.PointParts.{all_few_of, with_points, table_split}
use Rattle.layout.proofs.NewPoint.{fresh_point, append_point_lem}
use Rattle.layout.proofs.TableSound.{points_count, sound_lays}
use Rattle.layout.proofs.Editions.{edition_fits}
use Rattle.layout.proofs.SoundParts.{part_length}
use Rattle.table.specs.Lookup.{index_of}
use Rattle.table.proofs.Laws.{sound_long, mirn_at}
use Rattle.table.proofs.Found.{Found, found, missing}
use Rattle.table.proofs.Calls.{leaves_is}
use Rattle.opening.specs.Opening.{open_call}
use Rattle.energy.specs.Energy.{energy_call}
use Rattle.status.specs.Status.{status_call}
use Rattle.transfer.specs.Transfer.{request_call, withdraw_call}
use Rattle.correction.specs.Correction.{correct_call}
use Rattle.history.specs.Frame.{in_part, of_point, of_new_point, Framed, Frames}
use Rattle.history.specs.Runs.{notice_call}
use Rattle.history.proofs.Steps.{notice_is}
use Rattle.history.proofs.Points.{first_well, others}

-- ---- another part in a table

unchanged : (own : ℕ → Bool) (t : List ℤ) → Framed own t t
unchanged own t = record { same_length = refl; outside = λ k h. refl }

module _ (ed : Edition) (t : List ℤ) (i : ℕ) (p : List ℤ) (e : length p ≡ stride ed) (h : place_of ed i + stride ed ≤ length t) where
  abbrev past : ℕ
  past = place_of ed i + stride ed

  at : (k : ℕ) (a : Bool) → leb (place_of ed i) k ≡ a → (b : Bool) → ltb k past ≡ b → (a && b) ≡ false
      → get_or (with_part ed t i p) k (pos 0) ≡ get_or t k (pos 0)
  at k false l b r o =
      let before : k < place_of ed i = leb-false (place_of ed i) k l in
      sym (get_or-take (place_of ed i) (with_part ed t i p) k (pos 0) before)
      ∙ ap (λ u. get_or u k (pos 0)) (with_part_front ed t i p e h (place_of ed i) (omega arith))
      ∙ get_or-take (place_of ed i) t k (pos 0) before
  at k true l false r o =
      let z : past + (k - past) ≡ k = omega (arith, ltb-false k past r) in
      subst (λ k. get_or (with_part ed t i p) k (pos 0) ≡ get_or t k (pos 0)) z
      (sym (get_or-drop past (with_part ed t i p) (k - past) (pos 0))
      ∙ ap (λ u. get_or u (k - past) (pos 0)) (with_part_past ed t i p e h past (omega arith))
      ∙ get_or-drop past t (k - past) (pos 0))
  at k true l true r o = absurd (false≢true (sym o))

  part_framed : Framed (in_part ed i) t (with_part ed t i p)
  part_framed =
      record {
        same_length = with_part_length ed t i p e h;
        outside = λ k. at k (leb (place_of ed i) k) refl (ltb k past) refl;
      }

  -- where the operator's place holds what it held
  operator_framed : get_or p 11 (pos 0) ≡ get_or (part_of ed t i) 11 (pos 0)
      → Framed (λ k. in_part ed i k && not (eqb k (place_of ed i + 11))) t (with_part ed t i p)
  operator_framed same =
      record {
        same_length = with_part_length ed t i p e h;
        outside = λ k. go k (in_part ed i k) refl (eqb k (place_of ed i + 11)) refl;
      }
    where
      go : (k : ℕ) (a : Bool) → in_part ed i k ≡ a → (b : Bool) → eqb k (place_of ed i + 11) ≡ b → (a && not b) ≡ false
          → get_or (with_part ed t i p) k (pos 0) ≡ get_or t k (pos 0)
      go k false o b x z = at k (leb (place_of ed i) k) refl (ltb k past) refl o
      go k true o true x z =
          ap (λ k. get_or (with_part ed t i p) k (pos 0)) (eqb-true k (place_of ed i + 11) x)
          ∙ sym (part_number ed (with_part ed t i p) i 11 (omega arith))
          ∙ ap (λ p. get_or p 11 (pos 0)) (with_part_itself ed t i p e h)
          ∙ same ∙ part_number ed t i 11 (omega arith)
          ∙ ap (λ k. get_or t k (pos 0)) (sym (eqb-true k (place_of ed i + 11) x))
      go k true o false x z = absurd (false≢true (sym z))

-- lists put in the place of a point's fit its part, where the points are well-formed with them
put_few : {room : ℕ} (m : ℕ) (q q' : Lists) (qs : List Lists)
    → find_lists m qs ≡ some q → Points room (put_lists m q' qs) → Few room q'
unfolding find_lists put_lists
put_few m q q' [] f r = let z : ◌≡◌ {A = ℕ} 0 1 = cc in absurd (omega arith)
put_few {room} m q q' (x ∷ xs) f r = go (eqb m x.facts.mirn) f r (put_few m q q' xs)
  where
    go : (b : Bool) → cond b (some x) (find_lists m xs) ≡ some q → Points room (cond b (q' ∷ xs) (x ∷ put_lists m q' xs))
        → (find_lists m xs ≡ some q → Points room (put_lists m q' xs) → Few room q') → Few room q'
    go true f r later = few (first_well r)
    go false f r later = later f (others r)

-- ---- a sound table, with the register after the call laid over it

module _ (E : Editions) (fit : BothFit E) (t : List ℤ) (s : sound (edition_in E t) t ≡ true) where
  abbrev ed : Edition
  ed = edition_in E t

  abbrev R : Register
  R = register_of ed t

  ok : WellFormed ed R
  ok = (sound_lays ed (edition_fits E fit t) t s).0

  abbrev laid : Register → List ℤ
  laid R' = layout ed R' ++ drop table_length t

  as_found_lem : t ≡ laid R
  as_found_lem = table_split ed R t (sym (sound_lays ed (edition_fits E fit t) t s).1)

  -- What is to be shown of the register that a call leaves.
  abbrev Kept : (ℕ → Bool) → Register → Type 0
  Kept own R' = WellFormed ed R' → Framed own t (laid R')

  as_is : (own : ℕ → Bool) → Kept own R
  as_is own w = subst (Framed own t) as_found_lem (unchanged own t)

  ends : (i : ℕ) → i < ed.points → place_of ed i + stride ed ≤ length t
  ends i h = omega (arith, part_ends ed i (edition_fits E fit t) h, (sound_long ed t s).0)

  -- a call on the point of a MIRN

  -- the operator's number in a part is that of its lists
  operator_cell : (room : ℕ) (q : Lists) → get_or (point_numbers room q) 11 (pos 0) ≡ pos q.facts.operator
  unfolding point_numbers head_numbers
  operator_cell room q = refl

  point_laid : (m : ℤ) (q q' : Lists) → find_lists (nat_of m) R.points ≡ some q → Few ed.records q'
      → q'.facts.operator ≡ q.facts.operator → Framed (of_point E t m) t (laid (with_lists (nat_of m) q' R))
  point_laid m q q' f g same = go (index_of ed t (nat_of m)) refl
    where
      go : (o : Option ℕ) → index_of ed t (nat_of m) ≡ o
          → Framed (λ k. maybe false (λ i. in_part ed i k && not (eqb k (place_of ed i + 11))) o) t (laid (with_lists (nat_of m) q' R))
      go none e =
          let h : find_lists (nat_of m) R.points ≡ none = missing ed (edition_fits E fit t) t s (nat_of m) e in
          let z : ◌≡◌ {A = ℕ} 0 1 = cc in
          absurd (omega arith)
      go (some i) e =
          let low : i < 0 + num_at t 0 = unfold index_of in (from_bound (mirn_at ed t (nat_of m)) 0 (num_at t 0) i e).1 in
          let here : Found ed t (nat_of m) i = found ed (edition_fits E fit t) t s (nat_of m) i e in
          let is : q ≡ point_from (part_of ed t i) = some-injective q _ (sym f ∙ here.find) in
          subst (Framed _ t) (here.put q' g)
          (operator_framed ed t i (point_numbers ed.records q') (length_point g) (ends i (omega (arith, low, (sound_long ed t s).1)))
          (operator_cell ed.records q' ∙ ap pos (same ∙ ap (λ (q : Lists). q.facts.operator) is)
          ∙ sym (operator_cell ed.records _) ∙ ap (λ p. get_or p 11 (pos 0)) here.laid))

  on_lists_lem : (k : ℕ) (m : ℤ) (early : List Row) (rows : Lists → List Row) (effect : Lists → Numbers × Lists)
      → ((q : Lists) → (effect q).1.facts.operator ≡ q.facts.operator)
      → Kept (of_point E t m) (on_lists k m early rows effect R).1
  unfolding on_lists with_lists
  on_lists_lem k m early rows effect same =
      decide_keeps k R _ (Kept own) _ (as_is own) (λ z. go (find_lists (nat_of m) R.points) refl)
    where
      own : ℕ → Bool
      own = of_point E t m

      go : (o : Option Lists) → find_lists (nat_of m) R.points ≡ o
          → Kept own (maybe {B = Numbers × Register} ([], R) (λ q. ((effect q).0, with_lists (nat_of m) (effect q).1 R)) o).1
      go none e w = as_is own w
      go (some q) e w = point_laid m q (effect q).1 e (put_few (nat_of m) q (effect q).1 R.points e w.points_ok) (same q)

  -- an opening

  new_point : (c : ℕ) → c < ed.points → (f : Facts) (u : ℕ)
      → Framed (λ k. eqb k 0 || in_part ed c k) t (append_point ed t c f u)
  unfolding append_point open_point append_registration
  new_point c h f u =
      record {
        same_length = length-set v 0 (pos (c + 1)) ∙ w.same_length;
        outside = λ k o.
            let (other, out) = neither (eqb k 0) (in_part ed c k) o in
            get_or-set_other v 0 k (pos (c + 1)) (pos 0) (eqb-false k 0 other) ∙ w.outside k out;
      }
    where
      v : List ℤ
      v = with_part ed t c (open_point (part_of ed t c) f u)

      w : Framed (in_part ed c) t v
      w = part_framed ed t c _ (simp length-set (part_length ed (edition_fits E fit t) t c h (sound_long ed t s).0)) (ends c h)

  on_opening : (n : Opening) → Kept (of_new_point E t) (opening_lists ed n R).1
  unfolding opening_lists opened_lists fresh_point facts_of with_points
  on_opening n = decide_keeps 0 R _ (Kept (of_new_point E t)) _ (as_is (of_new_point E t)) (λ z. opened)
    where
      u : ℕ
      u = nat_of n.user

      opened : Kept (of_new_point E t) (with_points (R.points ++ (opened_lists n ∷ [])) R)
      opened w =
          let h : length R.points < ed.points = omega (arith, w.points_few, snoc_length R.points (opened_lists n)) in
          subst (Framed (of_new_point E t) t)
          (ap₂ (λ v c. append_point ed v c (facts_of n) u) as_found_lem (sym (points_count ed t))
          ∙ append_point_lem ed R (drop table_length t) (all_few_of ok.points_ok) (edition_fits E fit t) h (facts_of n) u)
          (new_point (num_at t 0) (omega (arith, h, points_count ed t)) (facts_of n) u)

  -- any notice

  notice_framed : (c : Notice) (own : ℕ → Bool) → Kept own (notice_lists c ed R).1 → Framed own t (notice_call E c t).1
  unfolding table_book
  notice_framed c own f =
      subst (λ (w : Numbers × List ℤ). Framed own t w.1)
      (sym (notice_is E fit t s c ∙ ap (answer_and_table ed t) (notice_step c ed R ok) ∙ leaves_is ed t (notice_lists c ed R) (notice_keeps c ed ok) (notice_kept c ed R)))
      (go (refused (notice_lists c ed R).0))
    where
      go : (b : Bool) → Framed own t (cond b t (laid (notice_lists c ed R).1))
      go true = unchanged own t
      go false = f (notice_keeps c ed ok)

-- ---- any table

left_alone : (E : Editions) (t : List ℤ) → sound (edition_in E t) t ≡ false → (c : Notice) → (notice_call E c t).1 ≡ t
unfolding notice_call open_call energy_call status_call request_call withdraw_call correct_call on_edition
left_alone E t s (open! n) = rw s refl
left_alone E t s (energy! n) = rw s refl
left_alone E t s (status! n) = rw s refl
left_alone E t s (request! n holidays) = rw s refl
left_alone E t s (withdraw! n) = rw s refl
left_alone E t s (correct! n) = rw s refl

framed : (E : Editions) (fit : BothFit E) (c : Notice) (t : List ℤ) (own : ℕ → Bool)
    → ((s : sound (edition_in E t) t ≡ true) → Kept E fit t s own (notice_lists c (edition_in E t) (register_of (edition_in E t) t)).1)
    → Framed own t (notice_call E c t).1
framed E fit c t own f = go (sound (edition_in E t) t) refl
  where
    go : (b : Bool) → sound (edition_in E t) t ≡ b → Framed own t (notice_call E c t).1
    go true s = notice_framed E fit t s c own (f s)
    go false s = subst (Framed own t) (sym (left_alone E t s c)) (unchanged own t)

pub frames : (E : Editions) → BothFit E → Frames E
unfolding notice_call notice_lists energy_lists enter_lists entered_lists status_lists with_offs request_lists withdraw_lists with_pending_lists correct_lists correct_lists_at corrected_lists with_regs
frames E fit =
    record {
      opening = λ t n. framed E fit (open! n) t (of_new_point E t) (λ s. on_opening E fit t s n);
      energy = λ t n. framed E fit (energy! n) t (of_point E t n.mirn) (λ s. on_lists_lem E fit t s 4 n.mirn _ _ _ (λ q. refl));
      status = λ t n. framed E fit (status! n) t (of_point E t n.mirn) (λ s. on_lists_lem E fit t s 0 n.mirn _ _ _ (λ q. refl));
      request = λ t n holidays.
          framed E fit (request! n holidays) t (of_point E t n.mirn) (λ s. on_lists_lem E fit t s 2 n.mirn _ _ _ (λ q. refl));
      withdraw = λ t n. framed E fit (withdraw! n) t (of_point E t n.mirn) (λ s. on_lists_lem E fit t s 0 n.mirn _ _ _ (λ q. refl));
      correct = λ t n. framed E fit (correct! n) t (of_point E t n.mirn) (λ s. on_lists_lem E fit t s 16 n.mirn _ _ _ (λ q. refl));
    }
