-- open on a lent table: sent back it leaves the table, entered it writes one more point. Assumes nothing.
use mathlib.Core.Path.{◌≡◌, refl, sym, ◌∙◌, ap, ap₂}
use mathlib.Core.Bool.{Bool, true, false, not, ◌&&◌}
use mathlib.Core.List.{List, [], ◌∷◌, ◌++◌}
use Prim.Native.Nat.{ℕ, suc, ◌+◌, ◌-◌, ◌≤◌, ◌<◌}
use native.Mathlib.Omega.{arith}
use lib.Dec.{leb, ltb}
use lib.ListN.{length, drop, length-map}
use lib.IntN.{ℤ, pos, negsuc}
use borrow.Author.Tests.{le-leb, lt-leb, lt-ltb, le-ltb}
use Rattle.numbers.specs.Naturals.{nat_of}
use Rattle.std.specs.Prelude.{Option as Maybe, Some, None, is_some as has}
use Rattle.numbers.specs.Search.{is_some, option_of}
use Rattle.calendar.specs.Calendar.{within, is_day}
use Rattle.daybook.specs.declared.Edition.{Edition}
use Rattle.daybook.specs.declared.Opening.{Opening}
use Rattle.daybook.specs.Notices.{least, Numbers, decide, is_mirn, is_flag, is_user, facts_of, operators_in, others_unfilled, opening_rows, opening}
use Rattle.daybook.specs.Editions.{editions}
use Rattle.lists.specs.Lists.{Register, book_of}
use Rattle.lists.specs.InnerSteps.{find_lists, opened_lists, operators_of, opening_lists}
use Rattle.lists.specs.InnerWell.{WellFormed}
use Rattle.lists.proofs.Rows.{above, least_first, least_skip, decide_taken, decide_refused}
use Rattle.lists.proofs.Operators.{operator, operators_are}
use Rattle.lists.proofs.OpenStep.{OpenClear, open_clear, open_step, open_keeps, open_kept}
use Rattle.layout.specs.Layout.{table_length, Fits, edition_of, layout, num_at, register_of, table_book}
use Rattle.layout.specs.Sound.{sound}
use Rattle.layout.specs.InnerWrites.{append_point}
use Rattle.layout.specs.Calls.{answer_and_table, on_edition}
use Rattle.layout.proofs.PointParts.{all_few_of, with_points, table_split}
use Rattle.layout.proofs.TableSound.{sound_lays, points_count}
use Rattle.layout.proofs.NewPoint.{fresh_point, append_point_lem}
use Rattle.table.specs.Lookup.{index_of}
use Rattle.table.proofs.Found.{found, missing}
use Rattle.table.proofs.Calls.{call_unsound, laid_over, leaves_is, left_alone}
use Rattle.opening.specs.Opening.{open_call}

-- are all numbers of an opening in range?
abbrev pub ranged : Opening → Bool
ranged n = is_mirn n.mirn && is_flag n.kind && is_user n.user && is_day n.install && within (negsuc 0) (pos 10000) n.base && within (pos 0) (pos 1) n.section && within (pos 1) (pos 4) n.operator

module _ (ed : Edition) (t : List ℤ) (g : ed ≡ edition_of t) (n : Opening) where
  here : open_call editions t n ≡ on_edition 0 (opening ed n) ed t
  unfolding open_call
  here = ap (λ ed. on_edition 0 (opening ed n) ed t) (sym g)

  pub open_unsound : sound ed t ≡ false → open_call editions t n ≡ (pos 1 ∷ [], t)
  open_unsound e = here ∙ call_unsound 0 (opening ed n) ed t e

module _ (ed : Edition) (fits : Fits ed) (t : List ℤ) (g : ed ≡ edition_of t) (n : Opening) (s : sound ed t ≡ true) where
  abbrev R : Register
  R = register_of ed t

  abbrev known : Bool
  known = is_some (find_lists (nat_of n.mirn) R.points)

  abbrev holders : List ℕ
  holders = operators_of R.points

  abbrev row : ℕ
  row = least (opening_rows ed n known holders)

  well : WellFormed ed R
  well = (sound_lays ed fits t s).0

  -- what the lists' step gives where row r sends the call back, 0 for none
  abbrev after : ℕ → Numbers × Register
  after r =
      decide r 0 R ([], record { nondaily = R.nondaily; daily = R.daily; points = R.points ++ (opened_lists n ∷ []) })

  whole : open_call editions t n ≡ laid_over ed t (after row)
  unfolding on_edition table_book opening_lists
  whole =
      here ed t g n ∙ rw s
      (ap (answer_and_table ed t) (open_step ed n R)
      ∙ leaves_is ed t (opening_lists ed n R) (open_keeps ed n well) (open_kept ed n R))

  sent_back_lem : (r : ℕ) → row ≡ suc r → open_call editions t n ≡ (pos (suc r) ∷ [], t)
  sent_back_lem r e = whole ∙ ap (λ k. laid_over ed t (after k)) e ∙ ap (laid_over ed t) (decide_refused 0 R _ r) ∙ left_alone ed t r [] R

  opened_is : opened_lists n ≡ fresh_point (facts_of n) (nat_of n.user)
  unfolding opened_lists fresh_point facts_of
  opened_is = refl

  taken : row ≡ 0 → length R.points < ed.points → open_call editions t n ≡ (pos 0 ∷ [], append_point ed t (num_at t 0) (facts_of n) (nat_of n.user))
  unfolding with_points
  taken e h =
      let rest : List ℤ = drop table_length t in
      whole ∙ ap (λ k. laid_over ed t (after k)) e ∙ ap (laid_over ed t) (decide_taken 0 R _)
      ∙ ap (λ q. (pos 0 ∷ [], layout ed (with_points (R.points ++ (q ∷ [])) R) ++ rest)) opened_is
      ∙ ap (λ u. (pos 0 ∷ [], u))
      (sym (ap₂ (λ u k. append_point ed u k (facts_of n) (nat_of n.user)) (table_split ed R t (sym (sound_lays ed fits t s).1)) (sym (points_count ed t))
      ∙ append_point_lem ed R rest (all_few_of well.points_ok) fits h (facts_of n) (nat_of n.user)))

  -- what the search by MIRN says of row 5
  pub known_is : (r : Maybe ℕ) → option_of r ≡ index_of ed t (nat_of n.mirn) → has r ≡ known
  known_is None e = ap is_some (sym (missing ed fits t s (nat_of n.mirn) (sym e)))
  known_is (Some i) e = ap is_some (sym (found ed fits t s (nat_of n.mirn) i (sym e)).find)

  -- ---- the rows in order

  abbrev reserved : ℕ
  reserved = others_unfilled ed holders (nat_of n.operator)

  count_is_lem : length holders ≡ num_at t 0
  count_is_lem = length-map R.points operator ∙ points_count ed t

  pub open_out : ranged n ≡ false → open_call editions t n ≡ (pos 2 ∷ [], t)
  unfolding opening_rows above
  open_out e = sent_back_lem 1 (least_first 2 (not (ranged n)) _ refl (ap not e))

  -- past row 2
  module _ (r : ranged n ≡ true) where
    pub open_known : known ≡ true → open_call editions t n ≡ (pos 5 ∷ [], t)
    unfolding opening_rows above
    open_known k =
        sent_back_lem 4 (least_skip 2 (not (ranged n)) _ (ap not r) ∙ least_first 5 known _ refl k)

    module _ (k : known ≡ false) where
      after_five : row ≡ least ((16, leb ed.points (length holders)) ∷ (19, ltb (ed.points - suc (length holders)) reserved) ∷ [])
      unfolding opening_rows
      after_five = least_skip 2 (not (ranged n)) _ (ap not r) ∙ least_skip 5 known _ k

      pub open_full : ed.points ≤ num_at t 0 → open_call editions t n ≡ (pos 16 ∷ [], t)
      unfolding above
      open_full h =
          sent_back_lem 15 (after_five ∙ least_first 16 _ _ refl (le-leb ed.points (length holders) (omega (arith, count_is_lem))))

      -- past row 16, with x the other operators' unfilled reserves
      module _ (h : num_at t 0 < ed.points) (x : ℕ) (e : x ≡ others_unfilled ed (operators_in (table_book ed t).points) (nat_of n.operator)) where
        after_sixteen : row ≡ least ((19, ltb (ed.points - suc (length holders)) reserved) ∷ [])
        after_sixteen = after_five ∙ least_skip 16 _ _ (lt-leb ed.points (length holders) (omega (arith, count_is_lem)))

        x_is : x ≡ reserved
        unfolding table_book book_of
        x_is = e ∙ ap (λ l. others_unfilled ed l (nat_of n.operator)) (operators_are R.points)

        pub open_eats : ed.points - (num_at t 0 + 1) < x → open_call editions t n ≡ (pos 19 ∷ [], t)
        unfolding above
        open_eats k =
            sent_back_lem 18 (after_sixteen ∙ least_first 19 _ [] refl (lt-ltb (ed.points - suc (length holders)) reserved (omega (arith, count_is_lem, x_is))))

        module _ (l : x ≤ ed.points - (num_at t 0 + 1)) where
          nothing : row ≡ 0
          unfolding least
          nothing = after_sixteen ∙ least_skip 19 _ [] (le-ltb (ed.points - suc (length holders)) reserved (omega (arith, count_is_lem, x_is)))

          pub open_entered : open_call editions t n ≡ (pos 0 ∷ [], append_point ed t (num_at t 0) (facts_of n) (nat_of n.user))
          open_entered = taken nothing (omega (arith, points_count ed t))

          -- what the writing needs
          pub clear : OpenClear ed n known holders
          clear = open_clear ed n known holders nothing
