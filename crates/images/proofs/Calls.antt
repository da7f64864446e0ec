-- What the two calls give, row by row. Assumes nothing.
use Rattle.std.proofs.Common.{◌≡◌, ℕ, zero, suc, ◌<◌, ◌≤◌, Bool, true, false, cond, not, ◌&&◌, leb, List, [], ◌∷◌, ◌++◌, length, drop, ℤ, pos, sym, refl, ap, ◌∙◌, ap₂, arith, le-ltb, lt-ltb, leb-true}
use Rattle.refusals.specs.declared.Refusal.{Refusal}
use Rattle.refusals.specs.Refusals.{number_of}
use Rattle.refusals.proofs.Numbers.{number_within}
use Rattle.numbers.specs.Naturals.{nat_of}
use Rattle.numbers.proofs.Bools.{both}
use Rattle.daybook.specs.Notices.{Row, least, Numbers, decide}
use Rattle.daybook.specs.States.{is_state, image_length, state_row, first_row}
use Rattle.daybook.proofs.Kept.{Kept, kept_by}
use Rattle.daybook.specs.Editions.{Editions}
use Rattle.lists.proofs.Rows.{decide_keeps}
use Rattle.layout.specs.Layout.{table_length, edition_in}
use Rattle.layout.specs.Sound.{sound}
use Rattle.images.specs.Blocks.{with_image, intact, of_state, image_numbers}
use Rattle.images.specs.Images.{save_call, restore_row, restore_call}
use Rattle.images.proofs.Blocks.{length_image}

-- Row 2's test.
abbrev pub asked : ℤ → List ℕ → Bool
asked n image = is_state n && leb image_length (length image)

-- ---- save

module _ (E : Editions) (t : List ℤ) (n : ℤ) (image : List ℕ) where
  -- by its two tests
  abbrev save_by : Bool → Bool → Numbers × List ℕ
  save_by whole ranged =
      decide (least ((1, not whole) ∷ (2, not ranged) ∷ [])) 0 image ([], with_image (nat_of n) t image)

  save_is : save_call E t n image ≡ save_by (sound (edition_in E t) t) (asked n image)
  unfolding save_call
  save_is = refl

  pub save_kept : Kept image (save_call E t n image)
  unfolding save_call
  save_kept = kept_by _ image _

  pub save_length : length (save_call E t n image).1 ≡ length image
  unfolding save_call
  save_length = decide_keeps 0 image _ (λ b. length b ≡ length image) _ refl (λ z. length_image (nat_of n) t image)

  pub save_unsound : sound (edition_in E t) t ≡ false → save_call E t n image ≡ (pos 1 ∷ [], image)
  unfolding least decide
  save_unsound e = save_is ∙ ap (λ b. save_by b (asked n image)) e ∙ go (asked n image)
    where
      go : (b : Bool) → save_by false b ≡ (pos 1 ∷ [], image)
      go true = refl
      go false = refl

  pub save_out : sound (edition_in E t) t ≡ true → asked n image ≡ false → save_call E t n image ≡ (pos 2 ∷ [], image)
  unfolding least decide
  save_out e f = save_is ∙ ap₂ save_by e f

  pub save_entered : sound (edition_in E t) t ≡ true → asked n image ≡ true → save_call E t n image ≡ (pos 0 ∷ [], with_image (nat_of n) t image)
  unfolding least decide
  save_entered e f = save_is ∙ ap₂ save_by e f

-- ---- restore

-- a row that applies comes before all rows behind it
first_row_lem : (rs ss : List Row) (r : ℕ) → first_row rs ≡ suc r → first_row (rs ++ ss) ≡ suc r
unfolding first_row
first_row_lem [] ss r e = absurd (omega arith)
first_row_lem (x ∷ rs) ss r e = go x.1 (first_row_lem rs ss r) e
  where
    go : (b : Bool) → (first_row rs ≡ suc r → first_row (rs ++ ss) ≡ suc r) → cond b x.0 (first_row rs) ≡ suc r
        → cond b x.0 (first_row (rs ++ ss)) ≡ suc r
    go true ih e = e
    go false ih e = ih e

-- the rows of the image
module _ (n : ℤ) (image : List ℕ) where
  abbrev pub image_rows : List Row
  image_rows = state_row n (length image) ∷ (17, not (intact image)) ∷ (18, not (of_state (nat_of n) image)) ∷ []

  pub image_out : asked n image ≡ false → first_row image_rows ≡ 2
  unfolding first_row
  image_out e = rw e

  pub image_broken : asked n image ≡ true → intact image ≡ false → first_row image_rows ≡ 17
  unfolding first_row
  image_broken e f = rw (e, f)

  pub image_other : asked n image ≡ true → intact image ≡ true → of_state (nat_of n) image ≡ false → first_row image_rows ≡ 18
  unfolding first_row
  image_other e f g = rw (e, f, g)

  pub image_clear : asked n image ≡ true → intact image ≡ true → of_state (nat_of n) image ≡ true → first_row image_rows ≡ 0
  unfolding first_row
  image_clear e f g = rw (e, f, g)

  -- with none of these rows the image is long enough
  pub image_enough : first_row image_rows ≡ 0 → image_length ≤ length image
  unfolding first_row
  image_enough = go (asked n image) refl
    where
      go : (b : Bool) → asked n image ≡ b → first_row ((2, not b) ∷ (17, not (intact image)) ∷ (18, not (of_state (nat_of n) image)) ∷ []) ≡ 0 → image_length ≤ length image
      go true e z = leb-true image_length (length image) (both (is_state n) (leb image_length (length image)) e).1
      go false e z = absurd (omega arith)

module _ (E : Editions) (t : List ℤ) (n : ℤ) (image : List ℕ) where
  abbrev held : List ℤ
  held = image_numbers image

  abbrev rows : List Row
  rows = image_rows n image

  abbrev last_row : Bool → List Row
  last_row whole = (1, not whole) ∷ []

  pub restore_kept : Kept t (restore_call E t n image)
  unfolding restore_call
  restore_kept = kept_by _ t _

  pub restore_short : length t < table_length → restore_call E t n image ≡ (pos 1 ∷ [], t)
  unfolding restore_call restore_row first_row decide
  restore_short h = rw (lt-ltb (length t) table_length h)

  -- a table that is long enough
  module _ (h : table_length ≤ length t) where
    restore_is : restore_call E t n image ≡ decide (first_row (rows ++ last_row (sound (edition_in E held) held))) 0 t ([], held ++ drop table_length t)
    unfolding restore_call restore_row first_row
    restore_is = rw (le-ltb (length t) table_length h)

    pub restore_row_lem : (r : ℕ) → first_row rows ≡ suc r → restore_call E t n image ≡ (pos (suc r) ∷ [], t)
    unfolding decide
    restore_row_lem r e = restore_is ∙ ap (λ x. decide x 0 t ([], held ++ drop table_length t)) (first_row_lem rows (last_row (sound (edition_in E held) held)) r e)

    pub restore_out : asked n image ≡ false → restore_call E t n image ≡ (pos 2 ∷ [], t)
    restore_out e = restore_row_lem 1 (image_out n image e)

    -- the refusal that the code found
    pub restore_sent : (e : Refusal) → number_of e ≡ first_row rows → restore_call E t n image ≡ (pos (number_of e) ∷ [], t)
    restore_sent e h = go (number_of e) refl
      where
        go : (r : ℕ) → number_of e ≡ r → restore_call E t n image ≡ (pos r ∷ [], t)
        go zero z = absurd (omega (arith, z, number_within e))
        go (suc r) z = restore_row_lem r (sym h ∙ z)

    passed : first_row rows ≡ 0 → restore_call E t n image ≡ decide (first_row (last_row (sound (edition_in E held) held))) 0 t ([], held ++ drop table_length t)
    unfolding first_row
    passed e =
        restore_is
        ∙ ap (λ x. decide x 0 t ([], held ++ drop table_length t)) (go (state_row n (length image)).1 (not (intact image)) (not (of_state (nat_of n) image)) e)
      where
        go : (a b c : Bool) → first_row ((2, a) ∷ (17, b) ∷ (18, c) ∷ []) ≡ 0
            → first_row ((2, a) ∷ (17, b) ∷ (18, c) ∷ last_row (sound (edition_in E held) held)) ≡ first_row (last_row (sound (edition_in E held) held))
        go true b c e = absurd (omega arith)
        go false true c e = absurd (omega arith)
        go false false true e = absurd (omega arith)
        go false false false e = refl

    pub restore_unsound : first_row rows ≡ 0 → sound (edition_in E held) held ≡ false → restore_call E t n image ≡ (pos 1 ∷ [], t)
    unfolding first_row decide
    restore_unsound e f = passed e ∙ ap (λ b. decide (first_row (last_row b)) 0 t ([], held ++ drop table_length t)) f

    pub restore_entered : first_row rows ≡ 0 → sound (edition_in E held) held ≡ true → restore_call E t n image ≡ (pos 0 ∷ [], held ++ drop table_length t)
    unfolding first_row decide
    restore_entered e f = passed e ∙ ap (λ b. decide (first_row (last_row b)) 0 t ([], held ++ drop table_length t)) f
