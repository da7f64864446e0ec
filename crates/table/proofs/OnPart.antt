-- A call on the point of a MIRN, by what it does to that point's part alone: all that a public call needs which lends
-- the part on. Assumes nothing.
use mathlib.Core.Path.{◌≡◌, refl, sym, ◌∙◌, ap, subst}
use mathlib.Core.Bool.{Bool, true, not}
use mathlib.Core.Option.{Option, none, some}
use mathlib.Core.List.{List, [], ◌∷◌, ◌++◌}
use Prim.Native.Nat.{ℕ, zero, suc, ◌≤◌}
use native.Mathlib.Omega.{arith}
use lib.Dec.{eqb-suc-zero}
use lib.ListN.{replicate}
use lib.IntN.{ℤ, pos}
use Rattle.numbers.specs.Naturals.{nat_of}
use Rattle.numbers.specs.Search.{maybe}
use Rattle.numbers.specs.Answers.{refused}
use Rattle.daybook.specs.declared.Edition.{Edition}
use Rattle.daybook.specs.Book.{Book}
use Rattle.daybook.specs.Notices.{Row, least, Numbers, decide}
use Rattle.lists.specs.Lists.{Lists, Register, book_of}
use Rattle.lists.specs.InnerSteps.{find_lists, on_lists}
use Rattle.lists.specs.InnerWell.{Well, WellFormed}
use Rattle.lists.proofs.Rows.{above, above_less, up_to, up_to_least, least_first, least_append_none, least_append_some, decide_taken, decide_refused}
use Rattle.layout.specs.Layout.{Fits, part_of, point_numbers, point_from, register_of}
use Rattle.layout.specs.InnerWrites.{with_part}
use Rattle.layout.specs.Sound.{sound}
use Rattle.layout.specs.InnerParts.{room_of, SoundPart}
use Rattle.layout.specs.Calls.{on_edition}
use Rattle.layout.proofs.Numbers.{Few, few}
use Rattle.layout.proofs.Parts.{with_part_own}
use Rattle.layout.proofs.SoundParts.{room_laid, laid_sound, stride_small}
use Rattle.table.specs.Lookup.{index_of}
use Rattle.table.specs.InnerTable.{on_part}
use Rattle.table.proofs.Laws.{lent, back_in, part_put}
use Rattle.table.proofs.Found.{Found, found, missing}
use Rattle.table.proofs.Locating.{PartFound, SentBack, unsound, by_numbers, unknown, at_part}
use Rattle.table.proofs.Calls.{call_unsound, gives, tells, call_refused, call_entered}

-- ---- on the part

module _ (k : ℕ) (rows : Lists → List Row) (effect : Lists → Numbers × Lists) (p : List ℤ) where
  abbrev enters : Numbers × List ℤ
  enters = ((effect (point_from p)).0, point_numbers (room_of p) (effect (point_from p)).1)

  pub part_entered : least (rows (point_from p)) ≡ 0
      → on_part k rows effect p ≡ (pos 0 ∷ (effect (point_from p)).0, point_numbers (room_of p) (effect (point_from p)).1)
  unfolding on_part
  part_entered e = ap (λ n. decide n k p enters) e ∙ decide_taken k p enters

  pub part_refused : (r : ℕ) → least (rows (point_from p)) ≡ suc r → on_part k rows effect p ≡ (pos (suc r) ∷ replicate k (pos 0), p)
  unfolding on_part
  part_refused r e = ap (λ n. decide n k p enters) e ∙ decide_refused k p enters r

-- ---- the point found

module _ (ed : Edition) (fits : Fits ed) (t : List ℤ) (s : sound ed t ≡ true) (m i : ℕ) (e : index_of ed t m ≡ some i) where
  -- in an edition a part has room for the edition's records
  pub room_found : room_of (part_of ed t i) ≡ ed.records
  room_found = let f : Found ed t m i = found ed fits t s m i e in ap room_of (sym f.laid) ∙ room_laid (few f.well)

  pub part_sound_lem : SoundPart (part_of ed t i)
  part_sound_lem = let f : Found ed t m i = found ed fits t s m i e in subst SoundPart f.laid (laid_sound f.well (stride_small ed fits))

-- ---- the call

-- On the register R the book's step is a call with k fields on the point of MIRN m: on lists it has these rows, those of
-- its numbers before 4 and those of the point after it, and this effect; it keeps them well-formed and the point's
-- operator as it stands, and what it leaves of a point where no row applies fits the part.
pub record CallOn (ed : Edition) (R : Register) (k : ℕ) (m : ℤ) (early : List Row) (rows : Lists → List Row)
    (effect : Lists → Numbers × Lists) (step : Book → Numbers × Book)
    : Type 0
  where
    pub numbered : above 0 early ≡ true
    pub low : up_to 3 early ≡ true
    pub high : (q : Lists) → above 3 (rows q) ≡ true
    pub is : step (book_of R) ≡ ((on_lists k m early rows effect R).0, book_of (on_lists k m early rows effect R).1)
    pub keeps : WellFormed ed (on_lists k m early rows effect R).1
    pub operator : (q : Lists) → (effect q).1.facts.operator ≡ q.facts.operator
    pub room : (q : Lists) → Well ed.records q → least (early ++ rows q) ≡ 0 → Few ed.records (effect q).1

module _ {k : ℕ} {m : ℤ} {early : List Row} {rows : Lists → List Row} {effect : Lists → Numbers × Lists} {step : Book → Numbers × Book}
    (ed : Edition) (fits : Fits ed) (t : List ℤ) (s : sound ed t ≡ true)
    (call : CallOn ed (register_of ed t) k m early rows effect step) where
  abbrev R : Register
  R = register_of ed t

  refuses : (n : ℕ) → least (early ++ maybe ((4, true) ∷ []) rows (find_lists (nat_of m) R.points)) ≡ suc n
      → on_edition k step ed t ≡ (pos (suc n) ∷ replicate k (pos 0), t)
  refuses = call_refused k m early rows effect step ed t s call.is call.keeps call.operator

  later : (o : Option Lists) → above 3 (maybe ((4, true) ∷ []) rows o) ≡ true
  unfolding above
  later none = refl
  later (some q) = call.high q

  -- a row of the numbers applies, be the MIRN known or not
  pub on_early : (n : ℕ) → least early ≡ suc n → on_edition k step ed t ≡ (pos (suc n) ∷ replicate k (pos 0), t)
  on_early n e =
      let l : suc n ≤ 3 = omega (arith, e, up_to_least 3 early call.low) in
      refuses n (least_append_some early _ n call.numbered e (above_less (suc n) 3 _ l (later (find_lists (nat_of m) R.points))))

  module _ (clear : least early ≡ 0) where
    on_missing : index_of ed t (nat_of m) ≡ none → on_edition k step ed t ≡ (pos 4 ∷ replicate k (pos 0), t)
    unfolding above
    on_missing e =
        refuses 3
        (ap (λ o. least (early ++ maybe ((4, true) ∷ []) rows o)) (missing ed fits t s (nat_of m) e)
        ∙ least_append_none early ((4, true) ∷ []) call.numbered clear ∙ least_first 4 true [] refl refl)

    -- the rows of the point decide, and its part alone is changed
    on_point_lem : (i : ℕ) → index_of ed t (nat_of m) ≡ some i
        → on_edition k step ed t
        ≡ ((on_part k rows effect (part_of ed t i)).0, with_part ed t i (on_part k rows effect (part_of ed t i)).1)
    on_point_lem i e = go (least (rows q)) refl
      where
        p : List ℤ
        p = part_of ed t i

        q : Lists
        q = point_from p

        f : Found ed t (nat_of m) i
        f = found ed fits t s (nat_of m) i e

        passed : least (early ++ rows q) ≡ least (rows q)
        passed = least_append_none early (rows q) call.numbered clear

        put : Numbers × List ℤ → Numbers × List ℤ
        put w = (w.0, with_part ed t i w.1)

        go : (r : ℕ) → least (rows q) ≡ r → on_edition k step ed t ≡ put (on_part k rows effect p)
        go zero h =
            call_entered k m early rows effect step ed t s call.is call.keeps call.operator i f (passed ∙ h) (call.room q f.well (passed ∙ h))
            ∙ ap (λ room. put (pos 0 ∷ (effect q).0, point_numbers room (effect q).1)) (sym (room_found ed fits t s (nat_of m) i e))
            ∙ sym (ap put (part_entered k rows effect p h))
        go (suc r) h =
            refuses r (ap (λ o. least (early ++ maybe ((4, true) ∷ []) rows o)) f.find ∙ passed ∙ h)
            ∙ sym (ap put (part_refused k rows effect p r h) ∙ ap (λ u. (pos (suc r) ∷ replicate k (pos 0), u)) (with_part_own ed t i))

-- ---- what a public call has to show, once it has been told where its point is

-- the part that it lends, from place a to place b
pub lent_sound : {ed : Edition} {t : List ℤ} {m : ℤ} {e a b : ℕ} → Fits ed → PartFound ed t m e a b → SoundPart (lent t a b)
lent_sound {ed} {t} {m} fits h =
    subst SoundPart (sym (at_part fits h)) (part_sound_lem ed fits t h.is_sound (nat_of m) h.i h.index)

module _ {k : ℕ} {m : ℤ} {early : List Row} {rows : Lists → List Row} {effect : Lists → Numbers × Lists} {step : Book → Numbers × Book}
    (ed : Edition) (fits : Fits ed) (t : List ℤ) (call : sound ed t ≡ true → CallOn ed (register_of ed t) k m early rows effect step)
    (w : Numbers × List ℤ) (whole : w ≡ on_edition k step ed t) (e : ℕ) (is : e ≡ least early) where
  -- a call that is sent back by row r
  pub call_back : (r : ℕ) → SentBack ed t m e r
      → (pos r ∷ replicate k (pos 0) ≡ w.0) × (t ≡ w.1) × (true ≡ refused (pos r ∷ replicate k (pos 0)))
  call_back _ (unsound s) = tells (whole ∙ call_unsound k step ed t s) refl
  call_back _ (by_numbers s n x) =
      tells (whole ∙ on_early ed fits t s (call s) n (sym is ∙ x)) (ap not (sym (eqb-suc-zero n)))
  call_back _ (unknown s x o) = tells (whole ∙ on_missing ed fits t s (call s) (sym is ∙ x) o) refl

  -- a call whose function gives x and leaves p of the part
  pub call_done : {a b : ℕ} → PartFound ed t m e a b → (x : Numbers) (p : List ℤ) {c : Bool}
      → (x ≡ (on_part k rows effect (lent t a b)).0) × (p ≡ (on_part k rows effect (lent t a b)).1) × (c ≡ refused x)
      → (x ≡ w.0) × (back_in t a b p ≡ w.1) × (c ≡ refused x)
  call_done {a} {b} h x p g =
      let v = gives (whole ∙ on_point_lem ed fits t h.is_sound (call h.is_sound) (sym is ∙ h.passed) h.i h.index) in
      let f : List ℤ → Numbers × List ℤ = on_part k rows effect in (
        g.0 ∙ ap (λ l. (f l).0) (at_part fits h) ∙ v.0,
        part_put ed fits t h.i a b h.from h.to p ∙ ap (with_part ed t h.i) (g.1 ∙ ap (λ l. (f l).1) (at_part fits h)) ∙ v.1,
        g.2,
      )
