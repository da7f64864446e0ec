-- An entry goes onto the records of a part: what the row writers leave is the lists' step. Assumes nothing.
use mathlib.Core.Path.{◌≡◌, refl, sym, ◌∙◌, ap, ap₂, subst}
use mathlib.Core.Bool.{cond}
use mathlib.Core.List.{List, [], ◌∷◌, ◌++◌}
use Prim.Native.Nat.{ℕ, suc, ◌+◌, ◌-◌, ◌*◌, ◌≤◌, ◌<◌}
use native.Mathlib.Omega.{arith}
use lib.Dec.{eqb}
use lib.ListN.{length, get_or, length-append}
use lib.Seq.{get_or_at}
use lib.IntN.{ℤ}
use borrow.Author.Tests.{eq-eqb, ne_eqb}
use Rattle.daybook.specs.Book.{Entry}
use Rattle.daybook.specs.Notices.{Which, append, replacement, recut, which_of, later_starts}
use Rattle.lists.specs.Lists.{Lists}
use Rattle.lists.specs.InnerSteps.{which_in, recs_after}
use Rattle.lists.specs.InnerWell.{MayEnter}
use Rattle.lists.proofs.Apart.{recs_apart}
use Rattle.layout.specs.Layout.{num_at, point_numbers, point_from}
use Rattle.layout.specs.Sound.{with_recs}
use Rattle.layout.specs.InnerParts.{room_of, SoundPart}
use Rattle.layout.specs.InnerWrites.{put_record, append_record, cut_records}
use Rattle.layout.proofs.Numbers.{Few, few}
use Rattle.layout.proofs.Cells.{no_rec, place_recs}
use Rattle.layout.proofs.PartBlocks.{few_recs_lem}
use Rattle.layout.proofs.RowWrites.{put_record_lem, append_record_lem, cut_records_lem}
use Rattle.layout.proofs.SoundParts.{part_well, part_laid}
use Rattle.entering.specs.declared.RaisedNotice.{RaisedNotice}
use Rattle.entering.specs.declared.Kept.{Kept}
use Rattle.entering.specs.declared.Kept.TheVariants.{Appended, Replaced, Recut}
use Rattle.entering.specs.InnerEntering.{entry_from, row_in, kept_of, Recorded}
use Rattle.entering.proofs.Laying.{end_at}
use Rattle.entering.proofs.StartRows.{RowAt, row_at, row_none, row_few}

module _ {p : List ℤ} (ok : SoundPart p) (x : RaisedNotice) where
  abbrev q : Lists
  q = point_from p

  abbrev e : Entry
  e = entry_from x

  fits : Few (room_of p) q
  fits = few (part_well ok)

  -- by which of the three it is, with the records after it
  recorded_as : (w : Which) (l : List Entry) {k : Kept} {p' : List ℤ} → which_in q e ≡ w → recs_after w e q.recs ≡ l → k ≡ kept_of w x.entry.start q.recs
      → p' ≡ point_numbers (room_of p) (with_recs l q) → Recorded p x k p'
  recorded_as w l ew el ek ep =
      record {
        kept_is = ek ∙ ap (λ w. kept_of w x.entry.start q.recs) (sym ew);
        part_is = ep ∙ ap (λ l. point_numbers (room_of p) (with_recs l q)) (sym el) ∙ ap (λ w. point_numbers (room_of p) (with_recs (recs_after w e q.recs) q)) (sym ew);
      }

  module _ (n j : ℕ) (en : n ≡ num_at p 6) (ej : j ≡ row_in q.recs x.entry.start) where
    many : n ≡ length q.recs
    many = en ∙ place_recs (part_well ok) (part_laid ok)

    -- ---- no record starts on the day

    append_which : j ≡ n → which_in q e ≡ append
    unfolding which_in
    append_which h = ap (which_of x.entry.end) (row_none q.recs x.entry.start (sym ej ∙ h ∙ many))

    -- an append has a free row
    pub free_row : MayEnter (room_of p) e q → j ≡ n → n < room_of p
    free_row may h = omega (arith, may.more (append_which h), many)

    pub appended : MayEnter (room_of p) e q → {p' : List ℤ} → j ≡ n → p' ≡ append_record p n e → Recorded p x Appended p'
    appended may h ep =
        recorded_as append (q.recs ++ (e ∷ [])) (append_which h) refl refl
        (ep ∙ ap₂ (λ t k. append_record t k e) (sym (part_laid ok)) many ∙ append_record_lem (room_of p) q fits e (may.more (append_which h)))

    -- ---- record j does

    module _ (other : j ≡ n → ⊥) where
      found : RowAt x.entry.start q.recs j
      found =
          let h : row_in q.recs x.entry.start ≤ length q.recs = row_few q.recs x.entry.start in
          let k : row_in q.recs x.entry.start < length q.recs = omega (arith, many) in
          subst (RowAt x.entry.start q.recs) (sym ej) (row_at (recs_apart (part_well ok).recs_ok) x.entry.start k)

      pub found_few : j < n
      found_few = omega (arith, many, row_few q.recs x.entry.start)

      same_end : (d : ℕ) → d ≡ num_at p (48 + 4 * j + 1) → found.here.end ≡ d
      same_end d ed =
          sym (ed ∙ end_at ok j ∙ ap (λ (l : List Entry). (get_or l j no_rec).end) found.is ∙ ap (λ (y : Entry). y.end) (get_or_at found.before found.here found.after no_rec j found.at))

      found_which : which_in q e ≡ cond (eqb found.here.end x.entry.end) replacement recut
      unfolding which_in
      found_which = ap (which_of x.entry.end) found.starting

      pub put_in : {p' : List ℤ} (d : ℕ) → d ≡ num_at p (48 + 4 * j + 1) → d ≡ x.entry.end → p' ≡ put_record p j e → Recorded p x Replaced p'
      put_in d ed ee ep =
          recorded_as replacement (found.before ++ e ∷ found.after)
          (found_which ∙ ap (λ b. cond b replacement recut) (eq-eqb found.here.end x.entry.end (same_end d ed ∙ ee)))
          (found.put e refl) refl
          (ep ∙ ap₂ (λ t k. put_record t k e) (sym (part_laid ok)) (sym found.at) ∙ put_record_lem (room_of p) q fits found.before found.here e found.after found.is)

      before_few : length found.before < room_of p
      before_few = omega (arith, found.at, found_few, many, fits.recs)

      pub recut_in : {p'' p' : List ℤ} (d : ℕ) → d ≡ num_at p (48 + 4 * j + 1) → (d ≡ x.entry.end → ⊥) → p'' ≡ cut_records p j n → p' ≡ append_record p'' j e
          → Recorded p x (Recut (n - j - 1)) p'
      unfolding with_recs
      recut_in {p''} d ed ee ec ep =
          recorded_as recut (found.before ++ (e ∷ []))
          (found_which ∙ ap (λ b. cond b replacement recut) (ne_eqb found.here.end x.entry.end (λ z. ee (sym (same_end d ed) ∙ z))))
          (ap (λ l. l ++ (e ∷ [])) found.front) (ap Recut behind)
          (ep ∙ ap₂ (λ t k. append_record t k e) front (sym found.at) ∙ append_record_lem (room_of p) (with_recs found.before q) (few_recs_lem fits found.before (omega (arith, before_few))) e before_few)
        where
          front : p'' ≡ point_numbers (room_of p) (with_recs found.before q)
          front = ec ∙ cut
            where
              cut : cut_records p j n ≡ point_numbers (room_of p) (with_recs found.before q)
              cut =
                  ap (λ t. cut_records t j n) (sym (part_laid ok)) ∙ ap₂ (λ k m. cut_records (point_numbers (room_of p) q) k m) (sym found.at) many
                  ∙ cut_records_lem (room_of p) q fits found.before (found.here ∷ found.after) found.is

          behind : n - j - 1 ≡ later_starts x.entry.start q.recs
          behind =
              let k : length q.recs ≡ length found.before + suc (length found.after) = ap length found.is ∙ length-append found.before (found.here ∷ found.after) in
              omega (arith, found.behind, found.at, many)
