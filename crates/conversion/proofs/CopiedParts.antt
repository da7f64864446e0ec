-- The parts of a sound table's points in another edition that has room for them, one after the other. Assumes nothing.
use mathlib.Core.Path.{◌≡◌, refl, sym, ◌∙◌, ap, ap₂, subst}
use mathlib.Core.Bool.{true, false}
use mathlib.Core.List.{List, [], ◌∷◌, ◌++◌, append_assoc, append-nil}
use Prim.Native.Nat.{ℕ, zero, suc, ◌+◌, ◌*◌, ◌≤◌, ◌<◌}
use native.Mathlib.Nat.{mul-zero, mul-suc}
use native.Mathlib.Numerals.{add-one}
use native.Mathlib.Omega.{arith}
use lib.IntN.{ℤ}
use lib.ListN.{length, take, drop, length-append, take-append-drop}
use lib.Seq.{length-take-le, take_at, drop_at, drop-drop}
use Rattle.daybook.specs.declared.Edition.{Edition}
use Rattle.daybook.specs.Editions.{no_room}
use Rattle.lists.specs.Lists.{Lists, with_facts}
use Rattle.lists.proofs.Operators.{named_lists}
use Rattle.layout.specs.Layout.{table_length, stride, place_of, Fits, part_of, point_numbers, points_numbers, num_at, point_from, table_book}
use Rattle.layout.specs.Sound.{sound}
use Rattle.layout.specs.InnerParts.{room_of, SoundPart}
use Rattle.layout.specs.InnerWrites.{with_part}
use Rattle.layout.proofs.Cells.{place_recs}
use Rattle.layout.proofs.Numbers.{Few}
use Rattle.layout.proofs.PointParts.{AllFew, nofew, few_more, points_append, points_length}
use Rattle.layout.proofs.SoundParts.{room_is, part_well, part_laid, part_length, sound_at}
use Rattle.point.proofs.Rows.{rows_at, length_rows, rows_join}
use Rattle.table.proofs.Laws.{lent, back_in, part_is_lem, part_put}
use Rattle.conversion.specs.InnerConversion.{copied_part, parts_into}
use Rattle.conversion.proofs.Room.{records_fit}

-- ---- one part, as code lends it

module _ (to : Edition) (g : Fits to) (w : List ℤ) (i a b : ℕ) (h : i < to.points) (l : table_length ≤ length w)
    (ea : a ≡ place_of to i) (eb : b ≡ place_of to (i + 1)) where
  pub lent_length : length (lent w a b) ≡ stride to
  lent_length = ap length (part_is_lem to g w i a b ea eb) ∙ part_length to g w i h l

  lent_room : room_of (lent w a b) ≡ to.records
  lent_room = room_is (length (lent w a b)) to.records lent_length

  -- a turn of the loop
  pub part_copied : (ed : Edition) (t u p q : List ℤ) → p ≡ part_of ed t i → w ≡ parts_into ed to t u i → q ≡ copied_part (room_of (lent w a b)) p
      → back_in w a b q ≡ parts_into ed to t u (i + 1)
  unfolding parts_into
  part_copied ed t u p q ep ew eq =
      part_put to g w i a b ea eb q
      ∙ ap₂ (λ v x. with_part to v i x) ew (eq ∙ ap₂ copied_part lent_room ep)
      ∙ ap (parts_into ed to t u) (sym (add-one i))

pub parts_none : (ed to : Edition) (t u : List ℤ) → u ≡ parts_into ed to t u 0
unfolding parts_into
parts_none ed to t u = refl

-- ---- all parts

regroup : (a b c d : List ℤ) → (a ++ b) ++ (c ++ d) ≡ (a ++ (b ++ c)) ++ d
regroup a b c d = simp append_assoc

module _ (ed to : Edition) (f : Fits ed) (t : List ℤ) (s : sound ed t ≡ true) (r : no_room to (table_book ed t) ≡ false) where
  -- Point i, its operator named.
  abbrev pub named : ℕ → Lists
  named i = named_lists (point_from (part_of ed t i))

  few_at : (i : ℕ) → i < num_at t 0 → Few to.records (named i)
  unfolding with_facts
  few_at i h =
      let p : SoundPart (part_of ed t i) = sound_at ed f t i s h in
      record {
        regs = (part_well p).regs_few;
        offs = (part_well p).offs_few;
        recs = omega (arith, place_recs (part_well p) (part_laid p), records_fit ed to f t s r i h);
      }

  snoc : (n : ℕ) → rows_at named 0 n ++ (named n ∷ []) ≡ rows_at named 0 (suc n)
  unfolding rows_at
  snoc n = rows_join named n 1 0 n (omega arith) ∙ ap (rows_at named 0) (add-one n)

  pub few_rows : (n : ℕ) → n ≤ num_at t 0 → AllFew to.records (rows_at named 0 n)
  unfolding rows_at
  few_rows zero h = nofew
  few_rows (suc n) h = subst (AllFew to.records) (snoc n) (few_more (few_rows n (omega arith)) (few_at n h))

  -- the numbers of the first n points
  abbrev pub laid : ℕ → List ℤ
  laid n = points_numbers to.records (rows_at named 0 n)

  laid_more : (n : ℕ) → laid (suc n) ≡ laid n ++ point_numbers to.records (named n)
  unfolding points_numbers
  laid_more n =
      ap (points_numbers to.records) (sym (snoc n)) ∙ points_append to.records (rows_at named 0 n) (named n ∷ [])
      ∙ ap (λ l. laid n ++ l) (append-nil (point_numbers to.records (named n)))

  pub laid_length : (n : ℕ) → n ≤ num_at t 0 → (h : List ℤ) → length h ≡ 8 → length (h ++ laid n) ≡ place_of to n
  laid_length n k h e =
      length-append h (laid n) ∙ ap₂ ◌+◌ e (points_length (few_rows n k) ∙ ap (λ m. stride to * m) (length_rows named 0 n))

  module _ (u : List ℤ) (long : 8 ≤ length u) where
    pub parts_are : (n : ℕ) → n ≤ num_at t 0 → parts_into ed to t u n ≡ (take 8 u ++ laid n) ++ drop (place_of to n) u
    unfolding parts_into copied_part with_part rows_at points_numbers
    parts_are zero k =
        let z : 8 ≡ place_of to 0 = ap (λ x. 8 + x) (sym (mul-zero (stride to))) in
        sym (ap₂ ◌++◌ (append-nil (take 8 u)) (ap (λ a. drop a u) (sym z)) ∙ take-append-drop 8 u)
    parts_are (suc n) k =
        let a : ℕ = place_of to n in
        let F : List ℤ = take 8 u ++ laid n in
        let P : List ℤ = point_numbers to.records (named n) in
        let e : length F ≡ a = laid_length n (omega arith) (take 8 u) (length-take-le 8 u long) in
        let next : a + stride to ≡ place_of to (suc n) = omega (arith, mul-suc (stride to) n) in
        ap (λ x. take a x ++ (P ++ drop (a + stride to) x)) (parts_are n (omega arith))
        ∙ ap₂ (λ x y. x ++ (P ++ y)) (take_at F (drop a u) a e)
        (sym (drop-drop (stride to) a (F ++ drop a u)) ∙ ap (drop (stride to)) (drop_at F (drop a u) a e) ∙ drop-drop (stride to) a u ∙ ap (λ b. drop b u) next)
        ∙ regroup (take 8 u) (laid n) P (drop (place_of to (suc n)) u)
        ∙ ap (λ l. (take 8 u ++ l) ++ drop (place_of to (suc n)) u) (sym (laid_more n))
