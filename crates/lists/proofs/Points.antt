-- A call on the point of a MIRN: on the book's days it is the call on that point's lists, and it keeps the register
-- well-formed if its effect keeps the point so.
use mathlib.Core.Path.{◌≡◌, refl, sym, ◌∙◌, ap}
use mathlib.Core.Bool.{Bool, true, false, cond}
use mathlib.Core.Option.{Option, none, some, none-ne-some, some-injective}
use mathlib.Core.List.{List, [], ◌∷◌, ◌++◌, map}
use Prim.Native.Nat.{ℕ, suc}
use native.Mathlib.Omega.{arith}
use lib.Dec.{eqb}
use lib.ListN.{length}
use lib.IntN.{ℤ}
use borrow.Author.Tests.{eqb-true}
use Rattle.numbers.specs.Naturals.{nat_of}
use Rattle.numbers.specs.Search.{maybe}
use Rattle.daybook.specs.declared.Edition.{Edition}
use Rattle.daybook.specs.Book.{Point, Book}
use Rattle.daybook.specs.Notices.{Row, least, Numbers, decide, find, put, with_point, on_point}
use Rattle.lists.specs.Lists.{Lists, Register, point_of, book_of}
use Rattle.lists.specs.InnerSteps.{find_lists, put_lists, with_lists, on_lists}
use Rattle.lists.specs.InnerWell.{Well, Points, nopoint, point, WellFormed}
use Rattle.lists.proofs.Rows.{decide_map, decide_map_where, decide_keeps}

-- ---- finding and putting a point

-- The point found on the days is that of the lists found.
pub find_is : (m : ℕ) (qs : List Lists) → find m (map point_of qs) ≡ maybe none (λ q. some (point_of q)) (find_lists m qs)
unfolding find find_lists point_of
find_is m [] = refl
find_is m (q ∷ qs) = go (eqb m q.facts.mirn) (find_is m qs)
  where
    go : (b : Bool) → find m (map point_of qs) ≡ maybe none (λ q. some (point_of q)) (find_lists m qs)
        → cond b (some (point_of q)) (find m (map point_of qs)) ≡ maybe none (λ q. some (point_of q)) (cond b (some q) (find_lists m qs))
    go true ih = refl
    go false ih = ih

-- A point in the place of the one found, with its facts, is found there.
pub find_put : (m : ℕ) (p p' : Point) (ps : List Point) → p'.facts ≡ p.facts → find m ps ≡ some p → find m (put m p' ps) ≡ some p'
unfolding find put
find_put m p p' [] s e = absurd (none-ne-some p e)
find_put m p p' (x ∷ xs) s e = go (eqb m x.facts.mirn) refl e (find_put m p p' xs s)
  where
    go : (b : Bool) → eqb m x.facts.mirn ≡ b → cond b (some x) (find m xs) ≡ some p → (find m xs ≡ some p → find m (put m p' xs) ≡ some p')
        → find m (cond b (p' ∷ xs) (x ∷ put m p' xs)) ≡ some p'
    go true h e ih =
        let facts : p'.facts ≡ x.facts = s ∙ sym (ap (λ (p : Point). p.facts) (some-injective x p e)) in
        let here : eqb m p'.facts.mirn ≡ true = ap (λ f. eqb m f.mirn) facts ∙ h in
        rw here
    go false h e ih = rw h (ih e)

-- The points after putting one are those of the lists after putting its lists.
pub put_is : (m : ℕ) (q : Lists) (qs : List Lists) → put m (point_of q) (map point_of qs) ≡ map point_of (put_lists m q qs)
unfolding put put_lists point_of
put_is m q [] = refl
put_is m q (x ∷ xs) = go (eqb m x.facts.mirn) (put_is m q xs)
  where
    go : (b : Bool) → put m (point_of q) (map point_of xs) ≡ map point_of (put_lists m q xs)
        → cond b (point_of q ∷ map point_of xs) (point_of x ∷ put m (point_of q) (map point_of xs)) ≡ map point_of (cond b (q ∷ xs) (x ∷ put_lists m q xs))
    go true ih = refl
    go false ih = ap (λ ps. point_of x ∷ ps) ih

-- The same of the whole book.
pub with_point_is : (m : ℕ) (q : Lists) (R : Register) → with_point m (point_of q) (book_of R) ≡ book_of (with_lists m q R)
unfolding with_point with_lists book_of
with_point_is m q R = ap {B = Book} (λ ps. record { nondaily = R.nondaily; daily = R.daily; points = ps }) (put_is m q R.points)

-- Lists that are found are well-formed and have the MIRN.
pub find_well : {room : ℕ} (m : ℕ) {qs : List Lists} {q : Lists} → Points room qs → find_lists m qs ≡ some q → Well room q × (m ≡ q.facts.mirn)
unfolding find_lists
find_well m nopoint e = let z : ◌≡◌ {A = ℕ} 0 1 = cc in absurd (omega arith)
find_well {room} m {q = q} (point {q = x} {qs = xs} w d r) e = go (eqb m x.facts.mirn) refl e (find_well m r)
  where
    go : (b : Bool) → eqb m x.facts.mirn ≡ b → cond b (some x) (find_lists m xs) ≡ some q
        → (find_lists m xs ≡ some q → Well room q × (m ≡ q.facts.mirn)) → Well room q × (m ≡ q.facts.mirn)
    go true h e ih =
        let k : x ≡ q = cc in
        let here : Well room x × (m ≡ x.facts.mirn) = (w, eqb-true m x.facts.mirn h) in
        rw k at here
    go false h e ih = ih e

-- ---- a call on the days is the call on the lists

module _ {room : ℕ} (k : ℕ) (m : ℤ) (early : List Row) (rowsP : Point → List Row) (rowsL : Lists → List Row)
    (effectP : Point → Numbers × Point) (effectL : Lists → Numbers × Lists)
    (rows_is : (q : Lists) → Well room q → rowsP (point_of q) ≡ rowsL q)
    (effect_is : (q : Lists) → Well room q → least (early ++ rowsL q) ≡ 0 → effectP (point_of q) ≡ ((effectL q).0, point_of (effectL q).1))
  where
    -- on well-formed points, equal rows and, where none applies, equal effects make equal calls
    pub on_lists_lem : (R : Register) → Points room R.points
        → on_point k m early rowsP effectP (book_of R) ≡ ((on_lists k m early rowsL effectL R).0, book_of (on_lists k m early rowsL effectL R).1)
    unfolding on_point on_lists
    on_lists_lem R ok = ap step points_is ∙ go (find_lists (nat_of m) R.points) refl
      where
        step : Option Point → Numbers × Book
        step o =
            decide (least (early ++ maybe ((4, true) ∷ []) rowsP o)) k (book_of R)
            (maybe ([], book_of R) (λ p. ((effectP p).0, with_point (nat_of m) (effectP p).1 (book_of R))) o)

        step_lists : Option Lists → Numbers × Register
        step_lists o =
            decide (least (early ++ maybe ((4, true) ∷ []) rowsL o)) k R
            (maybe ([], R) (λ q. ((effectL q).0, with_lists (nat_of m) (effectL q).1 R)) o)

        points_is : find (nat_of m) (book_of R).points ≡ maybe none (λ q. some (point_of q)) (find_lists (nat_of m) R.points)
        points_is = unfold book_of in find_is (nat_of m) R.points

        go : (o : Option Lists) → find_lists (nat_of m) R.points ≡ o → step (maybe none (λ q. some (point_of q)) o) ≡ ((step_lists o).0, book_of (step_lists o).1)
        go none e = decide_map book_of _ k R ([], R)
        go (some q) e =
            let w : Well room q = (find_well (nat_of m) ok e).0 in
            ap (λ rows. decide (least (early ++ rows)) k (book_of R) ((effectP (point_of q)).0, with_point (nat_of m) (effectP (point_of q)).1 (book_of R))) (rows_is q w)
            ∙ decide_map_where book_of _ k R _ _ (λ z.
            ap {B = Numbers × Book} (λ v. (v.0, with_point (nat_of m) v.1 (book_of R))) (effect_is q w z)
            ∙ ap {B = Numbers × Book} (λ B. ((effectL q).0, B)) (with_point_is (nat_of m) (effectL q).1 R))

-- ---- a call keeps the register well-formed

-- There are as many points as before.
pub put_length : (m : ℕ) (q : Lists) (qs : List Lists) → length (put_lists m q qs) ≡ length qs
unfolding put_lists
put_length m q [] = refl
put_length m q (x ∷ xs) = go (eqb m x.facts.mirn) (put_length m q xs)
  where
    go : (b : Bool) → length (put_lists m q xs) ≡ length xs → length (cond b (q ∷ xs) (x ∷ put_lists m q xs)) ≡ suc (length xs)
    go true ih = refl
    go false ih = ap suc ih

-- Lists put in the place of a point of their own MIRN.
module _ (m : ℕ) (q : Lists) (same : m ≡ q.facts.mirn) where
  -- a MIRN that isn't among the points isn't among them afterwards
  put_other : (n : ℕ) (qs : List Lists) → find_lists n qs ≡ none → find_lists n (put_lists m q qs) ≡ none
  unfolding put_lists find_lists
  put_other n [] e = refl
  put_other n (x ∷ xs) e = go (eqb n x.facts.mirn) (eqb m x.facts.mirn) refl refl e (put_other n xs)
    where
      go : (b t : Bool) → eqb n x.facts.mirn ≡ b → eqb m x.facts.mirn ≡ t → cond b (some x) (find_lists n xs) ≡ none
          → (find_lists n xs ≡ none → find_lists n (put_lists m q xs) ≡ none)
          → find_lists n (cond t (q ∷ xs) (x ∷ put_lists m q xs)) ≡ none
      go true t h k e ih = let z : ◌≡◌ {A = ℕ} 0 1 = cc in absurd (omega arith)
      go false true h k e ih = rw (← same, eqb-true m x.facts.mirn k, h) e
      go false false h k e ih = rw h (ih e)

  -- well-formed lists leave the points well-formed
  pub put_points : {room : ℕ} {qs : List Lists} → Well room q → Points room qs → Points room (put_lists m q qs)
  unfolding put_lists
  put_points w nopoint = nopoint
  put_points {room} w (point {q = x} {qs = xs} v d r) = go (eqb m x.facts.mirn) refl (put_points w r)
    where
      go : (t : Bool) → eqb m x.facts.mirn ≡ t → Points room (put_lists m q xs) → Points room (cond t (q ∷ xs) (x ∷ put_lists m q xs))
      go true k ih = point {q = q} {qs = xs} w (rw (← same, eqb-true m x.facts.mirn k) d) r
      go false k ih = point v (put_other x.facts.mirn xs d) ih

-- One point for another of its MIRN.
pub with_lists_keeps : {ed : Edition} {R : Register} → WellFormed ed R → (m : ℕ) (q : Lists) → m ≡ q.facts.mirn → Well ed.records q
    → WellFormed ed (with_lists m q R)
unfolding with_lists
with_lists_keeps {R = R} ok m q same w =
    record {
      nondaily_ok = ok.nondaily_ok;
      daily_ok = ok.daily_ok;
      points_few = rw (put_length m q R.points) ok.points_few;
      points_ok = put_points m q same w ok.points_ok;
    }

module _ {ed : Edition} (k : ℕ) (m : ℤ) (early : List Row) (rowsL : Lists → List Row) (effectL : Lists → Numbers × Lists)
    (effect_keeps : (q : Lists) → Well ed.records q → least (early ++ rowsL q) ≡ 0
    → Well ed.records (effectL q).1 × ((effectL q).1.facts.mirn ≡ q.facts.mirn))
  where
    -- keeping each point well-formed, and its MIRN, keeps the register well-formed
    pub on_lists_keeps : {R : Register} → WellFormed ed R → WellFormed ed (on_lists k m early rowsL effectL R).1
    unfolding on_lists
    on_lists_keeps {R} ok = go (find_lists (nat_of m) R.points) refl
      where
        go : (o : Option Lists) → find_lists (nat_of m) R.points ≡ o
            → WellFormed ed (decide (least (early ++ maybe ((4, true) ∷ []) rowsL o)) k R
            (maybe ([], R) (λ q. ((effectL q).0, with_lists (nat_of m) (effectL q).1 R)) o)).1
        go none e = decide_keeps k R _ (WellFormed ed) _ ok (λ z. ok)
        go (some q) e =
            decide_keeps k R _ (WellFormed ed) _ ok (λ z.
            let found : Well ed.records q × (nat_of m ≡ q.facts.mirn) = find_well (nat_of m) ok.points_ok e in
            let after : Well ed.records (effectL q).1 × ((effectL q).1.facts.mirn ≡ q.facts.mirn) = effect_keeps q found.0 z in
            with_lists_keeps ok (nat_of m) (effectL q).1 (found.1 ∙ sym after.1) after.0)
