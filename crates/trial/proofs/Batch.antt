-- A batch, notice by notice: what was entered so far and what is left make up the whole. Assumes nothing.
use mathlib.Core.Path.{◌≡◌, refl, sym, ◌∙◌, ap, ap₂}
use mathlib.Core.Bool.{true}
use mathlib.Core.List.{List, [], ◌∷◌, ◌++◌, flatten, append-nil, append_assoc}
use Prim.Native.Nat.{ℕ, suc, ◌+◌, ◌-◌, ◌*◌, ◌≤◌, ◌<◌, max}
use native.Mathlib.Omega.{arith}
use lib.IntN.{ℤ, pos, ◌+ℤ◌, +ℤ_idl, +ℤ_idr, +ℤ_assoc}
use lib.ListN.{length, take, drop, length-append}
use lib.Seq.{drop-drop, take_at, drop_at}
use Rattle.daybook.specs.declared.Edition.{Edition}
use Rattle.daybook.specs.declared.EnergyNotice.{EnergyNotice}
use Rattle.daybook.specs.Book.{Book}
use Rattle.daybook.specs.Queries.{sum_of}
use Rattle.daybook.specs.Editions.{largest, most_records}
use Rattle.daybook.specs.FromNumbers.{energy_notice_of}
use Rattle.daybook.specs.Trials.{notices_in, answers_to, books_on_the_way, most_in, removed_in}
use Rattle.layout.specs.Layout.{table_length, table_book}
use Rattle.layout.specs.Sound.{sound}
use Rattle.layout.specs.Calls.{placed}
use Rattle.trial.specs.InnerTrial.{Tried, TriedAll}
use Rattle.trial.proofs.Answers.{energy_five}

-- the notices from k on
abbrev pub rest : ℕ → List ℤ → ℕ → List EnergyNotice
rest count xs k = notices_in (count - k) (drop (6 * k) xs)

rest_next : (count : ℕ) (xs : List ℤ) (k : ℕ) → k < count → rest count xs k ≡ energy_notice_of (drop (6 * k) xs) ∷ rest count xs (k + 1)
unfolding notices_in
rest_next count xs k h =
    let left : count - k ≡ suc (count - (k + 1)) = omega arith in
    let on : 6 * k + 6 ≡ 6 * (k + 1) = omega arith in
    ap (λ m. notices_in m (drop (6 * k) xs)) left
    ∙ ap (λ ys. energy_notice_of (drop (6 * k) xs) ∷ notices_in (count - (k + 1)) ys) (drop-drop 6 (6 * k) xs ∙ ap (λ m. drop m xs) on)

rest_all : (count : ℕ) (xs : List ℤ) → rest count xs 0 ≡ notices_in count xs
rest_all count xs = let e : count - 0 ≡ count = omega arith in ap (λ m. notices_in m xs) e

rest_none : (count : ℕ) (xs : List ℤ) (k : ℕ) → count ≤ k → rest count xs k ≡ []
unfolding notices_in
rest_none count xs k h = let z : count - k ≡ 0 = omega arith in ap (λ m. notices_in m (drop (6 * k) xs)) z

-- the book at the start is on the way
most_start : (ed : Edition) (ns : List EnergyNotice) (B : Book)
    → max (most_records B.points) (most_in (books_on_the_way ed ns B)) ≡ most_in (books_on_the_way ed ns B)
unfolding books_on_the_way largest
most_start ed [] B = omega arith
most_start ed (n ∷ ns) B = omega arith

module _ (ed : Edition) (count : ℕ) (xs : List ℤ) (B : Book) (out : List ℤ) where
  abbrev ns : List EnergyNotice
  ns = notices_in count xs

  -- k notices were entered: t is left of the table and u of the answer table.
  pub record SoFar (k : ℕ) (t u : List ℤ) (most removed : ℕ) : Type 0 where
    pub is_sound : sound ed t ≡ true
    pub done : List ℤ
    pub done_length : length done ≡ 5 * k
    pub placed_is : u ≡ placed done out
    pub answers : flatten (answers_to ed ns B) ≡ done ++ flatten (answers_to ed (rest count xs k) (table_book ed t))
    pub most_is : most_in (books_on_the_way ed ns B) ≡ max most (most_in (books_on_the_way ed (rest count xs k) (table_book ed t)))
    pub most_here : most_records (table_book ed t).points ≤ most
    pub removed_is : sum_of removed_in (answers_to ed ns B) ≡ pos removed +ℤ sum_of removed_in (answers_to ed (rest count xs k) (table_book ed t))
    pub few : removed ≤ k * table_length

  pub so_far_none : (t : List ℤ) → sound ed t ≡ true → table_book ed t ≡ B → (most : ℕ) → most ≡ most_records (table_book ed t).points → SoFar 0 t out most 0
  unfolding placed
  so_far_none t s b most m =
      record {
        is_sound = s;
        done = [];
        done_length = refl;
        placed_is = refl;
        answers = ap₂ (λ ns (B : Book). flatten (answers_to ed ns B)) (sym (rest_all count xs)) (sym b);
        most_is =
            sym (most_start ed ns B) ∙ ap (λ m. max m (most_in (books_on_the_way ed ns B))) (sym (m ∙ ap (λ (B : Book). most_records B.points) b))
            ∙ ap₂ (λ ns (B : Book). max most (most_in (books_on_the_way ed ns B))) (sym (rest_all count xs)) (sym b);
        most_here = omega arith;
        removed_is = ap₂ (λ ns (B : Book). sum_of removed_in (answers_to ed ns B)) (sym (rest_all count xs)) (sym b) ∙ sym (+ℤ_idl _);
        few = omega arith;
      }

  -- five numbers behind those so far
  next_placed : (done five u v : List ℤ) (k : ℕ) → length done ≡ 5 * k → u ≡ placed done out → length five ≡ 5
      → v ≡ take (5 * k) u ++ (five ++ drop 5 (drop (5 * k) u)) → v ≡ placed (done ++ five) out
  unfolding placed
  next_placed done five u v k l e f is =
      is
      ∙ ap₂ (λ x y. x ++ (five ++ drop 5 y)) (ap (take (5 * k)) e ∙ take_at done _ (5 * k) l) (ap (drop (5 * k)) e ∙ drop_at done _ (5 * k) l)
      ∙ sym (append_assoc done five _)
      ∙ ap (λ y. (done ++ five) ++ y) (drop-drop 5 (length done) out ∙ ap (λ m. drop m out) (sym (length-append done five ∙ ap (λ m. length done + m) f)))

  -- one notice more
  pub so_far_next : {k most removed : ℕ} {t u : List ℤ} → SoFar k t u most removed → k < count → (n : EnergyNotice) → n ≡ energy_notice_of (drop (6 * k) xs) → {t' five v : List ℤ} {r : ℕ} → Tried ed n (table_book ed t) t' five r
      → v ≡ take (5 * k) u ++ (five ++ drop 5 (drop (5 * k) u)) → (most' : ℕ) → most' ≡ max most (most_records (table_book ed t').points)
      → SoFar (k + 1) t' v most' (removed + r)
  unfolding answers_to books_on_the_way largest sum_of flatten
  so_far_next {k} {most} {removed} {t} {u} c h n is {t'} {five} {v} {r} d w most' m =
      record {
        is_sound = d.is_sound;
        done = c.done ++ five;
        done_length = length-append c.done five ∙ ap₂ ◌+◌ c.done_length l ∙ on;
        placed_is = next_placed c.done five u v k c.done_length c.placed_is l w;
        answers =
            c.answers ∙ ap (λ ns. c.done ++ flatten (answers_to ed ns (table_book ed t))) left
            ∙ ap₂ (λ a (B : Book). c.done ++ (a ++ flatten (answers_to ed (rest count xs (k + 1)) B))) (sym d.answered) (sym d.book)
            ∙ sym (append_assoc c.done five _);
        most_is =
            c.most_is ∙ ap (λ ns. max most (most_in (books_on_the_way ed ns (table_book ed t)))) left
            ∙ ap (λ (B : Book). max most (max (most_records (table_book ed t).points) (most_in (books_on_the_way ed (rest count xs (k + 1)) B)))) (sym d.book)
            ∙ larger (most_records (table_book ed t).points) (most_records (table_book ed t').points) (most_in (books_on_the_way ed (rest count xs (k + 1)) (table_book ed t'))) c.most_here
            (most_start ed (rest count xs (k + 1)) (table_book ed t')) m;
        most_here = omega arith;
        removed_is =
            c.removed_is ∙ ap (λ ns. pos removed +ℤ sum_of removed_in (answers_to ed ns (table_book ed t))) left
            ∙ ap₂ (λ z (B : Book). pos removed +ℤ (z +ℤ sum_of removed_in (answers_to ed (rest count xs (k + 1)) B))) (sym d.removed_is) (sym d.book)
            ∙ sym (+ℤ_assoc (pos removed) (pos r) (sum_of removed_in (answers_to ed (rest count xs (k + 1)) (table_book ed t'))));
        few = omega (arith, c.few, d.few);
      }
    where
      on : 5 * k + 5 ≡ 5 * (k + 1)
      on = omega arith

      left : rest count xs k ≡ n ∷ rest count xs (k + 1)
      left = rest_next count xs k h ∙ ap (λ n. n ∷ rest count xs (k + 1)) (sym is)

      l : length five ≡ 5
      l = ap length d.answered ∙ energy_five ed n (table_book ed t)

      larger : (a b z : ℕ) → a ≤ most → max b z ≡ z → most' ≡ max most b → max most (max a z) ≡ max most' z
      larger a b z i j m = omega arith

  pub so_far_all : {k most removed : ℕ} {t u : List ℤ} → SoFar k t u most removed → count ≤ k → TriedAll ed ns B out u most removed
  unfolding answers_to books_on_the_way largest sum_of flatten
  so_far_all {k} {most} {removed} {t} {u} c h =
      let none : rest count xs k ≡ [] = rest_none count xs k h in
      record {
        most_is = omega (arith, c.most_is ∙ ap (λ ns. max most (most_in (books_on_the_way ed ns (table_book ed t)))) none, c.most_here);
        removed_is =
            sym (c.removed_is ∙ ap (λ ns. pos removed +ℤ sum_of removed_in (answers_to ed ns (table_book ed t))) none ∙ +ℤ_idr (pos removed));
        answered =
            c.placed_is
            ∙ ap (λ l. placed l out) (sym (c.answers ∙ ap (λ ns. c.done ++ flatten (answers_to ed ns (table_book ed t))) none ∙ append-nil c.done));
      }
