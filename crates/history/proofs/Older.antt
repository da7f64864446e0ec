-- Registers that were made before points had sections, before they had operators, and before there were two editions.
-- Assumes nothing.
use mathlib.Core.Path.{◌≡◌, refl, sym, ◌∙◌, ap, ap₂, subst}
use mathlib.Core.Bool.{Bool, true, false, ◌&&◌, cond, and-true, and-false, false≢true}
use mathlib.Core.Option.{Option, none, some, none-ne-some, some-injective}
use mathlib.Core.List.{List, [], ◌∷◌, ◌++◌, map}
use Prim.Native.Nat.{ℕ, ◌+◌, ◌*◌, ◌≤◌}
use native.Mathlib.Omega.{arith}
use lib.Dec.{leb, eqb}
use lib.IntN.{ℤ, pos}
use lib.ListN.{length, get_or, drop, length-map}
use borrow.Author.Tests.{le-leb, eqb-true, not-false}
use Rattle.numbers.specs.Naturals.{nat_of}
use Rattle.numbers.specs.Rows.{all}
use Rattle.numbers.specs.Answers.{refused}
use Rattle.numbers.proofs.Naturals.{same_true}
use Rattle.numbers.proofs.Bools.{both, join, iff}
use Rattle.numbers.proofs.Rows.{all_none, all_at, all_of, all_same}
use Rattle.daybook.specs.declared.Edition.{Edition}
use Rattle.daybook.specs.Editions.{Editions, edition_no}
use Rattle.daybook.specs.declared.EnergyNotice.{EnergyNotice}
use Rattle.daybook.specs.declared.Facts.{Facts}
use Rattle.daybook.specs.declared.NewRegister.{NewRegister}
use Rattle.daybook.specs.declared.Opening.{Opening}
use Rattle.daybook.specs.Book.{Entry, Point, Book, latest}
use Rattle.daybook.specs.Notices.{Numbers, is_range, fresh_book, find, which, entry_of, facts_of, outcome_of, entered, enter}
use Rattle.daybook.specs.Calls.{Notice, open!, energy!, status!, request!, withdraw!, correct!, save!, restore!, Call, fresh!, notice!, query!, state!, convert!, noted}
use Rattle.lists.specs.Lists.{Lists, Register, operator_of, point_of, book_of, with_facts, unnamed_again}
use Rattle.lists.specs.InnerSteps.{notice_lists}
use Rattle.lists.specs.InnerWell.{WellFormed}
use Rattle.lists.proofs.Operators.{named_lists}
use Rattle.lists.proofs.Notices.{notice_step, notice_keeps, notice_kept}
use Rattle.layout.specs.Layout.{table_length, place_of, BothFit, edition_in, part_of, layout, num_at, point_from, points_from, register_of, table_book}
use Rattle.layout.specs.Sound.{each, facts_sound, regs_sound, offs_sound, recs_sound, pending_sound, lists_sound, zeros, counts_sound, unused_zero, part_sound, mirns_differ, sound}
use Rattle.layout.specs.Calls.{answer_and_table}
use Rattle.layout.proofs.Mirns.{each_point}
use Rattle.layout.proofs.Editions.{edition_fits}
use Rattle.layout.proofs.Tables.{register_back}
use Rattle.layout.proofs.TableSound.{tested, points_count, sound_lays}
use Rattle.table.proofs.Calls.{leaves_is}
use Rattle.energy.specs.Energy.{energy_call}
use Rattle.history.specs.Runs.{Lent, notice_call, state_call, with_table, lent_step}
use Rattle.history.specs.Agreement.{TableOf}
use Rattle.history.specs.OtherRules.{enter_by, energy_call_by, notice_call_by, lent_step_by}
use Rattle.history.specs.Older.{unused_zero_before, facts_sound_before, part_sound_before, sound_before, before_g, before_k, no_section, in_section0, section0, unnamed, of_operator1, makes_another, OlderRegisters}
use Rattle.history.proofs.Steps.{notice_is, notice_table, fresh_left, convert_left}
use Rattle.history.proofs.States.{own_sound}
use Rattle.history.proofs.EnergyBooks.{step_by, found, row, now_is, by_is}
use Rattle.history.proofs.Facts.{facts_in, facts_after}

-- ---- tests of every row

all_both : (p q : ℕ → Bool) (n : ℕ) → all (λ i. p i && q i) n ≡ (all p n && all q n)
all_both p q n =
    iff (all (λ i. p i && q i) n) (all p n && all q n)
    (λ e. join (all_of p n (λ i h. (both (p i) (q i) (all_at _ n e i h)).0)) (all_of q n (λ i h. (both (p i) (q i) (all_at _ n e i h)).1)))
    (λ e. let (a, b) = both (all p n) (all q n) e in all_of _ n (λ i h. join (all_at p n a i h) (all_at q n b i h)))

each_map : {X Y : Type 0} (f : X → Y) (test : Y → Bool) (l : List X) → each test (map f l) ≡ each (λ x. test (f x)) l
unfolding each
each_map f test [] = refl
each_map f test (x ∷ l) = ap (λ b. test (f x) && b) (each_map f test l)

each_same : {X : Type 0} (f g : X → Bool) → ((x : X) → f x ≡ g x) → (l : List X) → each f l ≡ each g l
unfolding each
each_same f g e [] = refl
each_same f g e (x ∷ l) = ap₂ ◌&&◌ (e x) (each_same f g e l)

each_append : {X : Type 0} (test : X → Bool) (l m : List X) → each test l ≡ true → each test m ≡ true → each test (l ++ m) ≡ true
unfolding each
each_append test [] m a b = b
each_append test (x ∷ l) m a b = let c = both (test x) (each test l) a in join c.0 (each_append test l m c.1 b)

-- a test of all rows beside the tests of each
with_test : (n : ℕ) (part part' test : ℕ → Bool) → ((i : ℕ) → part i ≡ (part' i && test i)) → (header mirns rest : Bool)
    → (header && all part n && mirns && rest) ≡ (header && all part' n && mirns && rest && all test n)
with_test n part part' test is header mirns rest =
    rw (all_same part (λ i. part' i && test i) n (λ i h. is i), all_both part' test n)
    (go (all test n) header (all part' n) mirns rest)
  where
    go : (s x p m r : Bool) → (x && (p && s) && m && r) ≡ (x && p && m && r && s)
    go true x p m r = rw (and-true p, and-true (x && p && m && r))
    go false x p m r = rw (and-false p, and-false x, and-false (x && p && m && r))

-- ---- sound before is sound now

-- place 11 is the first of the five that were unused before g, place 10 of the six that were unused before a
last_five : (s a b c d : Bool) → (a && (b && (c && (d && (s && true))))) ≡ (a && (b && (c && (d && true))) && s)
last_five true a b c d = sym (and-true _)
last_five false a b c d = simp and-false

last_six : (s a b c d e : Bool) → (a && (b && (c && (d && (e && (s && true)))))) ≡ (a && (b && (c && (d && (e && true)))) && s)
last_six true a b c d e = sym (and-true _)
last_six false a b c d e = simp and-false

module _ (p : List ℤ) where
  abbrev zero? : ℕ → Bool
  zero? k = eqb (num_at p k) 0

  head_g : zeros p 11 16 ≡ (zeros p 12 16 && zero? 11)
  unfolding zeros all
  head_g = last_five (zero? 11) (zero? 15) (zero? 14) (zero? 13) (zero? 12)

  head_a : zeros p 10 16 ≡ (zeros p 11 16 && zero? 10)
  unfolding zeros all
  head_a = last_six (zero? 10) (zero? 15) (zero? 14) (zero? 13) (zero? 12) (zero? 11)

-- the tests of a part, with that of the first unused place, s, apart; it passes what is asked of an operator, r
tests_g : (s r : Bool) → (s ≡ true → r ≡ true) → (c z a b d e f g h i j : Bool)
    → (c && (z && s && a && b && d && e) && (f && g && h && i && j)) ≡ (c && (z && a && b && d && e) && (f && r && g && h && i && j) && s)
tests_g true r k c z a b d e f g h i j = rw (k refl, and-true z, and-true f, and-true (c && (z && a && b && d && e) && (f && g && h && i && j)))
tests_g false r k c z a b d e f g h i j = rw (and-false z, and-false c, and-false (c && (z && a && b && d && e) && (f && r && g && h && i && j)))

tests_a : (s c z a b d e f : Bool) → (c && (z && s && a && b && d && e) && f) ≡ (c && (z && a && b && d && e) && f && s)
tests_a true c z a b d e f = rw (and-true z, and-true (c && (z && a && b && d && e) && f))
tests_a false c z a b d e f = rw (and-false z, and-false c, and-false (c && (z && a && b && d && e) && f))

module _ (p : List ℤ) where
  abbrev q : Lists
  q = point_from p

  part_g : part_sound_before 11 p ≡ (part_sound p && eqb (num_at p 11) 0)
  unfolding part_sound_before unused_zero_before facts_sound_before part_sound unused_zero lists_sound facts_sound point_from
  part_g =
      rw (head_g p)
      (tests_g (eqb (num_at p 11) 0) (leb (num_at p 11) 4) (λ e. le-leb (num_at p 11) 4 (omega (arith, eqb-true (num_at p 11) 0 e)))
      (counts_sound p) (zeros p 12 16) (zeros p (16 + 2 * num_at p 4) 32) (zeros p (32 + 2 * num_at p 5) 48)
      (zeros p (48 + 4 * num_at p 6) (length p)) (cond (eqb (num_at p 7) 0) (zeros p 7 10) true) (facts_sound_before q.facts)
      (regs_sound q.facts.install q.regs) (offs_sound q.facts.install q.offs) (recs_sound q) (pending_sound q))

  part_a : part_sound_before 10 p ≡ (part_sound_before 11 p && eqb (num_at p 10) 0)
  unfolding part_sound_before unused_zero_before
  part_a =
      rw (head_a p)
      (tests_a (eqb (num_at p 10) 0) (counts_sound p) (zeros p 11 16) (zeros p (16 + 2 * num_at p 4) 32)
      (zeros p (32 + 2 * num_at p 5) 48) (zeros p (48 + 4 * num_at p 6) (length p)) (cond (eqb (num_at p 7) 0) (zeros p 7 10) true)
      (facts_sound_before q.facts && regs_sound q.facts.install q.regs && offs_sound q.facts.install q.offs && recs_sound q && pending_sound q))

module _ (ed : Edition) (t : List ℤ) where
  abbrev n : ℕ
  n = num_at t 0

  abbrev header : Bool
  header = leb table_length (length t) && leb n ed.points && is_range (get_or t 1 (pos 0)) && is_range (get_or t 2 (pos 0)) && zeros t 3 8

  -- each point of the book, by its part
  book_each : (test : Lists → Bool) (testP : Point → Bool) → ((q : Lists) → testP (point_of q) ≡ test q)
      → each testP (table_book ed t).points ≡ all (λ i. test (point_from (part_of ed t i))) n
  unfolding table_book book_of
  book_each test testP is =
      each_map point_of testP (register_of ed t).points ∙ each_same _ test is (register_of ed t).points ∙ each_point ed t test

  sections_are : in_section0 (table_book ed t) ≡ all (λ i. eqb (num_at (part_of ed t i) 10) 0) n
  unfolding point_of point_from
  sections_are = book_each (λ (q : Lists). eqb q.facts.section 0) _ (λ q. refl)

  operators_are : of_operator1 (table_book ed t) ≡ all (λ i. eqb (operator_of (num_at (part_of ed t i) 11)) 1) n
  unfolding point_of point_from
  operators_are = book_each (λ (q : Lists). eqb (operator_of q.facts.operator) 1) _ (λ q. refl)

  sound_g_lem : sound_before (part_sound_before 11) ed t ≡ (sound_before part_sound ed t && unnamed ed t)
  unfolding sound_before
  sound_g_lem =
      with_test n (λ i. part_sound_before 11 (part_of ed t i)) (λ i. part_sound (part_of ed t i)) (λ i. eqb (num_at (part_of ed t i) 11) 0)
      (λ i. part_g (part_of ed t i)) header (mirns_differ (points_from ed n (drop 8 t))) (zeros t (place_of ed n) table_length)

  sound_a_lem : sound_before (part_sound_before 10) ed t ≡ (sound_before (part_sound_before 11) ed t && in_section0 (table_book ed t))
  unfolding sound_before
  sound_a_lem =
      rw sections_are
      (with_test n (λ i. part_sound_before 10 (part_of ed t i)) (λ i. part_sound_before 11 (part_of ed t i)) (λ i. eqb (num_at (part_of ed t i) 10) 0)
      (λ i. part_a (part_of ed t i)) header (mirns_differ (points_from ed n (drop 8 t))) (zeros t (place_of ed n) table_length))

  -- place 3 is the first of the five of the header that were unused before k
  head_k : zeros t 3 8 ≡ (zeros t 4 8 && eqb (num_at t 3) 0)
  unfolding zeros all
  head_k = last_five (zero? t 3) (zero? t 7) (zero? t 6) (zero? t 5) (zero? t 4)

  sound_k_lem : ed.number ≡ 0 → sound_before part_sound ed t ≡ sound ed t
  unfolding sound_before sound
  sound_k_lem z = rw head_k (go (eqb (num_at t 3) 0) counted (zeros t 4 8) parts mirns rest) ∙ ap (λ k. counted && eqb (num_at t 3) k && zeros t 4 8 && parts && mirns && rest) (sym z)
    where
      counted : Bool
      counted = leb table_length (length t) && leb n ed.points && is_range (get_or t 1 (pos 0)) && is_range (get_or t 2 (pos 0))

      parts : Bool
      parts = all (λ i. part_sound (part_of ed t i)) n

      mirns : Bool
      mirns = mirns_differ (points_from ed n (drop 8 t))

      rest : Bool
      rest = zeros t (place_of ed n) table_length

      go : (s x z p m r : Bool) → (x && (z && s) && p && m && r) ≡ (x && s && z && p && m && r)
      go true x z p m r = rw (and-true z, and-true x)
      go false x z p m r = rw (and-false z, and-false x)

  -- an operator that is not named is 1
  unnamed_1 : unnamed ed t ≡ true → of_operator1 (table_book ed t) ≡ true
  unnamed_1 e = operators_are ∙ all_of _ n (λ i h. ap (λ o. eqb (operator_of o) 1) (eqb-true (num_at (part_of ed t i) 11) 0 (all_at _ n e i h)))

-- ---- each call as before

find_each : (test : Point → Bool) (m : ℕ) (p : Point) (ps : List Point) → find m ps ≡ some p → each test ps ≡ true → test p ≡ true
unfolding find each
find_each test m p [] e h = absurd (none-ne-some p e)
find_each test m p (x ∷ ps) e h = go (eqb m x.facts.mirn) e (both (test x) (each test ps) h) (find_each test m p ps)
  where
    go : (b : Bool) → cond b (some x) (find m ps) ≡ some p → (test x ≡ true) × (each test ps ≡ true)
        → (find m ps ≡ some p → each test ps ≡ true → test p ≡ true) → test p ≡ true
    go true e h ih = subst (λ y. test y ≡ true) (some-injective x p e) h.0
    go false e h ih = ih e h.1

step_same : (n : EnergyNotice) (B : Book) (o : Option Point) (row : ℕ) → ((p : Point) → o ≡ some p → p.facts.section ≡ 0)
    → step_by n B (enter (entry_of n)) o row ≡ step_by n B (enter_by no_section (entry_of n)) o row
unfolding enter enter_by
step_same n B none r h = refl
step_same n B (some p) r h =
    let x : Entry = entry_of n in
    ap (λ c. step_by n B (λ p. entered x (which p x) (outcome_of (which p x) c x (latest p).0 p.pending) p) (some p) r) (h p refl)

module _ (E : Editions) (fit : BothFit E) (t : List ℤ) (old : section0 E t ≡ true) where
  abbrev ed : Edition
  ed = edition_in E t

  now : (sound ed t ≡ true) × (in_section0 (table_book ed t) ≡ true)
  now = both (sound ed t) (in_section0 (table_book ed t)) old

  energy_same : (n : EnergyNotice) → energy_call E t n ≡ energy_call_by E no_section t n
  energy_same n =
      now_is E fit t now.0 n
      ∙ ap (answer_and_table ed t) (step_same n (table_book ed t) (found E fit t now.0 n) (row E fit t now.0 n) (λ p e. eqb-true _ 0 (find_each _ (nat_of n.mirn) p _ e now.1)))
      ∙ sym (by_is E fit t now.0 n no_section)

  notice_same : (c : Notice) → notice_call E c t ≡ notice_call_by E no_section c t
  unfolding notice_call notice_call_by
  notice_same (open! n) = refl
  notice_same (energy! n) = energy_same n
  notice_same (status! n) = refl
  notice_same (request! n holidays) = refl
  notice_same (withdraw! n) = refl
  notice_same (correct! n) = refl

call_same : (E : Editions) → BothFit E → (L : Lent) (c : Call) → section0 E L.table ≡ true → lent_step E c L ≡ lent_step_by E no_section c L
unfolding lent_step lent_step_by
call_same E fit L (fresh! n) old = refl
call_same E fit L (notice! c) old = ap (λ (w : Numbers × List ℤ). ((w.0, []), with_table L w.1)) (notice_same E fit L.table old c)
call_same E fit L (query! q) old = refl
call_same E fit L (state! c) old = refl
call_same E fit L (convert! second) old = refl

-- ---- points stay in section 0

abbrev in0 : Facts → Bool
in0 f = eqb f.section 0

stays_in_0 : (c : Notice) (ed : Edition) (B : Book) → ((n : Opening) → c ≡ open! n → n.section ≡ pos 0) → in_section0 B ≡ true
    → in_section0 (noted c ed B).1 ≡ true
unfolding facts_of each
stays_in_0 c ed B h s =
    sym (each_map (λ (p : Point). p.facts) in0 (noted c ed B).1.points)
    ∙ facts_after (λ fs. each in0 fs ≡ true) c ed B (each_map (λ (p : Point). p.facts) in0 B.points ∙ s) (λ n e z.
    each_append in0 (facts_in B) (facts_of n ∷ []) (each_map (λ (p : Point). p.facts) in0 B.points ∙ s) (ap (λ z. eqb (nat_of z) 0 && true) (h n e)))

-- a table that stands for a book with all points in section 0
of_section0 : {E : Editions} {ed : Edition} {B : Book} {t : List ℤ} → TableOf E ed B t → in_section0 B ≡ true → section0 E t ≡ true
of_section0 {E = E} {t = t} f e = join (own_sound f) (ap (λ ed. in_section0 (table_book ed t)) f.edition ∙ ap in_section0 f.book ∙ e)

runs_on_a_lem : (E : Editions) → BothFit E → (L : Lent) (c : Call) → section0 E L.table ≡ true → ((n : Opening) → c ≡ notice! (open! n) → n.section ≡ pos 0)
    → ((n : ℤ) (lent : ℕ) → ¬ (c ≡ state! (restore! n lent)))
    → section0 E (lent_step E c L).1.table ≡ true
unfolding lent_step state_call each
runs_on_a_lem E fit L (fresh! n) old h r = fresh_left E fit L.table n (λ u. section0 E u ≡ true) old (λ u f. of_section0 f refl)
runs_on_a_lem E fit L (query! q) old h r = old
runs_on_a_lem E fit L (state! (save! n lent)) old h r = old
runs_on_a_lem E fit L (state! (restore! n lent)) old h r = absurd (r n lent refl)
runs_on_a_lem E fit L (notice! c) old h r =
    let t : List ℤ = L.table in
    let (s, all0) = now E fit t old in
    of_section0 (notice_table E fit t s c) (stays_in_0 c (edition_in E t) (table_book (edition_in E t) t) (λ n e. h n (ap notice! e)) all0)
runs_on_a_lem E fit L (convert! second) old h r =
    let t : List ℤ = L.table in
    let (s, all0) = now E fit t old in
    convert_left E fit t s second (λ u. section0 E u ≡ true) old (λ u f. of_section0 f all0)

-- ---- operators stay unnamed

abbrev none0 : Lists → Bool
none0 q = eqb q.facts.operator 0

-- where every point before had 0, and there are no more points, every point has 0
unnamed_again_lem : (before qs : List Lists) → each none0 before ≡ true → length qs ≤ length before → each none0 (unnamed_again before qs) ≡ true
unfolding each unnamed_again with_facts
unnamed_again_lem [] [] e h = refl
unnamed_again_lem [] (q ∷ qs) e h = absurd (omega arith)
unnamed_again_lem (old ∷ before) [] e h = refl
unnamed_again_lem (old ∷ before) (q ∷ qs) e h =
    let b = both (none0 old) (each none0 before) e in rw b.0 (unnamed_again_lem before qs b.1 (omega arith))

module _ (E : Editions) (fit : BothFit E) (t : List ℤ) (s : sound (edition_in E t) t ≡ true) (all0 : unnamed (edition_in E t) t ≡ true) (c : Notice) (other : (n : Opening) → ¬ (c ≡ open! n)) where
  abbrev ed' : Edition
  ed' = edition_in E t

  abbrev R : Register
  R = register_of ed' t

  abbrev R' : Register
  R' = (notice_lists c ed' R).1

  ok : WellFormed ed' R
  ok = (sound_lays ed' (edition_fits E fit t) t s).0

  unnamed_is : (u : List ℤ) → each none0 (register_of ed' u).points ≡ unnamed ed' u
  unfolding point_from
  unnamed_is u = each_point ed' u none0

  -- there are no more points than before
  no_more : length R'.points ≤ length R.points
  unfolding book_of
  no_more =
      rw (length-map (map point_of R'.points) facts, length-map R'.points point_of)
      at (rw (ap (λ (w : Numbers × Book). w.1) (notice_step c ed' R ok)) at few_facts)
    where
      facts : Point → Facts
      facts p = p.facts

      few_facts : length (facts_in (noted c ed' (book_of R)).1) ≤ length R.points
      few_facts =
          facts_after (λ fs. length fs ≤ length R.points) c ed' (book_of R)
          (omega (arith, length-map (map point_of R.points) facts, length-map R.points point_of)) (λ n e z. absurd (other n e))

  left_unnamed : unnamed ed' (notice_call E c t).1 ≡ true
  unfolding table_book
  left_unnamed =
      ap (λ (w : Numbers × List ℤ). unnamed ed' w.1)
      (notice_is E fit t s c ∙ ap (answer_and_table ed' t) (notice_step c ed' R ok) ∙ leaves_is ed' t (notice_lists c ed' R) (notice_keeps c ed' ok) (notice_kept c ed' R))
      ∙ go (refused (notice_lists c ed' R).0)
    where
      go : (b : Bool) → unnamed ed' (cond b t (layout ed' R' ++ drop table_length t)) ≡ true
      go true = all0
      go false =
          sym (unnamed_is (layout ed' R' ++ drop table_length t))
          ∙ ap (λ (S : Register). each none0 S.points) (register_back ed' (notice_keeps c ed' ok) (drop table_length t))
          ∙ ap (each none0) (sym (notice_kept c ed' R))
          ∙ unnamed_again_lem R.points (map named_lists R'.points) (unnamed_is t ∙ all0) (omega (arith, no_more, length-map R'.points named_lists))

-- with no points none is named
fresh_unnamed : {E : Editions} {to : Edition} (n : NewRegister) {u : List ℤ} → TableOf E to (fresh_book n) u → (ed : Edition) → unnamed ed u ≡ true
unfolding table_book book_of
fresh_unnamed {to = to} n {u = u} f ed =
    let few : num_at u 0 ≡ 0 =
    sym (points_count to u) ∙ sym (length-map (register_of to u).points point_of) ∙ ap (λ (B : Book). length B.points) f.book in
    ap (all (λ i. eqb (num_at (part_of ed u i) 11) 0)) few ∙ all_none _

-- ---- older registers run on

module _ (E : Editions) (fit : BothFit E) where
  k_sound : (t : List ℤ) → before_k E t ≡ sound E.standard t
  k_sound t = sound_k_lem E.standard t fit.number0

  k_standard : (t : List ℤ) → before_k E t ≡ true → edition_in E t ≡ E.standard
  unfolding edition_in edition_no
  k_standard t e = ap (edition_no E) ((tested E.standard t (sym (k_sound t) ∙ e)).own_number ∙ fit.number0)

  k_own : (t : List ℤ) → before_k E t ≡ true → sound (edition_in E t) t ≡ true
  k_own t e = ap (λ ed. sound ed t) (k_standard t e) ∙ sym (k_sound t) ∙ e

  -- a table that stands for a book in the standard edition
  of_standard : {B : Book} {t : List ℤ} → TableOf E E.standard B t → before_k E t ≡ true
  of_standard {t = t} f = k_sound t ∙ f.is_sound

  runs_on_k_lem : (L : Lent) (c : Call) → before_k E L.table ≡ true → makes_another c ≡ false → before_k E (lent_step E c L).1.table ≡ true
  unfolding lent_step state_call edition_no
  runs_on_k_lem L (fresh! n) old r =
      let zero-edition : n.edition ≡ pos 0 = same_true n.edition (pos 0) (not-false _ r) in
      fresh_left E fit L.table n (λ u. before_k E u ≡ true) old
      (λ u f. of_standard (subst (λ z. TableOf E (edition_no E (nat_of z)) (fresh_book n) u) zero-edition f))
  runs_on_k_lem L (query! q) old r = old
  runs_on_k_lem L (state! (save! n lent)) old r = old
  runs_on_k_lem L (state! (restore! n lent)) old r = absurd (false≢true (sym r))
  runs_on_k_lem L (notice! c) old r =
      let t : List ℤ = L.table in
      let left : List ℤ = (notice_call E c t).1 in
      k_sound left ∙ ap (λ ed. sound ed left) (sym (k_standard t old)) ∙ (notice_table E fit t (k_own t old) c).is_sound
  runs_on_k_lem L (convert! second) old r = absurd (false≢true (sym r))

  of_g : (t : List ℤ) → before_k E t ≡ true → unnamed E.standard t ≡ true → before_g E t ≡ true
  of_g t k u = sound_g_lem E.standard t ∙ join k u

  g_both : (t : List ℤ) → before_g E t ≡ true → (before_k E t ≡ true) × (unnamed E.standard t ≡ true)
  g_both t e = both (before_k E t) (unnamed E.standard t) (sym (sound_g_lem E.standard t) ∙ e)

  runs_on_g_lem : (L : Lent) (c : Call) → before_g E L.table ≡ true → ((n : Opening) → ¬ (c ≡ notice! (open! n)))
      → makes_another c ≡ false → before_g E (lent_step E c L).1.table ≡ true
  unfolding lent_step state_call
  runs_on_g_lem L (fresh! n) old h r =
      of_g _ (runs_on_k_lem L (fresh! n) (g_both L.table old).0 r)
      (fresh_left E fit L.table n (λ u. unnamed E.standard u ≡ true) (g_both L.table old).1 (λ u f. fresh_unnamed n f E.standard))
  runs_on_g_lem L (query! q) old h r = old
  runs_on_g_lem L (state! (save! n lent)) old h r = old
  runs_on_g_lem L (state! (restore! n lent)) old h r = absurd (false≢true (sym r))
  runs_on_g_lem L (notice! c) old h r =
      let t : List ℤ = L.table in
      let (k, all0) = g_both t old in
      of_g _ (runs_on_k_lem L (notice! c) k r)
      (ap (λ ed. unnamed ed (notice_call E c t).1) (sym (k_standard t k))
      ∙ left_unnamed E fit t (k_own t k) (ap (λ ed. unnamed ed t) (k_standard t k) ∙ all0) c (λ n e. h n (ap notice! e)))
  runs_on_g_lem L (convert! second) old h r = absurd (false≢true (sym r))

  pub older_registers : OlderRegisters E
  older_registers =
      record {
        sound_k = k_sound;
        standard_k = k_standard;
        runs_on_k = runs_on_k_lem;
        sound_g = sound_g_lem E.standard;
        operator1 = λ t e. unnamed_1 E.standard t (g_both t e).1;
        runs_on_g = runs_on_g_lem;
        sound_a = sound_a_lem E.standard;
        as_before_a = call_same E fit;
        runs_on_a = runs_on_a_lem E fit;
      }
