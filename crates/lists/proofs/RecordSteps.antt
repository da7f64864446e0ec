-- An entry of the book, on the list of records: the days it leaves are those of the list after it, and the list stays
-- well formed and within its room. Function extensionality is used; no axiom is.
use mathlib.Core.Path.{◌≡◌, refl, sym, ◌∙◌, ap, ap₂, subst, fun_ext}
use mathlib.Core.Bool.{Bool, true, false, cond, ◌&&◌}
use mathlib.Core.Option.{Option, none, some}
use mathlib.Core.List.{List, [], ◌∷◌, ◌++◌}
use Prim.Native.Nat.{ℕ, suc, ◌≤◌, ◌<◌}
use native.Mathlib.Omega.{arith}
use lib.Dec.{leb, eqb}
use lib.ListN.{length, length-append}
use lib.IntN.{pos, negsuc}
use borrow.Author.Tests.{leb-false, eqb-true, lt-leb, lt-ltb, le-ltb, eq-eqb, ne_eqb}
use Rattle.calendar.specs.Calendar.{within}
use Rattle.daybook.specs.Book.{Entry, from_on, covers, fill}
use Rattle.daybook.specs.Notices.{Which, append, replacement, recut, which_of, kept, fits_kind}
use Rattle.lists.specs.Lists.{off_on, entry_on}
use Rattle.lists.specs.InnerSteps.{starting_on, skip, earlier, replaced, recs_after}
use Rattle.lists.specs.InnerWell.{Recs, norec, rec}
use Rattle.lists.proofs.Apart.{Apart, noentry, apart, recs_apart, Place, inside, under, over, place, fill_under, entry_none, Found, first, later, found}
use Rattle.lists.proofs.Records.{day_after, day_after_nil, day_after_cons, apart_tight}

-- Which of the three x is, with the record that starts on its start.
pub data Chosen (x : Entry) (l : List Entry) : Which → Type 0 where
  appends : Chosen x l append
  replaces : {y : Entry} → Found x.start y l → y.end ≡ x.end → Chosen x l replacement
  recuts : {y : Entry} → Found x.start y l → Chosen x l recut

-- which of the three the book says it is
pub chosen : {hi lo : ℕ} {l : List Entry} → Apart hi lo l → (x : Entry) (w : Which) → which_of x.end (starting_on l x.start) ≡ w → Chosen x l w
chosen {l = l} r x w e = subst (Chosen x l) e (go (starting_on l x.start) refl)
  where
    by_end : (y : Entry) (t : Bool) → Found x.start y l → eqb y.end x.end ≡ t → Chosen x l (cond t replacement recut)
    by_end y true h k = replaces h (eqb-true y.end x.end k)
    by_end y false h k = recuts h

    go : (o : Option Entry) → starting_on l x.start ≡ o → Chosen x l (which_of x.end o)
    go none h = appends
    go (some y) h = by_end y (eqb y.end x.end) (found r x.start y h) refl

-- The records before the one that starts on day s.
abbrev front : ℕ → List Entry → List Entry
front s l = earlier (λ (y : Entry). y.start) s l

-- ---- the days after each of the three

-- entries on days of their own change places; of two on the same days the later stands
fill_swap : (x y : Entry) (f : ℕ → Option Entry) → y.end < x.start → fill x (fill y f) ≡ fill y (fill x f)
unfolding fill
fill_swap x y f h = fun_ext (λ d. go d (place x d) (place y d))
  where
    go : (d : ℕ) → Place x d → Place y d → fill x (fill y f) d ≡ fill y (fill x f) d
    go d (under a e) q = rw e refl
    go d (over a e) q = rw e refl
    go d (inside a b e) (inside k m i) = absurd (omega arith)
    go d (inside a b e) (under k i) = rw i refl
    go d (inside a b e) (over k i) = rw i refl

fill_same : (x y : Entry) (f : ℕ → Option Entry) → x.start ≡ y.start → x.end ≡ y.end → fill x (fill y f) ≡ fill x f
unfolding fill
fill_same x y f p q =
    fun_ext (λ d.
    ap (λ b. cond (covers x d) (some x) (cond b (some y) (f d))) (ap₂ (λ s e. leb s d && leb d e) (sym p) (sym q))
    ∙ twice (covers x d) (some x) (some y) (f d))
  where
    twice : (b : Bool) (a c e : Option Entry) → cond b a (cond b c e) ≡ cond b a e
    twice true a c e = refl
    twice false a c e = refl

-- emptying from day s on passes an entry that ends before
fill_from : (s : ℕ) (y : Entry) (f : ℕ → Option Entry) → y.end < s → from_on s none (fill y f) ≡ fill y (from_on s none f)
unfolding fill from_on
fill_from s y f h = fun_ext (λ d. go d (place y d))
  where
    go : (d : ℕ) → Place y d → from_on s none (fill y f) d ≡ fill y (from_on s none f) d
    go d (inside a b e) = rw (e, lt-leb s d (omega arith)) refl
    go d (under a e) = rw e refl
    go d (over a e) = rw e refl

-- an append, a replacement, and what a recut leaves, by their lists
entry_append : {hi lo : ℕ} {l : List Entry} → Apart hi lo l → (x : Entry) → hi ≤ x.start → entry_on (l ++ (x ∷ [])) ≡ fill x (entry_on l)
unfolding entry_on
entry_append noentry x h = refl
entry_append (apart {x = y} {l = l} a b c r) x h = ap (fill y) (entry_append r x h) ∙ sym (fill_swap x y (entry_on l) (omega arith))

entry_replaced : (x : Entry) {y : Entry} {l : List Entry} → Found x.start y l → y.end ≡ x.end → entry_on (replaced x l) ≡ fill x (entry_on l)
unfolding entry_on replaced
entry_replaced x {y} (first {l = l} p) k = rw (eq-eqb y.start x.start p) (sym (fill_same x y (entry_on l) (sym p) (sym k)))
entry_replaced x (later {z = z} {l = l} p q f) k =
    rw (ne_eqb z.start x.start (omega arith)) (ap (fill z) (entry_replaced x f k) ∙ sym (fill_swap x z (entry_on l) q))

entry_front : {hi lo s : ℕ} {y : Entry} {l : List Entry} → Apart hi lo l → Found s y l → entry_on (front s l) ≡ from_on s none (entry_on l)
unfolding entry_on earlier from_on
entry_front {s = s} {y = y} (apart a b c r) (first {l = l} p) =
    rw (le-ltb y.start s (omega arith)) (fun_ext (λ d. go d (leb s d) refl))
  where
    go : (d : ℕ) (t : Bool) → leb s d ≡ t → none ≡ cond t none (fill y (entry_on l) d)
    go d true k = refl
    go d false k =
        let h : d < s = leb-false s d k in
        sym (fill_under y (entry_on l) d (omega arith) ∙ entry_none r d (omega arith))
entry_front {s = s} (apart a b c r) (later {z = z} {l = l} p q f) =
    rw (lt-ltb z.start s p) (ap (fill z) (entry_front r f) ∙ sym (fill_from s z (entry_on l) q))
entry_front {hi = hi} {s = s} {y = y} (noentry {lo = lo}) x4 = elim x4 [ ]

-- what a recut leaves ends before its start
apart_front : {hi lo s : ℕ} {y : Entry} {l : List Entry} → Apart hi lo l → Found s y l → Apart s lo (front s l)
unfolding earlier
apart_front {s = s} {y = y} (apart a b c r) (first p) = rw (le-ltb y.start s (omega arith)) noentry
apart_front {s = s} (apart a b c r) (later {z = z} p q f) = rw (lt-ltb z.start s p) (apart a b q (apart_front r f))
apart_front {hi = hi} {s = s} {y = y} (noentry {lo = lo}) x4 = elim x4 [ ]

-- what an entry leaves on the days is what it leaves of the list
pub entries_after : {kind from : ℕ} {offs : List (ℕ × Option ℕ)} {l : List Entry} → Recs kind offs from l → (x : Entry) (w : Which) → which_of x.end (starting_on l x.start) ≡ w → (w ≡ append → day_after from l ≤ x.start) → fill x (kept w x.start (entry_on l)) ≡ entry_on (recs_after w x l)
entries_after {from = from} {l = l} rs x w e late = go w (chosen r x w e) late
  where
    r : Apart 40000 from l
    r = recs_apart rs

    go : (w : Which) → Chosen x l w → (w ≡ append → day_after from l ≤ x.start) → fill x (kept w x.start (entry_on l)) ≡ entry_on (recs_after w x l)
    go append appends late = sym (entry_append (apart_tight r x.start (late refl)) x (omega arith))
    go replacement (replaces f k) late = sym (entry_replaced x f k)
    go recut (recuts f) late = ap (fill x) (sym (entry_front r f)) ∙ sym (entry_append (apart_front r f) x (omega arith))

-- ---- the list after each of the three

-- for an entry that could stand in the list: it fits its kind, its numbers are in their ranges and its days are on
module _ {kind : ℕ} {offs : List (ℕ × Option ℕ)} (x : Entry) (fits : fits_kind kind x.start x.end ≡ true) (day : x.end ≤ 39999)
    (energy : within (negsuc 999999) (pos 1000000) x.energy ≡ true) (type : x.type ≤ 2)
    (on : (d : ℕ) → x.start ≤ d → d ≤ x.end → off_on offs d ≡ false) where
  pub recs_append : {from : ℕ} {l : List Entry} → Recs kind offs from l → skip offs (day_after from l) ≡ some x.start → Recs kind offs from (l ++ (x ∷ []))
  recs_append {from} norec e = rec (rw (day_after_nil from) at e) fits day energy type on norec
  recs_append {from} (rec {x = z} {l = l} a b c d t f r) e = rec a b c d t f (recs_append r (rw (day_after_cons from z l) at e))

  recs_replaced : {from : ℕ} {y : Entry} {l : List Entry} → Recs kind offs from l → Found x.start y l → y.end ≡ x.end → Recs kind offs from (replaced x l)
  unfolding replaced
  recs_replaced {y = y} (rec a b c d t f r) (first {l = l} p) k =
      rw (eq-eqb y.start x.start p) (rec (a ∙ ap some p) fits day energy type on (subst (λ n. Recs kind offs (suc n) l) k r))
  recs_replaced (rec a b c d t f r) (later {z = z} p q i) k =
      rw (ne_eqb z.start x.start (omega arith)) (rec a b c d t f (recs_replaced r i k))
  recs_replaced {y = y} (norec {from = from}) x8 k = elim x8 [ ]

  recs_recut : {from : ℕ} {y : Entry} {l : List Entry} → Recs kind offs from l → Found x.start y l → Recs kind offs from (front x.start l ++ (x ∷ []))
  unfolding earlier
  recs_recut {y = y} (rec a b c d t f r) (first p) =
      rw (le-ltb y.start x.start (omega arith)) (rec (a ∙ ap some p) fits day energy type on norec)
  recs_recut (rec a b c d t f r) (later {z = z} p q i) =
      rw (lt-ltb z.start x.start p) (rec a b c d t f (recs_recut r i))
  recs_recut {y = y} (norec {from = from}) x5 = elim x5 [ ]

  -- such an entry leaves well-formed records; an append starts on the append day
  pub recs_after_lem : {from : ℕ} {l : List Entry} → Recs kind offs from l → (w : Which) → which_of x.end (starting_on l x.start) ≡ w → (w ≡ append → skip offs (day_after from l) ≡ some x.start) → Recs kind offs from (recs_after w x l)
  recs_after_lem {from} {l} r w e next = go w (chosen (recs_apart r) x w e) next
    where
      go : (w : Which) → Chosen x l w → (w ≡ append → skip offs (day_after from l) ≡ some x.start) → Recs kind offs from (recs_after w x l)
      go append appends next = recs_append r (next refl)
      go replacement (replaces f k) next = recs_replaced r f k
      go recut (recuts f) next = recs_recut r f

-- ---- how many records there are then

length_snoc : (x : Entry) (l : List Entry) → length (l ++ (x ∷ [])) ≡ suc (length l)
length_snoc x l = omega (arith, length-append l (x ∷ []))

length_replaced : (x : Entry) {y : Entry} {l : List Entry} → Found x.start y l → length (replaced x l) ≡ length l
unfolding replaced
length_replaced x {y} (first p) = rw (eq-eqb y.start x.start p) refl
length_replaced x (later {z = z} p q f) = rw (ne_eqb z.start x.start (omega arith)) (ap suc (length_replaced x f))

length_front : {s : ℕ} {y : Entry} {l : List Entry} → Found s y l → length (front s l) < length l
unfolding earlier
length_front {s} {y} (first p) = rw (le-ltb y.start s (omega arith)) (omega arith)
length_front {s} (later {z = z} p q f) = rw (lt-ltb z.start s p) (omega (arith, length_front f))

-- only an append needs room for one more
pub recs_few_lem : {kind from room : ℕ} {offs : List (ℕ × Option ℕ)} {l : List Entry} → Recs kind offs from l → length l ≤ room → (x : Entry) (w : Which) → which_of x.end (starting_on l x.start) ≡ w → (w ≡ append → length l < room) → length (recs_after w x l) ≤ room
recs_few_lem {room = room} {l = l} r h x w e more = go w (chosen (recs_apart r) x w e) more
  where
    go : (w : Which) → Chosen x l w → (w ≡ append → length l < room) → length (recs_after w x l) ≤ room
    go append appends more = omega (arith, length_snoc x l, more refl)
    go replacement (replaces f k) more = omega (arith, length_replaced x f)
    go recut (recuts f) more = omega (arith, length_snoc x (front x.start l), length_front f)
