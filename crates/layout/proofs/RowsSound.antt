-- Facts, registrations, off spans and the pending request: the tests of soundness pass exactly where the lists are
-- well-formed. Assumes nothing.
use mathlib.Core.Path.{◌≡◌, refl, sym, ap, ◌∙◌}
use mathlib.Core.Bool.{Bool, true, false, not, ◌&&◌}
use mathlib.Core.Option.{Option, none, some}
use mathlib.Core.List.{List, [], ◌∷◌}
use Prim.Native.Nat.{ℕ, suc, ◌≤◌}
use native.Mathlib.Omega.{arith}
use lib.Dec.{leb, ltb, eqb}
use lib.ListN.{length}
use borrow.Author.Tests.{leb-true, ltb-true, eqb-true, not-true, le-leb, lt-ltb, eq-eqb, ne_eqb}
use Rattle.numbers.specs.Search.{maybe}
use Rattle.numbers.proofs.Bools.{both, join}
use Rattle.daybook.specs.declared.Facts.{Facts}
use Rattle.daybook.specs.Book.{Pending, last_of}
use Rattle.lists.specs.Lists.{Lists}
use Rattle.lists.specs.InnerSteps.{latest_of}
use Rattle.lists.specs.InnerWell.{Regs, noreg, reg, StartsOn, starts, Spans, nospan, still, ended, PendingOk, nopending, pending, FactsOk}
use Rattle.layout.specs.Sound.{each, neighbours, facts_sound, starts_on, regs_sound, offs_sound, pending_sound}

-- ---- facts

pub facts_sound_lem : {f : Facts} → FactsOk f → facts_sound f ≡ true
unfolding facts_sound
facts_sound_lem {f} o =
    let mirn = join (le-leb 1 f.mirn o.mirn_low) (le-leb f.mirn 9999999999 o.mirn_high) in
    let four = join (join mirn (le-leb f.kind 1 o.kind_ok)) (le-leb f.install 39999 o.install_ok) in
    join (join (join four (le-leb f.base 10000 o.base_ok)) (le-leb f.section 1 o.section_ok))
    (le-leb f.operator 4 o.operator_ok)

pub facts_ok_lem : (f : Facts) → facts_sound f ≡ true → FactsOk f
unfolding facts_sound
facts_ok_lem f e =
    let o = both _ _ e in
    let s = both _ _ o.0 in
    let a = both _ _ s.0 in
    let b = both _ _ a.0 in
    let c = both _ _ b.0 in
    let d = both _ _ c.0 in
    record {
      mirn_low = leb-true 1 f.mirn d.0;
      mirn_high = leb-true f.mirn 9999999999 d.1;
      kind_ok = leb-true f.kind 1 c.1;
      install_ok = leb-true f.install 39999 b.1;
      base_ok = leb-true f.base 10000 a.1;
      section_ok = leb-true f.section 1 s.1;
      operator_ok = leb-true f.operator 4 o.1;
    }

-- ---- registrations

abbrev reg_test : ℕ × ℕ → Bool
reg_test x = leb x.0 40000 && leb 1 x.1 && leb x.1 16

abbrev reg_next : ℕ × ℕ → ℕ × ℕ → Bool
reg_next x y = ltb x.0 y.0 && not (eqb x.1 y.1)

regs_each : {u lo : ℕ} {l : List (ℕ × ℕ)} → Regs u lo l → each reg_test l ≡ true
unfolding each
regs_each noreg = refl
regs_each (reg {x = x} a b c d n r) =
    join (join (join (le-leb x.0 40000 b) (le-leb 1 x.1 c)) (le-leb x.1 16 d)) (regs_each r)

regs_next : {u lo : ℕ} {l : List (ℕ × ℕ)} → Regs u lo l → neighbours reg_next l ≡ true
unfolding neighbours
regs_next noreg = refl
regs_next (reg {x = x} {l = l} a b c d n r) = go r (regs_next r)
  where
    go : {l : List (ℕ × ℕ)} → Regs x.1 (suc x.0) l → neighbours reg_next l ≡ true → neighbours reg_next (x ∷ l) ≡ true
    go noreg ih = refl
    go (reg {x = y} a b c d n r) ih = join (join (lt-ltb x.0 y.0 a) (ap not n)) ih

starts_test : {install : ℕ} {l : List (ℕ × ℕ)} → StartsOn install l → starts_on install l ≡ true
starts_test {install} (starts {x = x} e) = eq-eqb x.0 install e

pub regs_sound_lem : {install : ℕ} {l : List (ℕ × ℕ)} → Regs 0 install l → StartsOn install l → regs_sound install l ≡ true
unfolding regs_sound
regs_sound_lem r s = join (join (regs_each r) (starts_test s)) (regs_next r)

reg_facts : (x : ℕ × ℕ) → reg_test x ≡ true → (x.0 ≤ 40000) × (1 ≤ x.1) × (x.1 ≤ 16)
reg_facts x e =
    let a = both _ _ e in
    let b = both _ _ a.0 in
    (leb-true x.0 40000 b.0, leb-true 1 x.1 b.1, leb-true x.1 16 a.1)

reg_row_lem : {u lo : ℕ} (x : ℕ × ℕ) {l : List (ℕ × ℕ)} → reg_test x ≡ true → lo ≤ x.0 → eqb u x.1 ≡ false
    → Regs x.1 (suc x.0) l → Regs u lo (x ∷ l)
reg_row_lem x e h n r = let f = reg_facts x e in reg h f.0 f.1 f.2 n r

regs_from_lem : (u lo : ℕ) (x : ℕ × ℕ) (l : List (ℕ × ℕ)) → each reg_test (x ∷ l) ≡ true → neighbours reg_next (x ∷ l) ≡ true
    → lo ≤ x.0 → eqb u x.1 ≡ false → Regs u lo (x ∷ l)
unfolding each neighbours
regs_from_lem u lo x [] e k h n = reg_row_lem x (both _ _ e).0 h n noreg
regs_from_lem u lo x (y ∷ l) e k h n =
    let a = both (reg_test x) (each reg_test (y ∷ l)) e in
    let b = both (reg_next x y) (neighbours reg_next (y ∷ l)) k in
    let d = both _ _ b.0 in
    reg_row_lem x a.0 h n (regs_from_lem x.1 (suc x.0) y l a.1 b.1 (ltb-true x.0 y.0 d.0) (not-true _ d.1))

pub regs_ok_lem : (install : ℕ) (l : List (ℕ × ℕ)) → regs_sound install l ≡ true → 1 ≤ length l → Regs 0 install l × StartsOn install l
unfolding regs_sound each
regs_ok_lem install [] e h = absurd (omega arith)
regs_ok_lem install (x ∷ l) e h =
    let a = both _ _ e in
    let b = both (each reg_test (x ∷ l)) (eqb x.0 install) a.0 in
    let s : x.0 ≡ install = eqb-true x.0 install b.1 in
    let g : 1 ≤ x.1 = (reg_facts x (both (reg_test x) (each reg_test l) b.0).0).1 in
    (regs_from_lem 0 install x l b.0 a.1 (omega (arith, s)) (ne_eqb 0 x.1 (omega arith)), starts s)

-- ---- off spans

-- A closed span ends after it begins, on a day; an open one has no on day to test.
abbrev on_test : ℕ → Option ℕ → Bool
on_test off o = maybe true (λ on. ltb off on && leb on 39999) o

abbrev off_test : ℕ → ℕ × Option ℕ → Bool
off_test install x = leb install x.0 && leb x.0 39999 && on_test x.0 x.1

abbrev off_next : ℕ × Option ℕ → ℕ × Option ℕ → Bool
off_next x y = maybe false (λ on. ltb on y.0) x.1

spans_each : {lo : ℕ} {l : List (ℕ × Option ℕ)} (install : ℕ) → install ≤ lo → Spans lo l → each (off_test install) l ≡ true
unfolding each
spans_each install h nospan = refl
spans_each install h (still {off = off} a b) =
    join (join (join (le-leb install off (omega arith)) (le-leb off 39999 b)) refl) refl
spans_each install h (ended {off = off} {on = on} a b c r) =
    join (join (join (le-leb install off (omega arith)) (le-leb off 39999 (omega arith))) (join (lt-ltb off on b) (le-leb on 39999 c)))
    (spans_each install (omega arith) r)

spans_next : {lo : ℕ} {l : List (ℕ × Option ℕ)} → Spans lo l → neighbours off_next l ≡ true
unfolding neighbours
spans_next nospan = refl
spans_next (still a b) = refl
spans_next (ended {off = off} {on = on} a b c r) = go r (spans_next r)
  where
    go : {l : List (ℕ × Option ℕ)} → Spans (suc on) l → neighbours off_next l ≡ true → neighbours off_next ((off, some on) ∷ l) ≡ true
    go nospan ih = refl
    go (still {off = y} a b) ih = join (lt-ltb on y a) ih
    go (ended {off = y} a b c r) ih = join (lt-ltb on y a) ih

pub spans_sound : {install : ℕ} {l : List (ℕ × Option ℕ)} → Spans install l → offs_sound install l ≡ true
unfolding offs_sound
spans_sound {install} r = join (spans_each install (omega arith) r) (spans_next r)

span_facts : (install : ℕ) (x : ℕ × Option ℕ) → off_test install x ≡ true → (install ≤ x.0) × (x.0 ≤ 39999) × (on_test x.0 x.1 ≡ true)
span_facts install x e =
    let a = both _ _ e in
    let b = both _ _ a.0 in
    (leb-true install x.0 b.0, leb-true x.0 39999 b.1, a.1)

span_last : {lo off : ℕ} (o : Option ℕ) → off ≤ 39999 → on_test off o ≡ true → lo ≤ off → Spans lo ((off, o) ∷ [])
span_last none d e h = still h d
span_last {off = off} (some on) d e h =
    let a = both (ltb off on) (leb on 39999) e in
    ended h (ltb-true off on a.0) (leb-true on 39999 a.1) nospan

span_more : {lo off : ℕ} (o : Option ℕ) (y : ℕ × Option ℕ) (l : List (ℕ × Option ℕ)) → on_test off o ≡ true
    → off_next (off, o) y ≡ true → lo ≤ off → ((on : ℕ) → suc on ≤ y.0 → Spans (suc on) (y ∷ l)) → Spans lo ((off, o) ∷ y ∷ l)
span_more none y l e k h r = let z : ◌≡◌ {A = ℕ} 0 1 = cc in absurd (omega arith)
span_more {off = off} (some on) y l e k h r =
    let a = both (ltb off on) (leb on 39999) e in
    ended h (ltb-true off on a.0) (leb-true on 39999 a.1) (r on (ltb-true on y.0 k))

spans_from : (install lo : ℕ) (x : ℕ × Option ℕ) (l : List (ℕ × Option ℕ)) → each (off_test install) (x ∷ l) ≡ true
    → neighbours off_next (x ∷ l) ≡ true → lo ≤ x.0 → Spans lo (x ∷ l)
unfolding each neighbours
spans_from install lo x [] e k h =
    let f = span_facts install x (both (off_test install x) true e).0 in
    span_last x.1 f.1 f.2 h
spans_from install lo x (y ∷ l) e k h =
    let a = both (off_test install x) (each (off_test install) (y ∷ l)) e in
    let b = both (off_next x y) (neighbours off_next (y ∷ l)) k in
    span_more x.1 y l (span_facts install x a.0).2 b.0 h (λ on g. spans_from install (suc on) y l a.1 b.1 g)

pub spans_ok_lem : (install : ℕ) (l : List (ℕ × Option ℕ)) → offs_sound install l ≡ true → Spans install l
unfolding offs_sound each
spans_ok_lem install [] e = nospan
spans_ok_lem install (x ∷ l) e =
    let a = both (each (off_test install) (x ∷ l)) (neighbours off_next (x ∷ l)) e in
    let b = both (off_test install x) (each (off_test install) l) a.0 in
    spans_from install install x l a.0 a.1 (span_facts install x b.0).0

-- ---- the pending request

-- the latest User, read in two ways
latest_user : (l : List (ℕ × ℕ)) → maybe 0 (λ x. x.1) (last_of l) ≡ (latest_of l).1
unfolding latest_of
latest_user l = go (last_of l)
  where
    go : (o : Option (ℕ × ℕ)) → maybe 0 (λ x. x.1) o ≡ (maybe (0, 0) (λ x. x) o).1
    go none = refl
    go (some x) = refl

abbrev pending_test : List (ℕ × ℕ) → Pending → Bool
pending_test regs r =
    leb r.user 16 && not (eqb (maybe 0 (λ x. x.1) (last_of regs)) r.user) && leb r.first r.last
    && leb r.last 39999 && leb (length regs) 7

pub pending_sound_lem : (q : Lists) → PendingOk q.regs q.pending → pending_sound q ≡ true
unfolding pending_sound
pending_sound_lem q p = go q.pending p
  where
    go : (o : Option Pending) → PendingOk q.regs o → maybe true (pending_test q.regs) o ≡ true
    go none nopending = refl
    go (some r) (pending a b n c d e) =
        let other = ap not (ap (λ u. eqb u r.user) (latest_user q.regs) ∙ n) in
        join (join (join (join (le-leb r.user 16 b) other) (le-leb r.first r.last c)) (le-leb r.last 39999 d))
        (le-leb (length q.regs) 7 e)

pub pending_ok_lem : (q : Lists) → pending_sound q ≡ true → ((r : Pending) → q.pending ≡ some r → 1 ≤ r.user)
    → PendingOk q.regs q.pending
unfolding pending_sound
pending_ok_lem q e h = go q.pending e h
  where
    go : (o : Option Pending) → maybe true (pending_test q.regs) o ≡ true → ((r : Pending) → o ≡ some r → 1 ≤ r.user) → PendingOk q.regs o
    go none e h = nopending
    go (some r) e h =
        let a = both _ _ e in
        let b = both _ _ a.0 in
        let c = both _ _ b.0 in
        let d = both _ _ c.0 in
        let other = ap (λ u. eqb u r.user) (sym (latest_user q.regs)) ∙ not-true _ d.1 in
        pending (h r refl) (leb-true r.user 16 d.0) other (leb-true r.first r.last c.1)
        (leb-true r.last 39999 b.1) (leb-true (length q.regs) 7 a.1)
