-- A point's lists pass the tests of soundness exactly where they are well-formed: the day book's append rule, on the
-- point with only the earlier records, is the chain of well-formed records. Assumes nothing.
use mathlib.Core.Path.{◌≡◌, refl, sym, ap, subst, ◌∙◌}
use mathlib.Core.Bool.{Bool, true, false, not, ◌&&◌}
use mathlib.Core.Option.{some}
use mathlib.Core.List.{List, [], ◌∷◌, ◌++◌}
use Prim.Native.Nat.{ℕ, suc, ◌-◌, ◌≤◌}
use native.Mathlib.Omega.{arith}
use lib.Dec.{leb, eqb}
use lib.IntN.{pos, negsuc}
use lib.ListN.{length}
use borrow.Author.Tests.{leb-true, not-true, le-leb, eq-eqb}
use Rattle.numbers.specs.Search.{maybe, is_some}
use Rattle.numbers.proofs.Search.{first_none, some_is}
use Rattle.numbers.proofs.Bools.{both, join}
use Rattle.calendar.specs.Calendar.{within}
use Rattle.daybook.specs.Book.{Entry, Pending, append_day}
use Rattle.daybook.specs.Notices.{fits_kind, off_within}
use Rattle.lists.specs.Lists.{Lists, off_on, point_of}
use Rattle.lists.specs.InnerSteps.{skip, append_day_of}
use Rattle.lists.specs.InnerWell.{Recs, norec, rec, Well}
use Rattle.lists.proofs.Apart.{recs_apart}
use Rattle.lists.proofs.Records.{day_after, day_after_nil, day_after_cons, day_after_le, last_filled_is}
use Rattle.lists.proofs.RecordSteps.{recs_append}
use Rattle.lists.proofs.Spans.{append_day_is, no_off_lem}
use Rattle.layout.specs.Sound.{each, with_recs, by_append_rule, recs_sound, lists_sound}
use Rattle.layout.proofs.RowsSound.{facts_sound_lem, facts_ok_lem, regs_sound_lem, regs_ok_lem, spans_sound, spans_ok_lem, pending_sound_lem, pending_ok_lem}

-- ---- small steps

day_after_last : (from : ℕ) (l : List Entry) (x : Entry) → day_after from (l ++ (x ∷ [])) ≡ suc x.end
day_after_last from [] x = day_after_cons from x [] ∙ day_after_nil (suc x.end)
day_after_last from (y ∷ l) x = day_after_cons from y (l ++ (x ∷ [])) ∙ day_after_last (suc y.end) l x

-- other records on a well-formed point
with_recs_lem : {room more : ℕ} {q : Lists} {l : List Entry} → Well room q → Recs q.facts.kind q.offs q.facts.install l → length l ≤ more
    → Well more (with_recs l q)
unfolding with_recs
with_recs_lem w r h =
    record {
      facts_ok = w.facts_ok;
      regs_ok = w.regs_ok;
      regs_start = w.regs_start;
      regs_few = w.regs_few;
      offs_ok = w.offs_ok;
      offs_few = w.offs_few;
      recs_ok = r;
      recs_few = h;
      pending_ok = w.pending_ok;
    }

module _ (q : Lists) where
  abbrev Chain : ℕ → List Entry → Type 0
  Chain from l = Recs q.facts.kind q.offs from l

  -- What a record is tested for alone.
  abbrev rec_test : Entry → Bool
  rec_test x =
      leb x.end 39999 && within (negsuc 999999) (pos 1000000) x.energy && leb x.type 2 && fits_kind q.facts.kind x.start x.end
      && not (off_within (point_of q) x.start x.end)

  -- A record of the chain, but for where it starts.
  record Alone (x : Entry) : Type 0 where
    fits : fits_kind q.facts.kind x.start x.end ≡ true
    day : x.end ≤ 39999
    energy_ok : within (negsuc 999999) (pos 1000000) x.energy ≡ true
    type_ok : x.type ≤ 2
    on : (d : ℕ) → x.start ≤ d → d ≤ x.end → off_on q.offs d ≡ false

  alone : (x : Entry) → rec_test x ≡ true → Alone x
  unfolding point_of
  alone x e =
      let a = both _ _ e in
      let b = both _ _ a.0 in
      let c = both _ _ b.0 in
      let d = both _ _ c.0 in
      record {
        fits = b.1;
        day = leb-true x.end 39999 d.0;
        energy_ok = d.1;
        type_ok = leb-true x.type 2 c.1;
        on = no_off_lem (point_of q) x.start x.end (not-true _ a.1);
      }

  all_on : (a b : ℕ) → ((d : ℕ) → a ≤ d → d ≤ b → off_on q.offs d ≡ false) → off_within (point_of q) a b ≡ false
  unfolding off_within point_of
  all_on a b f = ap is_some (first_none (off_on q.offs) a (suc b - a) (λ x u v. f x u (omega arith)))

  recs_each : {from : ℕ} {l : List Entry} → Chain from l → each rec_test l ≡ true
  unfolding each
  recs_each norec = refl
  recs_each (rec {x = x} s fits day energy type on r) =
      let numbers = join (join (le-leb x.end 39999 day) energy) (le-leb x.type 2 type) in
      join (join (join numbers fits) (ap not (all_on x.start x.end on))) (recs_each r)

  -- ---- the append rule, where all but the records is well-formed

  module _ (bare : Well 0 (with_recs [] q)) where
    append_rule : {l : List Entry} → Chain q.facts.install l
        → append_day (point_of (with_recs l q)) ≡ skip q.offs (day_after q.facts.install l)
    unfolding with_recs append_day_of
    append_rule {l} r =
        let w : Well (length l) (with_recs l q) = with_recs_lem bare r (omega arith) in
        append_day_is w (last_filled_is w)
        (omega (arith, day_after_le (recs_apart r) (omega (arith, bare.facts_ok.install_ok))))

    follows : (before l : List Entry) → Chain q.facts.install before → each rec_test l ≡ true → by_append_rule q before l ≡ true
        → Chain (day_after q.facts.install before) l
    unfolding each by_append_rule
    follows before [] r e k = norec
    follows before (x ∷ l) r e k =
        let a = both (rec_test x) (each rec_test l) e in
        let b = both (maybe false (eqb x.start) (append_day (point_of (with_recs before q)))) (by_append_rule q (before ++ (x ∷ [])) l) k in
        let o : Alone x = alone x a.0 in
        let s : skip q.offs (day_after q.facts.install before) ≡ some x.start = sym (append_rule r) ∙ some_is x.start _ b.0 in
        rec s o.fits o.day o.energy_ok o.type_ok o.on
        (subst (λ d. Chain d l) (day_after_last q.facts.install before x)
        (follows (before ++ (x ∷ [])) l (recs_append x o.fits o.day o.energy_ok o.type_ok o.on r s) a.1 b.1))

    recs_rule : {from : ℕ} {l : List Entry} (before : List Entry) → Chain q.facts.install before → Chain from l
        → from ≡ day_after q.facts.install before → by_append_rule q before l ≡ true
    unfolding by_append_rule
    recs_rule before r norec e = refl
    recs_rule before r (rec {x = x} s fits day energy type on t) e =
        let k : skip q.offs (day_after q.facts.install before) ≡ some x.start = ap (skip q.offs) (sym e) ∙ s in
        join (ap (maybe false (eqb x.start)) (append_rule r ∙ k) ∙ eq-eqb x.start x.start refl)
        (recs_rule (before ++ (x ∷ [])) (recs_append x fits day energy type on r k) t (sym (day_after_last q.facts.install before x)))

    recs_sound_lem : Chain q.facts.install q.recs → recs_sound q ≡ true
    unfolding recs_sound
    recs_sound_lem r = join (recs_each r) (recs_rule [] norec r (sym (day_after_nil q.facts.install)))

    recs_ok_lem : recs_sound q ≡ true → Chain q.facts.install q.recs
    unfolding recs_sound
    recs_ok_lem e =
        let a = both (each rec_test q.recs) (by_append_rule q [] q.recs) e in
        subst (λ d. Chain d q.recs) (day_after_nil q.facts.install) (follows [] q.recs norec a.0 a.1)

-- ---- a point's lists

pub well_lists_sound : {room : ℕ} {q : Lists} → Well room q → lists_sound q ≡ true
unfolding lists_sound
well_lists_sound {q = q} w =
    let regs = join (facts_sound_lem w.facts_ok) (regs_sound_lem w.regs_ok w.regs_start) in
    let recs = recs_sound_lem q (with_recs_lem w norec (omega arith)) w.recs_ok in
    join (join (join regs (spans_sound w.offs_ok)) recs) (pending_sound_lem q w.pending_ok)

pub lists_sound_well : (room : ℕ) (q : Lists) → lists_sound q ≡ true → 1 ≤ length q.regs → length q.regs ≤ 8
    → length q.offs ≤ 8 → length q.recs ≤ room → ((r : Pending) → q.pending ≡ some r → 1 ≤ r.user) → Well room q
unfolding lists_sound with_recs
lists_sound_well room q e some_reg few_regs few_offs few_recs some_user =
    let a = both _ _ e in
    let b = both _ _ a.0 in
    let c = both _ _ b.0 in
    let d = both _ _ c.0 in
    let regs = regs_ok_lem q.facts.install q.regs d.1 some_reg in
    let bare : Well 0 (with_recs [] q) = record {
      facts_ok = facts_ok_lem q.facts d.0;
      regs_ok = regs.0;
      regs_start = regs.1;
      regs_few = few_regs;
      offs_ok = spans_ok_lem q.facts.install q.offs c.1;
      offs_few = few_offs;
      recs_ok = norec;
      recs_few = omega arith;
      pending_ok = pending_ok_lem q a.1 some_user;
    } in
    with_recs_lem bare (recs_ok_lem q bare b.1) few_recs
