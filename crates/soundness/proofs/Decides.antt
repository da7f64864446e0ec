-- The code's tests decide soundness as document 01 words it: a part passes them where it is sound. Assumes nothing.
use mathlib.Core.Path.{◌≡◌, sym, ◌∙◌, subst}
use mathlib.Core.Bool.{Bool, true, false, ◌&&◌}
use mathlib.Core.List.{List}
use Prim.Native.Nat.{ℕ, ◌+◌, ◌-◌, ◌*◌, ◌/◌, ◌%◌, ◌≤◌}
use native.Mathlib.Nat.{div-add-mod'}
use native.Mathlib.Omega.{arith}
use lib.ListN.{length, drop}
use lib.IntN.{ℤ}
use Rattle.numbers.proofs.Bools.{both, join, iff}
use Rattle.lists.specs.Lists.{Lists}
use Rattle.lists.specs.InnerWell.{Regs, StartsOn, Spans, Recs, PendingOk, Well}
use Rattle.layout.specs.Layout.{num_at, facts_at, point_from, point_numbers}
use Rattle.layout.specs.Sound.{counts_sound, facts_sound, unused_zero, lists_sound, part_sound}
use Rattle.layout.proofs.Cells.{place_user, place_first, place_last}
use Rattle.layout.proofs.RowsSound.{facts_sound_lem, facts_ok_lem}
use Rattle.layout.proofs.RowsLaid.{length_regs_from, length_offs_from, length_recs_from}
use Rattle.layout.proofs.ListsSound.{well_lists_sound}
use Rattle.layout.proofs.PartLays.{part_lays, Counts, counts}
use Rattle.point.specs.InnerTests.{regs_ok, spans_ok, recs_ok, reg_row, span_row, rec_row}
use Rattle.soundness.specs.InnerPart.{pending_ok, rows_ok, test_part}
use Rattle.point.proofs.Rows.{rows_at, regs_read, offs_read, recs_read}
use Rattle.point.proofs.Registrations.{registrations_well, registrations_pass}
use Rattle.point.proofs.Spans.{spans_tested, spans_tests}
use Rattle.point.proofs.Records.{records_well, records_pass}
use Rattle.soundness.proofs.Pending.{pending_well, pending_pass, Places}

module _ (p : List ℤ) (room : ℕ) (long : length p ≡ 48 + 4 * room) where
  abbrev q : Lists
  q = point_from p

  -- the rows that the tests read are the lists of the point
  regs_are : rows_at (reg_row p) 0 (num_at p 4) ≡ q.regs
  unfolding point_from
  regs_are = sym (regs_read p (num_at p 4) 0)

  offs_are : rows_at (span_row p) 0 (num_at p 5) ≡ q.offs
  unfolding point_from
  offs_are = sym (offs_read p (num_at p 5) 0)

  recs_are : rows_at (rec_row p) 0 (num_at p 6) ≡ q.recs
  unfolding point_from
  recs_are = sym (recs_read p (num_at p 6) 0)

  -- ---- a part that passes is sound

  well : Counts p → facts_sound (facts_at p) ≡ true → rows_ok p ≡ true → Well room q
  unfolding rows_ok point_from
  well k f e =
      let a = both _ (pending_ok p (num_at p 4)) e in
      let b = both _ (recs_ok p (num_at p 5) (num_at p 6)) a.0 in
      let d = both (regs_ok p (num_at p 4)) (spans_ok p (num_at p 5)) b.0 in
      let facts = facts_ok_lem (facts_at p) f in
      let few : num_at p 6 ≤ room = omega (arith, k.few_recs, long) in
      let regs = registrations_well p (num_at p 4) k.some_regs d.0 in
      record {
        facts_ok = facts;
        regs_ok = subst (Regs 0 (num_at p 2)) regs_are regs.0;
        regs_start = subst (StartsOn (num_at p 2)) regs_are regs.1;
        regs_few = subst (λ n. n ≤ 8) (sym (length_regs_from (num_at p 4) (drop 16 p))) k.few_regs;
        offs_ok = subst (Spans (num_at p 2)) offs_are (spans_tested p (num_at p 5) d.1);
        offs_few = subst (λ n. n ≤ 8) (sym (length_offs_from (num_at p 5) (drop 32 p))) k.few_offs;
        recs_ok = subst (Recs (num_at p 1) q.offs (num_at p 2)) recs_are (subst (λ l. Recs (num_at p 1) l (num_at p 2) (rows_at (rec_row p) 0 (num_at p 6))) offs_are (records_well p (num_at p 5) d.1 (num_at p 6) facts.install_ok b.1));
        recs_few = subst (λ n. n ≤ room) (sym (length_recs_from (num_at p 6) (drop 48 p))) few;
        pending_ok = subst (λ l. PendingOk l q.pending) regs_are (pending_well p (num_at p 4) k.some_regs a.1);
      }

  passes : test_part p ≡ true → part_sound p ≡ true
  unfolding test_part part_sound
  passes e =
      let a = both _ (rows_ok p) e in
      let b = both _ (unused_zero p) a.0 in
      let d = both (counts_sound p) (facts_sound (facts_at p)) b.0 in
      join (join d.0 b.1) (well_lists_sound (well (counts p d.0) d.1 a.1))

  -- ---- and back

  places : (some-regs : 1 ≤ num_at p 4) → Well room q → point_numbers room q ≡ p → Places p (num_at p 4) some-regs q.pending
  places l w e = record {
    user = place_user w e;
    first = place_first w e;
    last = place_last w e;
  }

  rows_pass : Counts p → Well room q → point_numbers room q ≡ p → rows_ok p ≡ true
  unfolding rows_ok point_from
  rows_pass k w e =
      let regs = subst (Regs 0 (num_at p 2)) (sym regs_are) w.regs_ok in
      let starts = subst (StartsOn (num_at p 2)) (sym regs_are) w.regs_start in
      let spans = spans_tests p (num_at p 5) (subst (Spans (num_at p 2)) (sym offs_are) w.offs_ok) in
      let recs = subst (λ l. Recs (num_at p 1) l (num_at p 2) (rows_at (rec_row p) 0 (num_at p 6))) (sym offs_are) (subst (Recs (num_at p 1) q.offs (num_at p 2)) (sym recs_are) w.recs_ok) in
      join
      (join (join (registrations_pass p (num_at p 4) regs starts) spans) (records_pass p (num_at p 5) spans (num_at p 6) w.facts_ok.install_ok recs))
      (pending_pass p (num_at p 4) k.some_regs (subst (λ l. PendingOk l q.pending) (sym regs_are) w.pending_ok) (places k.some_regs w e))

  sound_passes : part_sound p ≡ true → test_part p ≡ true
  unfolding test_part part_sound point_from
  sound_passes e =
      let a = both _ (lists_sound q) e in
      let b = both (counts_sound p) (unused_zero p) a.0 in
      let l = part_lays p room long e in
      join (join (join b.0 (facts_sound_lem l.0.facts_ok)) b.1) (rows_pass (counts p b.0) l.0 l.1)

  -- the tests decide soundness
  pub decides : test_part p ≡ part_sound p
  decides = iff (test_part p) (part_sound p) passes sound_passes

-- ---- for the code, which tests the counts first

pub uncounted : (p : List ℤ) → counts_sound p ≡ false → false ≡ part_sound p
unfolding part_sound
uncounted p e = rw e

pub tested : (p : List ℤ) (f u r : Bool) → 48 ≤ length p → length p % 4 ≡ 0 → counts_sound p ≡ true → f ≡ facts_sound (facts_at p) → u ≡ unused_zero p → r ≡ rows_ok p → (f && u && r) ≡ part_sound p
unfolding test_part
tested p f u r h m k a b d =
    let long : length p ≡ 48 + 4 * ((length p - 48) / 4) = omega (arith, div-add-mod' (length p) 4) in
    let all : (f && u && r) ≡ test_part p = rw (a, b, d, k) in
    all ∙ decides p ((length p - 48) / 4) long
