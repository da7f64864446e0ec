-- Registers from before three requests of document 02: before a, when a point had no section, before g, when it had no
-- operator, and before k, when there was one edition. With 0 in those places they are sound and run on.
use Rattle.std.specs.Prelude.{◌≡◌, Bool, true, false, not, ◌&&◌, cond, List, ℕ, leb, eqb, ℤ, pos, length, get_or, drop}
use Rattle.numbers.specs.Naturals.{same_z}
use Rattle.numbers.specs.Rows.{all}
use Rattle.daybook.specs.declared.Edition.{Edition}
use Rattle.daybook.specs.declared.Opening.{Opening}
use Rattle.daybook.specs.declared.Facts.{Facts}
use Rattle.daybook.specs.Book.{Point, Book}
use Rattle.daybook.specs.Notices.{is_range, outcome_of}
use Rattle.daybook.specs.Editions.{Editions}
use Rattle.daybook.specs.Calls.{open!, save!, restore!, Call, fresh!, notice!, query!, state!, convert! }
use Rattle.lists.specs.Lists.{Lists}
use Rattle.layout.specs.Places.{points_place, operator_place, reg_count, off_count, rec_count, pending_user, regs_place, offs_place, recs_place, reg_place, off_place, rec_place}
use Rattle.layout.specs.Layout.{table_length, place_of, edition_in, part_of, num_at, point_from, points_from, table_book}
use Rattle.layout.specs.Sound.{each, regs_sound, offs_sound, recs_sound, pending_sound, zeros, counts_sound, part_sound, mirns_differ, sound}
use Rattle.history.specs.Runs.{Lent, lent_step}
use Rattle.history.specs.OtherRules.{Rule, lent_step_by}

-- ---- as it was before

-- Of a point's first sixteen places those from `spare` on were 0.
unfoldable pub unused_zero_before : ℕ → List ℤ → Bool
unused_zero_before spare p =
    zeros p spare regs_place && zeros p (reg_place (num_at p reg_count)) offs_place
    && zeros p (off_place (num_at p off_count)) recs_place && zeros p (rec_place (num_at p rec_count)) (length p)
    && cond (eqb (num_at p pending_user) 0) (zeros p pending_user 10) true

-- Its facts had no operator. (Where the section's place had to be 0, the test of a section says nothing.)
unfoldable pub facts_sound_before : Facts → Bool
facts_sound_before f =
    leb 1 f.mirn && leb f.mirn 9999999999 && leb f.kind 1 && leb f.install 39999 && leb f.base 10000
    && leb f.section 1

unfoldable pub part_sound_before : ℕ → List ℤ → Bool
part_sound_before spare p =
    let q : Lists = point_from p in
    counts_sound p && unused_zero_before spare p
    && (facts_sound_before q.facts && regs_sound q.facts.install q.regs && offs_sound q.facts.install q.offs
    && recs_sound q && pending_sound q)

-- Of the header the places from 3 on were 0, and each point's part passed a test.
unfoldable pub sound_before : (List ℤ → Bool) → Edition → List ℤ → Bool
sound_before partTest ed t =
    leb table_length (length t) && leb (num_at t 0) ed.points
    && is_range (get_or t 1 (pos 0)) && is_range (get_or t 2 (pos 0)) && zeros t 3 8
    && all (λ i. partTest (part_of ed t i)) (num_at t 0)
    && mirns_differ (points_from ed (num_at t 0) (drop 8 t))
    && zeros t (place_of ed (num_at t 0)) table_length

-- Was a table sound before request a, before request g, and before request k? There was the standard edition alone.
abbrev pub before_a : Editions → List ℤ → Bool
before_a E t = sound_before (part_sound_before 10) E.standard t

abbrev pub before_g : Editions → List ℤ → Bool
before_g E t = sound_before (part_sound_before 11) E.standard t

abbrev pub before_k : Editions → List ℤ → Bool
before_k E t = sound_before part_sound E.standard t

-- Before a no section was looked at: every point was as one of section 0 is now.
abbrev pub no_section : Rule
no_section w section x latestStart o = outcome_of w 0 x latestStart o

-- ---- what is claimed

-- All points are in section 0.
abbrev pub in_section0 : Book → Bool
in_section0 B = each (λ (p : Point). eqb p.facts.section 0) B.points

-- A sound register with all points in section 0.
abbrev pub section0 : Editions → List ℤ → Bool
section0 E t = sound (edition_in E t) t && in_section0 (table_book (edition_in E t) t)

-- The operator's number of every point is 0.
abbrev pub unnamed : Edition → List ℤ → Bool
unnamed ed t = all (λ i. eqb (num_at (part_of ed t i) operator_place) 0) (num_at t points_place)

-- All points are operator 1's.
abbrev pub of_operator1 : Book → Bool
of_operator1 B = each (λ (p : Point). eqb p.facts.operator 1) B.points

-- A call that may make another register of the table: a fresh in the long edition, a restore, a conversion.
abbrev pub makes_another : Call → Bool
makes_another (fresh! n) = not (same_z n.edition (pos 0))
makes_another (notice! c) = false
makes_another (query! q) = false
makes_another (state! (save! n lent)) = false
makes_another (state! (restore! n lent)) = true
makes_another (convert! t) = true

-- Of any two editions that fit.
pub record OlderRegisters (E : Editions) : Type 0 where
  -- The registers that were sound before k are the sound ones of the standard edition, and that is what their header
  -- says, so that their books are as they were. Each call that does not make another register leaves such a one again.
  pub sound_k : (t : List ℤ) → before_k E t ≡ sound E.standard t
  pub standard_k : (t : List ℤ) → before_k E t ≡ true → edition_in E t ≡ E.standard
  pub runs_on_k :
      (L : Lent) (c : Call) → before_k E L.table ≡ true → makes_another c ≡ false
      → before_k E (lent_step E c L).1.table ≡ true
  -- Of those, the registers that were sound before g are the ones with 0 for every operator; their points are operator
  -- 1's. Each call but open, whose rules g changed, leaves such a register again.
  pub sound_g : (t : List ℤ) → before_g E t ≡ (before_k E t && unnamed E.standard t)
  pub operator1 : (t : List ℤ) → before_g E t ≡ true → of_operator1 (table_book E.standard t) ≡ true
  pub runs_on_g :
      (L : Lent) (c : Call) → before_g E L.table ≡ true → ((n : Opening) → ¬ (c ≡ notice! (open! n)))
      → makes_another c ≡ false → before_g E (lent_step E c L).1.table ≡ true
  -- Of those, the registers that were sound before a are the ones with all points in section 0. Such a one, of either
  -- edition now, runs on: each call answers what it did and leaves what it left, and unless it opens a point in section
  -- 1 or restores another register, all points are in section 0 again. (Before, a call tested soundness as it was,
  -- which holds here. Open is as it is now.)
  pub sound_a : (t : List ℤ) → before_a E t ≡ (before_g E t && in_section0 (table_book E.standard t))
  pub as_before_a : (L : Lent) (c : Call) → section0 E L.table ≡ true → lent_step E c L ≡ lent_step_by E no_section c L
  pub runs_on_a :
      (L : Lent) (c : Call) → section0 E L.table ≡ true
      → ((n : Opening) → c ≡ notice! (open! n) → n.section ≡ pos 0)
      → ((n : ℤ) (lent : ℕ) → ¬ (c ≡ state! (restore! n lent)))
      → section0 E (lent_step E c L).1.table ≡ true
