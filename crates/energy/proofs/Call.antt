-- The energy call: the row of its numbers, and what it does once it has been told where its point is. Assumes nothing.
use mathlib.Core.Path.{◌≡◌, refl, sym, ◌∙◌, ap}
use mathlib.Core.Bool.{Bool, true, false, not, ◌&&◌}
use mathlib.Core.List.{List, []}
use Prim.Native.Nat.{ℕ, ◌≤◌}
use native.Mathlib.Omega.{arith}
use borrow.Author.Tests.{not-false}
use lib.IntN.{ℤ, pos, negsuc}
use lib.ListN.{get_or}
use Rattle.std.specs.Prelude.{Err}
use Rattle.refusals.specs.declared.Refusal.{Refusal}
use Rattle.refusals.specs.Refusals.{number_of}
use Rattle.numbers.specs.Naturals.{nat_of}
use Rattle.numbers.specs.InnerEnergies.{bias_of}
use Rattle.numbers.proofs.Naturals.{bias_is}
use Rattle.calendar.specs.Calendar.{within, is_day}
use Rattle.daybook.specs.declared.Edition.{Edition}
use Rattle.daybook.specs.declared.EnergyNotice.{EnergyNotice}
use Rattle.daybook.specs.Notices.{least, Numbers, is_mirn, is_flag, entry_of, energy_early, energy_rows, energy}
use Rattle.daybook.specs.Calls.{energy_numbers}
use Rattle.daybook.specs.Editions.{editions}
use Rattle.lists.specs.Lists.{Register}
use Rattle.lists.specs.InnerSteps.{entered_lists, enter_lists, energy_lists_rows, energy_lists}
use Rattle.lists.specs.InnerWell.{WellFormed}
use Rattle.lists.proofs.Rows.{above, up_to, least_first, least_skip, least_none}
use Rattle.lists.proofs.EnergyStep.{energy_step, energy_keeps, energy_clear, enter_keeps}
use Rattle.layout.specs.Layout.{Fits, edition_of, register_of}
use Rattle.layout.specs.Sound.{sound}
use Rattle.layout.specs.InnerParts.{room_of}
use Rattle.layout.proofs.Numbers.{few}
use Rattle.layout.proofs.TableSound.{sound_lays}
use Rattle.table.specs.InnerTable.{on_part, sound_edition}
use Rattle.table.proofs.Calls.{call_unsound, gives}
use Rattle.table.proofs.Laws.{lent, back_in, range_small}
use Rattle.table.proofs.Locating.{PartFound, SentBack, not_sound, at_part}
use Rattle.table.proofs.OnPart.{CallOn, room_found, call_back, call_done}
use Rattle.entering.specs.declared.RaisedNotice.{RaisedNotice}
use Rattle.energy.specs.Energy.{energy_call}
use Rattle.entering.specs.InnerEntering.{raised_notice, notice_of, in_range}
use Rattle.energy.specs.InnerParts.{edition_with, energy_rows_of, energy_part, energy_in}
use Rattle.energy.proofs.Raised.{in_range_tells}

-- ---- row 2

module _ (n : EnergyNotice) where
  pub range_read : (a b c d e f : Bool)
      → a ≡ is_mirn n.mirn → b ≡ is_day n.start → c ≡ is_day n.end → d ≡ within (negsuc 999999) (pos 1000000) n.energy → e ≡ within (pos 0) (pos 2) n.type_ → f ≡ is_flag n.confirmed
      → (a && b && c && d && e && f) ≡ in_range n
  range_read a b c d e f p q r s u v = rw (p, q, r, s, u, v)

  pub energy_passed : in_range n ≡ true → 0 ≡ least (energy_early n)
  unfolding energy_early least
  energy_passed e = sym (least_skip 2 _ [] (ap not e))

  pub energy_range : in_range n ≡ false → 2 ≡ least (energy_early n)
  unfolding energy_early above
  energy_range e = sym (least_first 2 _ [] refl (ap not e))

  pub in_range_here : least (energy_early n) ≡ 0 → in_range n ≡ true
  unfolding energy_early
  in_range_here e = not-false (in_range n) (least_none 1 (not (in_range n)) [] e).0

-- ---- the call

-- the table's own edition is the one that the call goes by
pub own_edition : (ed : Edition) (t : List ℤ) → ed ≡ edition_of t → (n : EnergyNotice) → energy_in ed t n ≡ energy_call editions t n
unfolding energy_call
own_edition ed t g n = ap (λ ed. energy_in ed t n) g

pub energy_unsound : (t : List ℤ) (n : EnergyNotice) (r : Refusal) → Err r ≡ sound_edition t
    → (energy_numbers (Err r) ≡ (energy_call editions t n).0) × (t ≡ (energy_call editions t n).1)
unfolding energy_call
energy_unsound t n r h =
    let w = not_sound t h in rw w.0 (gives (call_unsound 4 (energy (edition_of t) n) (edition_of t) t w.1))

module _ (ed : Edition) (fits : Fits ed) (t : List ℤ) (n : EnergyNotice) (e : ℕ) (is : e ≡ least (energy_early n)) where
  abbrev R : Register
  R = register_of ed t

  well_formed : sound ed t ≡ true → WellFormed ed R
  well_formed s = (sound_lays ed fits t s).0

  call : sound ed t ≡ true → CallOn ed R 4 n.mirn (energy_early n) (energy_lists_rows ed n R) (enter_lists (entry_of n)) (energy ed n)
  unfolding energy_lists enter_lists entered_lists energy_early energy_lists_rows energy_rows above up_to
  call s =
      let ok = well_formed s in
      record {
        numbered = refl;
        low = refl;
        high = λ q. refl;
        is = energy_step ed n R ok;
        keeps = energy_keeps ed n ok;
        operator = λ q. refl;
        room = λ q w e. few (enter_keeps w (entry_of n) (energy_clear ed n R q e));
      }

  pub energy_back : (r : Refusal) → SentBack ed t n.mirn e (number_of r) → (energy_numbers (Err r) ≡ (energy_in ed t n).0) × (t ≡ (energy_in ed t n).1)
  energy_back r h = let w = call_back ed fits t call (energy_in ed t n) refl e is (number_of r) h in (w.0, w.1)

  module _ {a b : ℕ} (h : PartFound ed t n.mirn e a b) (nondaily daily : ℕ)
      (is-nondaily : nondaily ≡ bias_of (get_or t 1 (pos 0))) (is-daily : daily ≡ bias_of (get_or t 2 (pos 0))) where
    -- the ranges that the call reads
    pub ranges_small : (nondaily ≤ 2000000) × (daily ≤ 2000000)
    unfolding register_of
    ranges_small =
        let ok = well_formed h.is_sound in
        (omega (arith, range_small (get_or t 1 (pos 0)) ok.nondaily_ok), omega (arith, range_small (get_or t 2 (pos 0)) ok.daily_ok))

    -- the notice's rows and effect, from the numbers that the code hands on
    part_same : on_part 4 (energy_lists_rows ed n R) (enter_lists (entry_of n)) (lent t a b)
        ≡ energy_part (raised_notice n) (bias_of R.nondaily) (bias_of R.daily) (lent t a b)
    unfolding energy_part energy_rows_of energy_lists_rows energy_rows entry_of
    part_same =
        let ok = well_formed h.is_sound in
        let back : n ≡ notice_of (raised_notice n) = (in_range_tells n (in_range_here n (sym is ∙ h.passed))).0 in
        let nondaily' = sym (bias_is R.nondaily (range_small R.nondaily ok.nondaily_ok)) in
        let daily' = sym (bias_is R.daily (range_small R.daily ok.daily_ok)) in
        let room : ed.records ≡ room_of (lent t a b) = sym (ap room_of (at_part fits h) ∙ room_found ed fits t h.is_sound (nat_of n.mirn) h.i h.index) in
        λ i. on_part 4 (energy_lists_rows (edition_with (room i)) (back i) (record { nondaily = nondaily' i; daily = daily' i; points = [] })) (enter_lists (entry_of (back i))) (lent t a b)

    module _ (x : RaisedNotice) (ex : x ≡ raised_notice n) where
      given : energy_part x nondaily daily (lent t a b) ≡ on_part 4 (energy_lists_rows ed n R) (enter_lists (entry_of n)) (lent t a b)
      unfolding register_of
      given = rw (ex, is-nondaily, is-daily) (sym part_same)

      pub energy_done : (r : Numbers) (p : List ℤ)
          → (r ≡ (energy_part x nondaily daily (lent t a b)).0) × (p ≡ (energy_part x nondaily daily (lent t a b)).1)
          → (r ≡ (energy_in ed t n).0) × (back_in t a b p ≡ (energy_in ed t n).1)
      energy_done r p g =
          let w = call_done ed fits t call (energy_in ed t n) refl e is h r p (g.0 ∙ ap (λ w. w.0) given, g.1 ∙ ap (λ w. w.1) given, refl) in
          (w.0, w.1)
