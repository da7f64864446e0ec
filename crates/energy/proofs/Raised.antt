-- A notice's numbers as naturals: when they are in range, they are the notice's own. Assumes nothing.
use mathlib.Core.Path.{◌≡◌, sym, ◌∙◌, ap}
use mathlib.Core.Bool.{true, not}
use mathlib.Core.List.{[]}
use Prim.Native.Nat.{◌≤◌}
use lib.IntN.{pos, negsuc}
use borrow.Author.Tests.{leb-true}
use Rattle.numbers.specs.InnerEnergies.{bias_of}
use Rattle.numbers.proofs.Bools.{both}
use Rattle.numbers.proofs.Naturals.{bias_is}
use Rattle.calendar.specs.Calendar.{within, is_day}
use Rattle.daybook.specs.declared.EnergyNotice.{EnergyNotice}
use Rattle.daybook.specs.Notices.{least, is_mirn, is_flag, energy_early}
use Rattle.lists.proofs.Bounds.{within_bounds, within_pos}
use Rattle.lists.proofs.Rows.{least_skip}
use Rattle.point.proofs.Records.{energy_same}
use Rattle.entering.specs.declared.RaisedNotice.{RaisedNotice}
use Rattle.entering.specs.InnerEntering.{raised_notice, notice_of, in_range, InRange}

-- ---- row 2

-- a notice in range comes back from its raised one, which is then in range
pub in_range_tells : (n : EnergyNotice) → in_range n ≡ true → (n ≡ notice_of (raised_notice n)) × InRange (raised_notice n)
in_range_tells n e =
    let confirmed = both _ (is_flag n.confirmed) e in
    let type = both _ (within (pos 0) (pos 2) n.type_) confirmed.0 in
    let energy = both _ (within (negsuc 999999) (pos 1000000) n.energy) type.0 in
    let end = both _ (is_day n.end) energy.0 in
    let start = both (is_mirn n.mirn) (is_day n.start) end.0 in
    let small : bias_of n.energy ≤ 2000000 = leb-true _ _ (energy_same n.energy ∙ energy.1) in
    let back : n ≡ notice_of (raised_notice n) = λ i. record {
      mirn = within_pos 1 9999999999 n.mirn start.0 i;
      start = within_pos 0 39999 n.start start.1 i;
      end = within_pos 0 39999 n.end end.1 i;
      energy = sym (bias_is n.energy small) i;
      type_ = within_pos 0 2 n.type_ type.1 i;
      confirmed = within_pos 0 1 n.confirmed confirmed.1 i;
    } in
    let tells : InRange (raised_notice n) = record {
      tested = sym (ap in_range back) ∙ e;
      start_ok = (within_bounds 0 39999 n.start start.1).1;
      end_ok = (within_bounds 0 39999 n.end end.1).1;
      energy_ok = small;
      type_ok = (within_bounds 0 2 n.type_ type.1).1;
    } in
    (back, tells)

pub in_range_clear : (x : RaisedNotice) → InRange x → least (energy_early (notice_of x)) ≡ 0
unfolding energy_early least
in_range_clear x ok = least_skip 2 _ [] (ap not ok.tested)
