use Rattle.std.proofs.Common.{◌≡◌, Err, sym, ◌∙◌, ap, subst, length, arith, rules, w64}
use mir.Facts.{to_z-of_z}
use Rattle.numbers.specs.Naturals.{nat_of}
use Rattle.numbers.proofs.Naturals.{natural_read}
use Rattle.daybook.specs.Editions.{editions}
use Rattle.daybook.specs.Trials.{batch_fits}
use Rattle.layout.specs.Layout.{table_book}
use Rattle.layout.specs.Sound.{sound}
use Rattle.layout.proofs.Notices.{Holds, front_holds}
use Rattle.table.proofs.Registers.{register_long, table_passes}
use Rattle.table.proofs.Locating.{not_sound}
use Rattle.trial.proofs.Calls.{fits_few, trial_unsound, trial_unfit, copy_given, sent_back_lem}
use Rattle.trial.proofs.trial.Goals as goal
use Rattle.trial.proofs.trial.Goals.{After-copy_first}

pub returns-in_err-register : goal.returns-in_err-register
returns-in_err-register c =
    let s = c.args in
    let gone : c.from_residual.result ≡ Err c.in_err-register.field-0.0 = search rules in
    let w = not_sound s.t.now c.in_err-register.ensures.is in
    rw (gone, w.0) (sent_back_lem 1 s.answers.now (trial_unsound editions s.t.now s.count s.notices.now (length s.answers.now) w.1))

pub returns-then-not-fits : goal.returns-then-not-fits
returns-then-not-fits c =
    let s = c.args in
    let ed = table_passes c.in_ok-register.register c.in_ok-register.ensures.ok in
    let whole = sym (ap (λ ed. sound ed s.t.now) ed.1) ∙ ed.2 in
    let batch : c.fits.result ≡ batch_fits s.count (length s.notices.now) (length s.answers.now) = rw (to_z-of_z {w = w64} c.ranges.count) at c.fits.ensures in
    sent_back_lem 2 s.answers.now (trial_unfit editions s.t.now s.count s.notices.now (length s.answers.now) whole (sym batch ∙ c.if-not-fits.true))

pub copy_first-requires : goal.copy_first-requires
copy_first-requires c = (omega arith, register_long c.in_ok-register.register)

-- the copy holds the table's book
copied_lem : (c : After-copy_first) → Holds c.in_ok-register.register.edition c.in_ok-register.register.fits c.copy_first.new.p (table_book c.in_ok-register.register.edition c.args.t.now)
copied_lem c =
    let r = c.in_ok-register.register in
    subst (λ t. Holds r.edition r.fits c.copy_first.new.p (table_book r.edition t)) c.in_ok-register.ensures.ok.0
    (subst (λ u. Holds r.edition r.fits u (table_book r.edition r.table.now)) (sym c.copy_first.ensures) (front_holds r.edition r.fits r.table.now r.is_sound _))

pub try_all-requires : goal.try_all-requires
try_all-requires c =
    let s = c.args in
    let ed = table_passes c.in_ok-register.register c.in_ok-register.ensures.ok in
    let batch : c.fits.result ≡ batch_fits s.count (length s.notices.now) (length s.answers.now) = rw (to_z-of_z {w = w64} c.ranges.count) at c.fits.ensures in
    let n : c.natural-n.result ≡ nat_of s.count = c.natural-n.ensures.0 ∙ natural_read s.count c.ranges.count in
    let copied = copied_lem (goal.at.try_all-requires c).After-copy_first in
    let few = fits_few s.count (length s.notices.now) (length s.answers.now) (sym batch ∙ c.if-not-fits.false) in
    record {
      fits = ed.0;
      is_sound = copied.is_sound;
      few = omega (arith, few.0);
      given = omega (arith, few.1);
      room = omega (arith, few.2);
    }

pub returns : goal.returns
returns c =
    let s = c.args in
    let ed = table_passes c.in_ok-register.register c.in_ok-register.ensures.ok in
    let whole = sym (ap (λ ed. sound ed s.t.now) ed.1) ∙ ed.2 in
    let batch : c.fits.result ≡ batch_fits s.count (length s.notices.now) (length s.answers.now) = rw (to_z-of_z {w = w64} c.ranges.count) at c.fits.ensures in
    let n : c.natural-n.result ≡ nat_of s.count = c.natural-n.ensures.0 ∙ natural_read s.count c.ranges.count in
    let copied = copied_lem (goal.at.returns c).After-copy_first in
    copy_given editions s.t.now s.count s.notices.now (length s.answers.now) whole (sym batch ∙ c.if-not-fits.false)
    _ ed.1 _ copied.book _ n s.answers.now c.try_all.ensures
