use Rattle.std.proofs.Common.{not, ◌-◌, sym, ◌∙◌, ap, ap₂}
use Rattle.std.proofs.lemmas.Result.{err_from_is_err_and}
use borrow.Author.Tests.{not-true, not-false}
use Rattle.daybook.specs.Editions.{editions, edition_no, no_room}
use Rattle.layout.specs.Layout.{table_book, with_new_book}
use Rattle.layout.specs.Sound.{sound}
use Rattle.table.proofs.Registers.{table_passes}
use Rattle.table.proofs.Calls.{gives}
use Rattle.table.proofs.Locating.{not_sound}
use Rattle.conversion.proofs.Calls.{full_is, convert_unsound, convert_short, convert_full, convert_entered}
use Rattle.conversion.proofs.convert.Goals as goal

pub returns-in_err-register : goal.returns-in_err-register
returns-in_err-register c =
    let p = err_from_is_err_and c.from_residual.result c.from_residual.ensures.1 in
    let w = not_sound _ c.in_err-register.ensures.is in
    rw (p.1, p.2, w.0) (gives (convert_unsound editions _ _ w.1))

pub returns-then-second-lt-TABLE_LENGTH : goal.returns-then-second-lt-TABLE_LENGTH
returns-then-second-lt-TABLE_LENGTH c =
    let ed = table_passes c.in_ok-register.register c.in_ok-register.ensures.ok in
    gives (convert_short editions _ _ (ap (λ ed. sound ed c.args.t.now) (sym ed.1) ∙ ed.2) c.if-second-lt-TABLE_LENGTH.true)

pub returns-then-not-has_room : goal.returns-then-not-has_room
returns-then-not-has_room c =
    let a = c.args in
    let ed = table_passes c.in_ok-register.register c.in_ok-register.ensures.ok in
    let f = full_is editions a.t.now a.second.now _ _ _ ed.1 c.edition_of-to.ensures.0 (c.has_room.ensures ∙ ap (λ t. not (no_room c.edition_of-to.result (table_book c.in_ok-register.register.edition t))) c.in_ok-register.ensures.ok.0) in
    gives (convert_full editions _ _ (ap (λ ed. sound ed a.t.now) (sym ed.1) ∙ ed.2) c.if-second-lt-TABLE_LENGTH.false (not-false _ (sym f ∙ c.if-not-has_room.true)))

pub lay_out-requires : goal.lay_out-requires
lay_out-requires c =
    record {
      other = c.edition_of-to.ensures.1;
      room = not-true _ (sym c.has_room.ensures ∙ c.if-not-has_room.false);
      long = c.if-second-lt-TABLE_LENGTH.false;
    }

pub returns : goal.returns
returns c =
    let a = c.args in
    let ed = table_passes c.in_ok-register.register c.in_ok-register.ensures.ok in
    let f = full_is editions a.t.now a.second.now _ _ _ ed.1 c.edition_of-to.ensures.0 (c.has_room.ensures ∙ ap (λ t. not (no_room c.edition_of-to.result (table_book c.in_ok-register.register.edition t))) c.in_ok-register.ensures.ok.0) in
    let to_is = c.edition_of-to.ensures.0 ∙ ap (λ ed. edition_no editions (1 - ed.number)) ed.1 in
    let w = gives (convert_entered editions a.t.now a.second.now (ap (λ ed. sound ed a.t.now) (sym ed.1) ∙ ed.2) c.if-second-lt-TABLE_LENGTH.false (not-true _ (sym f ∙ c.if-not-has_room.false))) in (
      w.0,
      c.lay_out.ensures ∙ ap (λ t. with_new_book c.edition_of-to.result a.second.now (table_book c.in_ok-register.register.edition t)) c.in_ok-register.ensures.ok.0 ∙ ap₂ (λ to ed. with_new_book to a.second.now (table_book ed a.t.now)) to_is ed.1 ∙ w.1,
    )
