use mathlib.Core.Path.{◌≡◌, refl, sym, ◌∙◌}
use mathlib.Core.Bool.{true}
use Rattle.layout.specs.Layout.{facts_at}
use Rattle.layout.specs.Sound.{counts_sound, facts_sound}
use Rattle.layout.proofs.RowsSound.{facts_ok_lem}
use Rattle.point.proofs.Loops.{counted}
use Rattle.soundness.proofs.Decides.{uncounted, tested}
use borrow.Author.Rules.{rules}
use Rattle.soundness.proofs.part_sound.Goals as goal

pub returns-then-not-counts_sound : goal.returns-then-not-counts_sound
returns-then-not-counts_sound c = uncounted _ (sym c.counts_sound.ensures ∙ c.if-not-counts_sound.true)

pub returns-then-not-facts_sound : goal.returns-then-not-facts_sound
returns-then-not-facts_sound c =
    let counts : counts_sound c.args.p.now ≡ true = sym c.counts_sound.ensures ∙ c.if-not-counts_sound.false in
    tested c.args.p.now _ _ _ c.requires.0 c.requires.1 counts (sym c.if-not-facts_sound.true ∙ c.facts_sound.ensures) refl refl

pub unused_zero-requires : goal.unused_zero-requires
unused_zero-requires c = counted _ (search rules) (sym c.counts_sound.ensures ∙ c.if-not-counts_sound.false)

pub rows_ok-requires : goal.rows_ok-requires
rows_ok-requires c = (
  counted _ (search rules) (sym c.counts_sound.ensures ∙ c.if-not-counts_sound.false),
  (facts_ok_lem _ (sym c.facts_sound.ensures ∙ c.if-not-facts_sound.false)).install_ok,
)

pub returns : goal.returns
returns c =
    let counts : counts_sound c.args.p.now ≡ true = sym c.counts_sound.ensures ∙ c.if-not-counts_sound.false in
    let facts : facts_sound (facts_at c.args.p.now) ≡ true = sym c.facts_sound.ensures ∙ c.if-not-facts_sound.false in
    tested c.args.p.now _ _ _ c.requires.0 c.requires.1 counts (sym facts) c.unused_zero.ensures c.rows_ok.ensures
