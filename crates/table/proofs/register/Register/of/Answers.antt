use Rattle.std.proofs.Common.{sym, ◌∙◌}
use Rattle.table.proofs.Locating.{given_sound, given_unsound}
use Rattle.table.proofs.register.Register.of.Goals as goal

pub returns-then-not-sound-clause-is : goal.returns-then-not-sound-clause-is
returns-then-not-sound-clause-is c = given_unsound _ c.edition-edition.ensures.0 (sym c.sound.ensures ∙ c.if-not-sound.true)

pub returns-clause-is : goal.returns-clause-is
returns-clause-is c = given_sound _ c.edition-edition.ensures.0 (sym c.sound.ensures ∙ c.if-not-sound.false)
