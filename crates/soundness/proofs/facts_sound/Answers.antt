use Rattle.layout.specs.Sound.{facts_sound}
use Rattle.soundness.proofs.facts_sound.Goals as goal

pub returns : goal.returns
unfolding facts_sound
returns c =
    let b = c.before in
    rw (c.get.ensures.0, c.section.ensures.0, b.base.ensures.0, b.install.ensures.0, b.kind.ensures.0, b.mirn-mirn.ensures.0)
