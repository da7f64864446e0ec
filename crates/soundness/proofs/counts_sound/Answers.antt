use Rattle.layout.specs.Sound.{counts_sound}
use Rattle.soundness.proofs.counts_sound.Goals as goal

pub returns : goal.returns
unfolding counts_sound
returns c = rw (c.records.ensures.0, c.spans.ensures.0, c.registrations-regs.ensures.0)
