use Rattle.layout.specs.Layout.{point_from}
use Rattle.layout.proofs.Cells.{place_recs}
use Rattle.layout.proofs.SoundParts.{part_well, part_laid}
use Rattle.entering.proofs.StartRows.{appends_is}
use lib.Dec.{eqb}
use mathlib.Core.Path.{◌∙◌, ap₂}
use Rattle.entering.proofs.appends.Goals as goal

pub returns : goal.returns
returns c =
    let ok = c.args.part.now.is_sound in
    let recs = (point_from c.args.part.now.numbers.now).recs in
    ap₂ eqb c.row_of.ensures.0 (c.records.ensures.0 ∙ place_recs (part_well ok) (part_laid ok)) ∙ appends_is recs c.args.start
