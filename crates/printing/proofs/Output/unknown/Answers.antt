use Rattle.std.proofs.Common.{append_assoc}
use Rattle.printing.specs.Rows.{unknown_of, text_of}
use Rattle.printing.proofs.Output.unknown.Goals as goal

pub returns-clause-text : goal.returns-clause-text
unfolding unknown_of text_of
returns-clause-text g c =
    let begun = rw c.unwrap.ensures at c.try_extend_from_slice.ensures.ok in
    rw (c.put.ensures.text, begun, c.self.view_is, append_assoc)
