use mathlib.Core.Path.{sym}
use Rattle.buffers.proofs.Bytes.{read_length, read_numbers}
use Rattle.buffers.proofs.numbers_in.Goals as goal

pub slice_bounds-result-end : goal.slice_bounds-result-end
slice_bounds-result-end c =
    sym (read_length c.args.bytes.now _ _ _ c.requires.1 c.decode.ensures)

pub returns : goal.returns
returns c =
    let s = c.before in
    (read_numbers s.args.bytes.now _ _ _ s.requires.1 c.decode.ensures, read_length s.args.bytes.now _ _ _ s.requires.1 c.decode.ensures)
