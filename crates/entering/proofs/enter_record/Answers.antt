use Rattle.entering.proofs.Entering.{free_row, appended, put_in, recut_in}
use Rattle.std.proofs.Common.{rules}
use Rattle.entering.proofs.enter_record.Goals as goal

pub append_record-requires : goal.append_record-requires
append_record-requires c =
    let h = free_row c.requires.0 c.args.x _ _ c.records-n.ensures.0 c.row_of-j.ensures.0 c.requires.2 c.if-j-n.true in
    search rules

pub returns-then-j-n : goal.returns-then-j-n
returns-then-j-n c =
    appended c.requires.0 c.args.x _ _ c.records-n.ensures.0 c.row_of-j.ensures.0 c.requires.2 c.if-j-n.true c.append_record.ensures

pub returns-then-end-x : goal.returns-then-end-x
returns-then-end-x c =
    put_in c.requires.0 c.args.x _ _ c.records-n.ensures.0 c.row_of-j.ensures.0 c.if-j-n.false _ c.rec_end-end.ensures.0 c.if-end-x.true c.put_record.ensures

pub returns : goal.returns
returns c =
    recut_in c.requires.0 c.args.x _ _ c.records-n.ensures.0 c.row_of-j.ensures.0 c.if-j-n.false _ c.rec_end-end.ensures.0 c.if-end-x.false c.cut_records.ensures c.append_record-2.ensures
