use Rattle.std.proofs.Common.{sym, ap, ◌∙◌, ◌++◌, map, arith}
use lib.ListN.{length-map}
use Rattle.printing.specs.Rows.{row_of}
use Rattle.printing.proofs.Rows.{number_more, row_end}
use Rattle.printing.proofs.Output.row.Goals as goal

pub loop-i-preserved : goal.loop-i-preserved
loop-i-preserved g c =
    let l = c.loop-i in
    (omega (arith, c.append.ensures.room, l.invariant.0), number_more g.T.Number.value c.args.xs.now l.i c.index-xs-i.result l.self-inside.bytes.items _ c.separator.result c.loop-i-test.true c.index-xs-i.is c.separator.ensures c.append.ensures.text ∙ l.invariant.1)

pub returns-clause-text : goal.returns-clause-text
returns-clause-text g c =
    let l = c.loop-i in
    sym (row_end (map g.T.Number.value c.args.xs.now) l.i l.self-inside.bytes.items (rw length-map c.loop-i-test.false)) ∙ l.invariant.1 ∙ ap (λ t. t ++ row_of (map g.T.Number.value c.args.xs.now)) c.self.view_is
