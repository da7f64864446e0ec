use mathlib.Core.Path.{◌∙◌}
use native.Mathlib.Omega.{arith}
use Rattle.table.proofs.Laws.{short_unsound, many_unsound, body_sound_lem}
use Rattle.table.proofs.sound.Goals as goal

pub returns-then-t-lt-TABLE_LENGTH : goal.returns-then-t-lt-TABLE_LENGTH
returns-then-t-lt-TABLE_LENGTH c = short_unsound c.args.ed c.args.t.now c.if-t-lt-TABLE_LENGTH.true

pub returns-then-ed-n : goal.returns-then-ed-n
returns-then-ed-n c =
    let s = c.before in
    many_unsound s.args.ed s.args.t.now c.if-t-lt-TABLE_LENGTH.false (omega (arith, c.points-n.ensures.0))

pub returns : goal.returns
returns c =
    let s = c.before in
    c.body_sound.ensures ∙ body_sound_lem s.args.ed s.args.t.now c.if-t-lt-TABLE_LENGTH.false (omega (arith, c.points-n.ensures.0))
