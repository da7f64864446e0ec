use Rattle.std.proofs.Common.{◌≡◌, refl, ◌∙◌, ap, ◌++◌, ◌+◌, ◌-◌, ◌*◌, ◌≤◌, max, take, drop, length-take, length-drop, arith, rules}
use Rattle.layout.specs.Layout.{table_book}
use Rattle.trial.proofs.Batch.{so_far_none, so_far_next, so_far_all}
use Rattle.trial.proofs.try_all.Goals as goal

pub loop-k-init : goal.loop-k-init
loop-k-init c =
    so_far_none c.args.ed c.args.count c.args.notices.now _ c.args.answers.now c.args.t.now c.requires.is_sound refl _ c.most_records-most.ensures

pub notice_at-requires : goal.notice_at-requires
notice_at-requires c = let h = c.requires.given in omega arith

pub try_one-removed-requires : goal.try_one-removed-requires
try_one-removed-requires c =
    let room = c.requires.room in
    (c.requires.fits, c.loop-k.invariant.is_sound, simp (length-take, length-drop) (omega arith))

-- no sum of a hundred small numbers is too large
pub overflow_add-removed : goal.overflow_add-removed
overflow_add-removed c =
    let most : c.loop-k.removed ≤ c.loop-k.k * 7688 = c.loop-k.invariant.few in
    let more : c.try_one-removed.result ≤ 7688 = c.try_one-removed.ensures.few in
    let count = c.requires.few in
    search rules

pub loop-k-preserved : goal.loop-k-preserved
loop-k-preserved c =
    let l = c.loop-k in
    let five : (5 * l.k + 5) - 5 * l.k ≡ 5 = omega arith in
    let written = ap (λ j. take (5 * l.k) l.answers ++ (c.try_one-removed.new.answer ++ drop j (drop (5 * l.k) l.answers))) five in
    so_far_next c.args.ed c.args.count c.args.notices.now (table_book c.args.ed c.args.t.now) c.args.answers.now l.invariant (omega arith) c.notice_at.result c.notice_at.ensures c.try_one-removed.ensures written _ (c.max-most.ensures ∙ ap (max l.most) c.most_records.ensures)

pub returns : goal.returns
returns c = so_far_all _ _ _ _ _ c.loop-k.invariant (omega arith)
