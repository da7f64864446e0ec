use mathlib.Core.Path.{◌≡◌, ap}
use lib.Dec.{eqb}
use lib.IntN.{pos}
use lib.ListN.{get_or}
use borrow.Author.Rules.{rules}
use Rattle.daybook.specs.Notices.{is_range}
use Rattle.table.proofs.Laws.{body_is}
use Rattle.table.proofs.body_sound.Goals as goal

pub returns : goal.returns
returns c =
    let s = c.args in
    let t = s.t.now in
    let nondaily : c.is_range.result ≡ is_range (get_or t 1 (pos 0)) = search rules in
    let daily : c.is_range-2.result ≡ is_range (get_or t 2 (pos 0)) = search rules in
    body_is s.ed t s.n _ _ _ _ _ _ _ _ c.requires.3
    nondaily
    daily
    (ap (λ k. eqb k s.ed.number) c.get.ensures.0)
    c.zeros_in.ensures
    c.parts_sound.ensures
    c.mirns_differ.ensures
    c.place-end.ensures.0
    c.zeros_in-2.ensures
