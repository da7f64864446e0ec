use Rattle.std.proofs.Common.{◌∙◌, ◌+◌, ◌*◌, ap, map, List, ℕ, add-zero, rules}
use Rattle.words.specs.Words.{number_at}
use Rattle.words.specs.Sums.{sums_of}
use Rattle.images.specs.Blocks.{check_of}
use Rattle.images.proofs.Sums.{range_items, words_listed}
use Rattle.images.proofs.check.Goals as goal

pub returns : goal.returns
unfolding check_of
returns c =
    let image = c.args.image.now in
    let at = 512 * c.args.k in
    let p = c.of.ensures in
    let q = c.map-checked.ensures.runs p.0 p.0.seen p.1 in
    let word : ℕ → ℕ = λ j. number_at image (at + 8 * j) 8 in
    let items = q.2.3 word (search rules) ∙ ap (map word) (range_items q.0 63 (search rules) (search rules) (search rules)) ∙ words_listed image at 0 63 in
    p.3.1 ∙ ap (λ (ws : List ℕ). (sums_of ws).1) (rw add-zero at items)
