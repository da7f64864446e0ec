use Rattle.std.proofs.Common.{◌≡◌, true, false, refl, rules}
use Rattle.std.proofs.lemmas.Iterator.{cases_from_all, YieldsList-from_range}
use Rattle.images.specs.Blocks.{intact_at, intact}
use Rattle.images.proofs.Sums.{all_decided}
use Rattle.images.proofs.intact.Goals as goal

pub returns : goal.returns
unfolding intact
returns c =
    let p = intact_at c.args.image.now in
    all_decided p 124 c.all.result
    (cases_from_all _ _ _ (λ k. p k ≡ true) (λ k. p k ≡ false) c.all.ensures.ran (YieldsList-from_range 0 124 124 refl refl) (λ x q k. search rules) (λ x q k. search rules))
