use Rattle.std.proofs.Common.{◌≡◌, Bool, ℕ, true, false, eqb, refl, rules}
use Rattle.std.proofs.lemmas.Iterator.{cases_from_all, YieldsList-from_range}
use Rattle.words.specs.Words.{number_at}
use Rattle.images.specs.Blocks.{state_place, of_state}
use Rattle.images.proofs.Sums.{all_decided}
use Rattle.images.proofs.of_state.Goals as goal

pub returns : goal.returns
unfolding of_state
returns c =
    let p : ℕ → Bool = λ k. eqb (number_at c.args.image.now (state_place k) 4) c.args.state in
    all_decided p 124 c.all.result
    (cases_from_all _ _ _ (λ k. p k ≡ true) (λ k. p k ≡ false) c.all.ensures.ran (YieldsList-from_range 0 124 124 refl refl) (λ x q k. search rules) (λ x q k. search rules))
