use Rattle.std.proofs.Common.{◌≡◌, ◌∙◌, pos, ℕ, ◌<◌, get_or, rules, w64}
use Rattle.std.specs.Int.{cast_signed}
use Rattle.daybook.specs.Calls.{energy_numbers}
use Rattle.trial.proofs.Tried.{five_numbers, numbers_back, removed_back}
use Rattle.trial.proofs.put_answer.Goals as goal

pub returns : goal.returns
returns c =
    let xs = energy_numbers c.args.a in
    let five = five_numbers c.args.a in
    let read : (i : ℕ) → i < 5 → get_or c.map.result i (pos 0) ≡ cast_signed w64 (get_or c.energy_numbers-numbers.result i 0) =
    λ i h. let (p, q, z) = c.map.ensures.items.at i 0 (pos 0) h in search rules in
    let each = rw c.energy_numbers-numbers.ensures at read in
    (c.copy_from_slice.ensures.after ∙ numbers_back xs _ c.requires.1 five c.map.ensures.items.long each, rw c.energy_numbers-numbers.ensures (removed_back xs c.requires.1 five))
