use Rattle.std.proofs.Common.{◌≡◌, ◌≢◌, rules, tests, drop, length, arith, ◌+◌, ◌∙◌}
use Rattle.std.proofs.lemmas.Iterator.{IsFirst-from_position, YieldsList-from_slice}
use Rattle.std.proofs.lemmas.Slice.{between_to_end}
use lib.ListN.{length-drop}
use Rattle.journal.proofs.Ends.{ended}
use Rattle.journal.proofs.word_end.Goals as goal

pub returns-in-Some : goal.returns-in-Some
returns-in-Some c =
    let line = c.args.line.now in
    let s = drop c.args.at line in
    let h = IsFirst-from_position _ _ _ (λ b. b ≡ 32) (λ b. b ≢ 32) c.in-Some.ensures.ran (YieldsList-from_slice s (c.iter.ensures.rest ∙ between_to_end line c.args.at (length line) (omega arith))) (λ x q k. search (rules, tests)) (λ x q k. search (rules, tests)) in
    ended line c.args.at c.in-Some.n (omega (arith, h.0)) c.requires h.2 (λ _. h.1)

pub returns-in-None : goal.returns-in-None
returns-in-None c =
    let line = c.args.line.now in
    let s = drop c.args.at line in
    let h = IsFirst-from_position _ _ _ (λ b. b ≡ 32) (λ b. b ≢ 32) c.in-None.ensures.ran (YieldsList-from_slice s (c.iter.ensures.rest ∙ between_to_end line c.args.at (length line) (omega arith))) (λ x q k. search (rules, tests)) (λ x q k. search (rules, tests)) in
    let e : c.args.at + length s ≡ length line = omega (arith, length-drop c.args.at line) in
    rw e at (ended line c.args.at (length s) (omega arith) c.requires h (λ l. absurd (omega arith)))
