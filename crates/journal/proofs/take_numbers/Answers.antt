use Rattle.std.proofs.Common.{◌≡◌, ◌<◌, ◌∙◌, sym, ap, drop, length, rules, tests, arith, to_z, of_z, w64}
use Rattle.std.proofs.lemmas.Iterator.Consumers.{YieldsList-at, YieldsList-from_filter, YieldsList-turn, YieldsList-end}
use Rattle.std.proofs.lemmas.Iterator.Splits.{YieldsList-from_slice_split}
use Rattle.std.proofs.lemmas.Int.{to_z-of_z}
use Rattle.std.proofs.lemmas.List.{length_push}
use Rattle.std.proofs.lemmas.Slice.{between_to_end}
use mathlib.Core.Option.{some}
use lib.ListN.{length-set, length-drop}
use Rattle.journal.specs.Text.{words_of}
use Rattle.journal.proofs.Words.{is_space, holds_a_byte, word_at, words_end, words_few}
use Rattle.journal.proofs.Line.{numbers_more, numbers_none, numbers_end}
use Rattle.journal.proofs.take_numbers.Goals as goal

pub returns-in_err-nums : goal.returns-in_err-nums
returns-in_err-nums c =
    let l = c.loop-word in
    let s = drop c.args.at c.args.line.now in
    let t = YieldsList-turn (YieldsList-at c.into_iter-word-iterator.ensures.into_iter_gives (YieldsList-from_filter _ holds_a_byte (YieldsList-at c.filter-words.ensures.source (YieldsList-from_slice_split _ is_space s (c.split.ensures.rest ∙ between_to_end c.args.line.now c.args.at (length c.args.line.now) (omega arith)) c.split.ensures.done c.split.ensures.closure (λ x b q k. search (rules, tests)))) c.filter-words.ensures.closure (λ x b q k. search (rules, tests)))) l.yielded _ l.yielded_by _ _ c.in-Some.word c.in-Some.is c.next.ensures.steps in
    let w = word_at s l.n _ l.invariant.0 c.in-Some.word.now t in
    rw c.from_residual.ensures (sym (numbers_none (words_of s) l.nums l.n c.in-Some.word.now w c.in_err-nums.ensures) ∙ l.invariant.2, omega arith)

pub bounds-nums-n : goal.bounds-nums-n
bounds-nums-n c =
    let l = c.loop-word in
    let s = drop c.args.at c.args.line.now in
    let t = YieldsList-turn (YieldsList-at c.into_iter-word-iterator.ensures.into_iter_gives (YieldsList-from_filter _ holds_a_byte (YieldsList-at c.filter-words.ensures.source (YieldsList-from_slice_split _ is_space s (c.split.ensures.rest ∙ between_to_end c.args.line.now c.args.at (length c.args.line.now) (omega arith)) c.split.ensures.done c.split.ensures.closure (λ x b q k. search (rules, tests)))) c.filter-words.ensures.closure (λ x b q k. search (rules, tests)))) l.yielded _ l.yielded_by _ _ c.in-Some.word c.in-Some.is c.next.ensures.steps in
    let w = word_at s l.n _ l.invariant.0 c.in-Some.word.now t in
    omega (arith, words_few s, length-drop c.args.at c.args.line.now)

pub loop-word-preserved : goal.loop-word-preserved
loop-word-preserved c =
    let l = c.loop-word in
    let s = drop c.args.at c.args.line.now in
    let t = YieldsList-turn (YieldsList-at c.into_iter-word-iterator.ensures.into_iter_gives (YieldsList-from_filter _ holds_a_byte (YieldsList-at c.filter-words.ensures.source (YieldsList-from_slice_split _ is_space s (c.split.ensures.rest ∙ between_to_end c.args.line.now c.args.at (length c.args.line.now) (omega arith)) c.split.ensures.done c.split.ensures.closure (λ x b q k. search (rules, tests)))) c.filter-words.ensures.closure (λ x b q k. search (rules, tests)))) l.yielded _ l.yielded_by _ _ c.in-Some.word c.in-Some.is c.next.ensures.steps in
    let w = word_at s l.n _ l.invariant.0 c.in-Some.word.now t in
    let b : l.n < length l.nums = omega (arith, words_few s, length-drop c.args.at c.args.line.now) in
    let x : some (to_z w64 (of_z w64 c.in_ok-nums.field-0)) ≡ some c.in_ok-nums.field-0 = ap some (to_z-of_z w64 _ (search rules)) in
    let more = numbers_more (words_of s) l.nums l.n c.in-Some.word.now w (to_z w64 (of_z w64 c.in_ok-nums.field-0)) (x ∙ c.in_ok-nums.ensures) b in
    (omega (arith, l.invariant.0, length_push l.yielded c.in-Some.word), omega (arith, length-set l.nums l.n (to_z w64 (of_z w64 c.in_ok-nums.field-0))), sym more ∙ l.invariant.2)

pub returns : goal.returns
returns c =
    let l = c.loop-word in
    let s = drop c.args.at c.args.line.now in
    let t = YieldsList-end (YieldsList-at c.into_iter-word-iterator.ensures.into_iter_gives (YieldsList-from_filter _ holds_a_byte (YieldsList-at c.filter-words.ensures.source (YieldsList-from_slice_split _ is_space s (c.split.ensures.rest ∙ between_to_end c.args.line.now c.args.at (length c.args.line.now) (omega arith)) c.split.ensures.done c.split.ensures.closure (λ x b q k. search (rules, tests)))) c.filter-words.ensures.closure (λ x b q k. search (rules, tests)))) l.yielded _ l.yielded_by _ _ c.in-None.is c.next.ensures.steps in
    let e = words_end s l.n _ l.invariant.0 t.1 in
    (numbers_end (words_of s) l.n _ (omega arith) ∙ l.invariant.2, omega (arith, words_few s, length-drop c.args.at c.args.line.now))
