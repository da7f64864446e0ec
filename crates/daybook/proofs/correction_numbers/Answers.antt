use Rattle.std.proofs.Common.{◌≡◌, refl, sym, ap, ◌∙◌, ◌+◌, ◌<◌, length, get_or, arith, rules}
use Rattle.std.specs.Prelude.{false, map, [], ◌∷◌}
use lib.ListN.{length-map, get_or-map}
use Rattle.words.specs.Words.{bits_of}
use Rattle.daybook.specs.Calls.{correction_numbers}
use mir.Val.{bool_byte}
use Rattle.daybook.proofs.Arrays.{filled_more, filled_all, flags_back}
use Rattle.daybook.proofs.correction_numbers.Goals as goal

pub loop-k-preserved : goal.loop-k-preserved
loop-k-preserved c =
    let l = c.loop-k in
    let flags = c.in-Ok.affected in
    let b = c.from.ensures ∙ sym (get_or-map bool_byte flags l.k false) in
    let h : 1 + l.k < length l.numbers = search rules in
    (search rules, filled_more (_ ∷ []) (map bool_byte flags) l.numbers l.k (1 + l.k) _ _ refl (omega arith) h l.invariant.1 b)

pub returns-after-loop-k : goal.returns-after-loop-k
returns-after-loop-k c =
    let l = c.loop-k in
    let flags = c.in-Ok.affected in
    let long : length flags ≡ 16 = search rules in
    let k : 1 + l.k ≡ length l.numbers = search rules in
    filled_all (_ ∷ []) (map bool_byte flags) l.numbers (omega (arith, long, k, length-map flags bool_byte)) (rw k at l.invariant.1)
    ∙ ap (λ m. 0 ∷ m) (flags_back flags)
    ∙ sym (ap (λ a. bits_of (correction_numbers a)) c.in-Ok.is)
