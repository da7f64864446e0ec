use Rattle.std.proofs.Common.{◌≡◌, refl, sym, ap, ◌∙◌, ◌+◌, ◌<◌, length, get_or, arith, rules, pos, to_z, of_z, w64}
use Rattle.std.specs.Prelude.{[], ◌∷◌}
use mir.Facts.{to_z-of_z}
use lib.ListN.{length-map, get_or-map}
use Rattle.words.specs.Words.{bits_of}
use Rattle.daybook.specs.Calls.{allocation_numbers}
use Rattle.daybook.proofs.Arrays.{filled_more, filled_all}
use Rattle.daybook.proofs.allocation_numbers.Goals as goal

pub loop-k-preserved : goal.loop-k-preserved
loop-k-preserved c =
    let l = c.loop-k in
    let ts = c.in-Ok.given.totals in
    let e : to_z w64 (of_z w64 (get_or ts l.k (pos 0))) ≡ get_or ts l.k (pos 0) = to_z-of_z {w = w64} (search rules) in
    let h : 2 + l.k < length l.numbers = search rules in
    let b = c.cast_unsigned-in-loop-k.ensures ∙ ap (of_z w64) e ∙ sym (get_or-map (of_z w64) ts l.k (pos 0)) in
    (search rules, filled_more (_ ∷ _ ∷ []) (bits_of ts) l.numbers l.k (2 + l.k) _ _ refl (omega arith) h l.invariant.1 b)

pub returns-after-loop-k : goal.returns-after-loop-k
returns-after-loop-k c =
    let l = c.loop-k in
    let g = c.in-Ok.given in
    let e : to_z w64 (of_z w64 g.nsl) ≡ g.nsl = to_z-of_z {w = w64} (search rules) in
    let long : length g.totals ≡ 16 = search rules in
    let k : 2 + l.k ≡ length l.numbers = search rules in
    filled_all (_ ∷ _ ∷ []) (bits_of g.totals) l.numbers (omega (arith, long, k, length-map g.totals (of_z w64))) (rw k at l.invariant.1)
    ∙ ap (λ x. 0 ∷ x ∷ bits_of g.totals) (c.cast_unsigned.ensures ∙ ap (of_z w64) e)
    ∙ sym (ap (λ a. bits_of (allocation_numbers a)) c.in-Ok.is)
