use Rattle.std.proofs.Common.{◌≡◌, ◌∙◌, ◌+◌, ◌-◌, arith, drop, length-drop, length-take-le}
use Rattle.words.proofs.Numbers.{eight_number, number_below}
use Rattle.words.proofs.number.Goals as goal

pub returns : goal.returns
returns g c =
    let n = g.row.N in
    let b = c.args.b.now in
    let at = c.args.at in
    let l = c.loop-i in
    let long : l.i ≡ n = omega (arith, length-take-le (at + n - at) (drop at b) (omega (arith, length-drop at b))) in
    let e = c.from_le_bytes.ensures ∙ eight_number b _ at n c.requires.0 (λ k h. l.invariant.1 k (omega arith)) (λ k h. l.invariant.2 k (omega arith)) in
    (e, omega (arith, e, number_below b at n (λ i. (c.type_inv.b i).fits)))
