use mathlib.Core.Path.{◌≡◌, sym, ap, ap₂, ◌∙◌}
use mathlib.Core.List.{◌++◌}
use Prim.Native.Nat.{◌+◌, ◌-◌}
use native.Mathlib.Omega.{arith}
use lib.ListN.{length, take, drop, length-drop, take-append-drop}
use Rattle.std.proofs.lemmas.List.{length-take-le}
use Rattle.layout.specs.InnerWrites.{cleared}
use Rattle.layout.proofs.Blocks.{zeros_of, cleared_mid}
use borrow.Author.Rules.{rules}
use Rattle.rows.proofs.clear.Goals as goal

pub returns : goal.returns
returns c =
    let p = c.args.p.now in
    let a = c.args.a in
    let n = c.args.n in
    let m : a + n - a ≡ n = omega arith in
    let front : length (take a p) ≡ a = length-take-le a p (omega arith) in
    let block : length (take n (drop a p)) ≡ n = length-take-le n (drop a p) (omega (arith, length-drop a p)) in
    let laid : p ≡ take a p ++ (take n (drop a p) ++ drop n (drop a p)) =
    sym (ap (λ u. take a p ++ u) (take-append-drop n (drop a p)) ∙ take-append-drop a p) in
    let zeros : c.fill.new.self ≡ zeros_of n =
    c.fill.ensures.after (search rules) ∙ ap (λ k. zeros_of (length (take k (drop a p)))) m ∙ ap zeros_of block in
    ap₂ (λ u k. take a p ++ (u ++ drop k (drop a p))) zeros m
    ∙ sym (ap (λ u. cleared u a n) laid ∙ cleared_mid (take a p) (take n (drop a p)) (drop n (drop a p)) a n front block)
