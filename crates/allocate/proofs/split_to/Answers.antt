use mathlib.Core.Path.{◌≡◌, refl, sym, ◌∙◌, ap, ap₂}
use mathlib.Core.List.{◌++◌}
use Prim.Native.Nat.{◌+◌, ◌-◌, ◌*◌, ◌/◌, ◌<◌}
use native.Mathlib.Omega.{arith}
use lib.ListN.{length, take, drop, get_or, set, length-set}
use lib.Seq.{take_all}
use lib.IntN.{pos}
use Rattle.daybook.specs.Queries.{total, split}
use Rattle.lists.proofs.Splits.{split_length}
use Rattle.layout.specs.Calls.{placed}
use Rattle.allocate.proofs.Splits.{sum_step, sum_none, next_small, part_small, part_up, product_small, nothing_yet, split_step}
use Rattle.allocate.proofs.split_to.Goals as goal

pub loop-k-init : goal.loop-k-init
unfolding split
loop-k-init c = (refl, sym (sum_none c.args.ws.now), sym (nothing_yet c.args.load c.args.s), refl)

pub overflow_add-sum : goal.overflow_add-sum
overflow_add-sum c =
    let k = c.loop-k in
    record { fits = omega (arith, next_small c.args.ws.now k.k 32 c.args.s k.sum (omega arith) c.requires.0 c.requires.5 k.invariant.1, c.requires.4) }

pub overflow_mul-high : goal.overflow_mul-high
overflow_mul-high c =
    let k = c.loop-k in
    let small = next_small c.args.ws.now k.k 32 c.args.s k.sum (omega arith) c.requires.0 c.requires.5 k.invariant.1 in
    record { fits = omega (arith, product_small c.args.load (k.sum + get_or c.args.ws.now k.k 0) c.requires.2 (omega (arith, small, c.requires.4))) }

pub overflow_sub-high : goal.overflow_sub-high
overflow_sub-high c =
    let k = c.loop-k in
    rw k.invariant.2 (part_up c.args.load k.sum (get_or c.args.ws.now k.k 0) c.args.s c.requires.3)

pub put-requires : goal.put-requires
put-requires c =
    let k = c.loop-k in
    let more = next_small c.args.ws.now k.k 32 c.args.s k.sum (omega arith) c.requires.0 c.requires.5 k.invariant.1 in
    let small = part_small c.args.load (k.sum + get_or c.args.ws.now k.k 0) c.args.s c.requires.3 more in
    (omega (arith, k.invariant.0, c.requires.1), omega (arith, small, c.requires.2))

pub loop-k-preserved : goal.loop-k-preserved
loop-k-preserved c =
    let k = c.loop-k in
    let ws = c.args.ws.now in
    let e : k.sum ≡ total (take k.k ws) = k.invariant.1 in
    let low : k.low ≡ (c.args.load * total (take k.k ws)) / c.args.s = k.invariant.2 ∙ ap (λ x. (c.args.load * x) / c.args.s) e in
    let inside : k.k < length ws = omega (arith, c.requires.0) in (
      ap length c.put.ensures ∙ simp length-set k.invariant.0,
      rw e (sym (sum_step ws k.k inside)),
      refl,
      c.put.ensures
          ∙ ap₂ (λ a l. set k.out k.k (pos ((c.args.load * (a + get_or ws k.k 0)) / c.args.s - l))) e low
          ∙ split_step c.args.load c.args.s ws c.args.out.now k.out k.k c.requires.3 inside (omega (arith, c.requires.1)) k.invariant.3,
    )

pub returns : goal.returns
unfolding placed
returns c =
    let ws = c.args.ws.now in
    let e : c.loop-k.k ≡ 32 = omega arith in
    let all : take 32 ws ≡ ws = take_all 32 ws (omega (arith, c.requires.0)) in
    c.loop-k.invariant.3
    ∙ ap (λ k. split c.args.load c.args.s 0 (take k ws) ++ drop k c.args.out.now) e
    ∙ ap₂ (λ l n. split c.args.load c.args.s 0 l ++ drop n c.args.out.now) all (sym (split_length c.args.load c.args.s 0 ws ∙ c.requires.0))
