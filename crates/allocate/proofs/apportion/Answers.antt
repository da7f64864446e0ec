use mathlib.Core.Path.{◌≡◌, sym, ◌∙◌, ap, ap₂, subst}
use mathlib.Core.List.{◌∷◌, map}
use Prim.Native.Nat.{◌*◌}
use native.Mathlib.Omega.{arith}
use lib.ListN.{length}
use lib.IntN.{pos}
use mir.ValLaws.{to_z-of_z}
use mir.Syntax.{w64}
use borrow.Author.Rules.{rules, sfits_of}
use Rattle.numbers.specs.Naturals.{nat_of}
use Rattle.numbers.proofs.Naturals.{natural_read}
use Rattle.daybook.specs.Notices.{users}
use Rattle.daybook.specs.Queries.{at_least0, tdm_of, split}
use Rattle.table.specs.InnerRegisters.{book}
use Rattle.layout.specs.Calls.{placed}
use Rattle.allocate.specs.InnerParts.{padded, SharesBelow, total_to, load_of, given_of}
use Rattle.allocate.proofs.Apportioned.{in_range_tells, in_range_lem, load_is, fros_32, weigh_32, split_32, placed_long, shares_are, shares_small, totals_are}
use Rattle.allocate.proofs.apportion.Goals as goal

pub metered-requires : goal.metered-requires
metered-requires c =
    let day : c.natural-g.result ≡ nat_of c.args.q.gasday = c.natural-g.ensures.0 ∙ natural_read c.args.q.gasday (search rules) in
    let ok = in_range_lem c.requires in
    (rw day ok.gasday_low, rw day ok.gasday_high)

pub net_load-load-requires : goal.net_load-load-requires
net_load-load-requires c =
    let ok = in_range_lem c.requires in
    (ok.tdq_ok, ok.uag_ok, ok.clp_ok, omega (arith, c.points.ensures, c.args.register.now.fits.few), rw c.points.ensures.0 c.metered.ensures.1)

pub split_to-requires : goal.split_to-requires
split_to-requires c =
    (weigh_32 c.requires, (in_range_tells c.args.q (length c.args.out.now) c.requires.in_range).1, c.net_load-load.ensures.1, c.requires.some, c.requires.few, c.requires.sum)

-- the load and the FROs are the book's
pub totals-requires : goal.totals-requires
totals-requires c =
    let a = c.args in
    let day = c.natural-g.ensures.0 ∙ natural_read a.q.gasday (search rules) in
    let load = c.net_load-load in
    let is = load_is c.requires c.metered.result
    (load.ensures.0 ∙ ap (λ k. at_least0 (load_of a.q c.metered.result (1000000 * k))) c.points.ensures.0)
    (c.metered.ensures.0 ∙ ap (λ g. tdm_of g (book a.register.now)) day) in
    let fros_is = c.fros-us.ensures ∙ ap (λ g. padded (map (λ p. p.fro g) (book a.register.now).points)) day in
    let out = c.split_to.ensures in (
      ap length fros_is ∙ fros_32 c.requires,
      rw out (placed_long (split load.result a.s 0 a.ws.now) a.out.now (split_32 c.requires load.result)),
      subst (SharesBelow 3032000000) (sym out) (shares_small c.requires is load.ensures.1 a.out.now),
    )

pub returns : goal.returns
unfolding given_of
returns c =
    let a = c.args in
    let day = c.natural-g.ensures.0 ∙ natural_read a.q.gasday (search rules) in
    let is = load_is c.requires c.metered.result
    (c.net_load-load.ensures.0 ∙ ap (λ k. at_least0 (load_of a.q c.metered.result (1000000 * k))) c.points.ensures.0)
    (c.metered.ensures.0 ∙ ap (λ g. tdm_of g (book a.register.now)) day) in
    let fros_is = c.fros-us.ensures ∙ ap (λ g. padded (map (λ p. p.fro g) (book a.register.now).points)) day in
    let out = c.split_to.ensures in
    let nsl = to_z-of_z w64 c.integer.result (sfits_of c.integer.type_inv) ∙ c.integer.ensures ∙ ap pos is in
    let all = c.totals.ensures ∙ ap₂ (λ us xs. map (λ u. pos (total_to us xs u 32)) users) fros_is out ∙ totals_are c.requires is a.out.now in
    (ap₂ (λ z l. z ∷ l) nsl all, out ∙ ap (λ l. placed l a.out.now) (shares_are c.requires is))
