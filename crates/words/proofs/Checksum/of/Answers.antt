use Rattle.std.proofs.Common.{◌∙◌, ℕ, ap, rules}
use Rattle.words.specs.declared.Checksum.{Checksum}
use Rattle.words.specs.Sums.{sums_of, with_more}
use Rattle.words.proofs.Checks.{sums_fold}
use Rattle.words.proofs.Checksum.of.Goals as goal

pub returns : goal.returns
unfolding sums_of
returns g c =
    let r = c.fold.ensures.runs in
    let e = r.3 with_more (search rules) in
    let s = sums_fold r.0.items (record { s1 = 0; s2 = 0 }) in
    (r.0, r.1, r.2, (ap (λ (s : Checksum). s.s1) e ∙ ap (λ (p : ℕ × ℕ). p.0) s, ap (λ (s : Checksum). s.s2) e ∙ ap (λ (p : ℕ × ℕ). p.1) s))
