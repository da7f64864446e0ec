use Rattle.std.proofs.Common.{◌+◌, ◌≤◌, length, sym, ap, ◌∙◌, arith, rules}
use Rattle.printing.proofs.Rows.{signed_fits, plain_fits, signed_is, plain_is}
use Rattle.printing.proofs.append_number.Goals.{then-is_negative, else-is_negative}
use Rattle.printing.proofs.append_number.Goals as goal

pub unwrap-requires : goal.unwrap-requires
unwrap-requires g c =
    let x = g.T.Number.value c.args.x in
    let before = c.args.bytes.now.items in
    let u = c.if-is_negative.bytes.items in
    let digits = c.as_bytes.result.now in
    let n = c.amount in
    let e = c.as_bytes.ensures.value ∙ c.format.ensures.text in
    let fits : length u + length digits ≤ length before + 20 = elim c.if-is_negative.branch [
      | then-is_negative w ↦ signed_fits x n.result before u digits n.ensures.amount e (n.ensures.bound (sym c.is_negative.ensures ∙ w.if-is_negative.true)) (ap (λ s. s.items) w.bytes-is ∙ w.push.ensures.items)
      | else-is_negative w ↦ plain_fits x n.result before u digits n.ensures.amount e (search rules) (ap (λ s. s.items) w.bytes-is)
    ] in
    c.try_extend_from_slice.ensures.variant.1 (omega (arith, fits, c.requires))

pub returns-clause-text : goal.returns-clause-text
returns-clause-text g c =
    let x = g.T.Number.value c.args.x in
    let before = c.args.bytes.now.items in
    let u = c.if-is_negative.bytes.items in
    let digits = c.as_bytes.result.now in
    let n = c.amount in
    let e = c.as_bytes.ensures.value ∙ c.format.ensures.text in
    let whole = rw c.unwrap.ensures at c.try_extend_from_slice.ensures.ok in
    whole ∙ elim c.if-is_negative.branch [
      | then-is_negative w ↦ signed_is x n.result before u digits n.ensures.amount e (search rules) (sym c.is_negative.ensures ∙ w.if-is_negative.true) (ap (λ s. s.items) w.bytes-is ∙ w.push.ensures.items)
      | else-is_negative w ↦ plain_is x n.result before u digits n.ensures.amount e (search rules) (sym c.is_negative.ensures ∙ w.if-is_negative.false) (ap (λ s. s.items) w.bytes-is)
    ]

pub returns-clause-room : goal.returns-clause-room
returns-clause-room g c =
    let x = g.T.Number.value c.args.x in
    let before = c.args.bytes.now.items in
    let u = c.if-is_negative.bytes.items in
    let digits = c.as_bytes.result.now in
    let n = c.amount in
    let e = c.as_bytes.ensures.value ∙ c.format.ensures.text in
    let fits : length u + length digits ≤ length before + 20 = elim c.if-is_negative.branch [
      | then-is_negative w ↦ signed_fits x n.result before u digits n.ensures.amount e (n.ensures.bound (sym c.is_negative.ensures ∙ w.if-is_negative.true)) (ap (λ s. s.items) w.bytes-is ∙ w.push.ensures.items)
      | else-is_negative w ↦ plain_fits x n.result before u digits n.ensures.amount e (search rules) (ap (λ s. s.items) w.bytes-is)
    ] in
    let more = rw c.unwrap.ensures at c.try_extend_from_slice.ensures.len in
    omega (arith, fits, more)
