use Prim.Native.Nat.{◌+◌, ◌*◌}
use native.Mathlib.Nat.{add-zero}
use lib.IntN.{pos}
use lib.ListN.{get_or}
use lib.Seq.{get_or-drop}
use mir.Facts.{to_z-of_z}
use mir.Syntax.{w64}
use borrow.Author.Rules.{rules}
use Rattle.trial.proofs.notice_at.Goals as goal

-- each number is read as the machine holds it
pub returns : goal.returns
returns c =
    let xs = c.args.notices.now in
    let at = 6 * c.args.k in
    let mirn = to_z-of_z {w = w64} {z = get_or xs at (pos 0)} (search rules) in
    let start = to_z-of_z {w = w64} {z = get_or xs (at + 1) (pos 0)} (search rules) in
    let end = to_z-of_z {w = w64} {z = get_or xs (at + 2) (pos 0)} (search rules) in
    let energy = to_z-of_z {w = w64} {z = get_or xs (at + 3) (pos 0)} (search rules) in
    let type = to_z-of_z {w = w64} {z = get_or xs (at + 4) (pos 0)} (search rules) in
    let confirmed = to_z-of_z {w = w64} {z = get_or xs (at + 5) (pos 0)} (search rules) in
    simp (get_or-drop, add-zero) (rw (mirn, start, end, energy, type, confirmed))
