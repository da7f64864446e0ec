-- The way back: a point's lists are read from its numbers, with whatever stands behind them. Assumes nothing.
use mathlib.Core.Path.{◌≡◌, refl, sym, ap, ap₂, ◌∙◌}
use mathlib.Core.Option.{Option, none, some}
use mathlib.Core.List.{List, [], ◌∷◌, ◌++◌, append_assoc, append-nil}
use Prim.Native.Nat.{ℕ, zero, suc, ◌*◌}
use native.Mathlib.Omega.{arith}
use lib.IntN.{ℤ}
use lib.ListN.{length, drop}
use lib.Seq.{drop-drop}
use Rattle.daybook.specs.Book.{Entry, Pending}
use Rattle.lists.specs.Lists.{Lists}
use Rattle.lists.specs.InnerWell.{PendingOk, nopending, pending, Well}
use Rattle.layout.specs.Layout.{pad, reg_numbers, on_number, off_numbers, rec_numbers, pending_or_zeros, head_numbers, point_numbers, regs_from, on_of, offs_from, recs_from, pending_from, point_from}
use Rattle.layout.proofs.Numbers.{drop_pad, length_reg_numbers, length_off_numbers}

regs_back : (l : List (ℕ × ℕ)) (t : List ℤ) → regs_from (length l) (reg_numbers l ++ t) ≡ l
unfolding regs_from reg_numbers
regs_back [] t = refl
regs_back (x ∷ l) t = ap (λ m. x ∷ m) (regs_back l t)

on_back : (o : Option ℕ) → on_of (on_number o) ≡ o
on_back none = refl
on_back (some d) = refl

offs_back : (l : List (ℕ × Option ℕ)) (t : List ℤ) → offs_from (length l) (off_numbers l ++ t) ≡ l
unfolding offs_from off_numbers
offs_back [] t = refl
offs_back (x ∷ l) t = ap₂ (λ o m. (x.0, o) ∷ m) (on_back x.1) (offs_back l t)

recs_back : (l : List Entry) (t : List ℤ) → recs_from (length l) (rec_numbers l ++ t) ≡ l
unfolding recs_from rec_numbers
recs_back [] t = refl
recs_back (x ∷ l) t = ap (λ m. x ∷ m) (recs_back l t)

pending_back : {regs : List (ℕ × ℕ)} {o : Option Pending} → PendingOk regs o → pending_from (pending_or_zeros o).user (pending_or_zeros o).first (pending_or_zeros o).last ≡ o
pending_back nopending = refl
pending_back (pending {q = q} a b c d e g) = named q.user refl
  where
    named : (u : ℕ) → u ≡ q.user → pending_from q.user q.first q.last ≡ some q
    named zero e = absurd (omega arith)
    named (suc u) e = ap (λ u. pending_from u q.first q.last) (sym e) ∙ ap (λ u. some (record { user = u; first = q.first; last = q.last })) e

module _ {room : ℕ} {q : Lists} (w : Well room q) (rest : List ℤ) where
  abbrev from_recs : List ℤ
  from_recs = pad (4 * room) (rec_numbers q.recs) ++ rest

  abbrev from_offs : List ℤ
  from_offs = pad 16 (off_numbers q.offs) ++ from_recs

  abbrev from_regs : List ℤ
  from_regs = pad 16 (reg_numbers q.regs) ++ from_offs

  drop16 : drop 16 (point_numbers room q ++ rest) ≡ from_regs
  unfolding point_numbers head_numbers
  drop16 = simp append_assoc

  drop32 : drop 32 (point_numbers room q ++ rest) ≡ from_offs
  drop32 =
      sym (drop-drop 16 16 (point_numbers room q ++ rest)) ∙ ap (drop 16) drop16
      ∙ drop_pad 16 (reg_numbers q.regs) from_offs (omega (arith, w.regs_few, length_reg_numbers q.regs))

  drop48 : drop 48 (point_numbers room q ++ rest) ≡ from_recs
  drop48 =
      sym (drop-drop 16 32 (point_numbers room q ++ rest)) ∙ ap (drop 16) drop32
      ∙ drop_pad 16 (off_numbers q.offs) from_recs (omega (arith, w.offs_few, length_off_numbers q.offs))

  regs_here : regs_from (length q.regs) from_regs ≡ q.regs
  unfolding pad
  regs_here = ap (regs_from (length q.regs)) (append_assoc (reg_numbers q.regs) _ _) ∙ regs_back q.regs _

  offs_here : offs_from (length q.offs) from_offs ≡ q.offs
  unfolding pad
  offs_here = ap (offs_from (length q.offs)) (append_assoc (off_numbers q.offs) _ _) ∙ offs_back q.offs _

  recs_here : recs_from (length q.recs) from_recs ≡ q.recs
  unfolding pad
  recs_here = ap (recs_from (length q.recs)) (append_assoc (rec_numbers q.recs) _ _) ∙ recs_back q.recs _

  pub point_back : point_from (point_numbers room q ++ rest) ≡ q
  unfolding point_from point_numbers head_numbers
  point_back = λ i.
      record {
        facts = q.facts;
        regs = (ap (regs_from (length q.regs)) drop16 ∙ regs_here) i;
        offs = (ap (offs_from (length q.offs)) drop32 ∙ offs_here) i;
        recs = (ap (recs_from (length q.recs)) drop48 ∙ recs_here) i;
        pending = pending_back w.pending_ok i;
      }

-- with nothing behind them
pub point_alone : {room : ℕ} {q : Lists} → Well room q → point_from (point_numbers room q) ≡ q
point_alone {room} {q} w = ap point_from (sym (append-nil (point_numbers room q))) ∙ point_back w []
