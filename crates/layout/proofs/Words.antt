-- Every number of a sound register fits 64 bits. Assumes nothing.
use mathlib.Core.Path.{◌≡◌, subst}
use mathlib.Core.Bool.{true}
use mathlib.Core.Option.{Option}
use mathlib.Core.List.{List, [], ◌∷◌, ◌++◌}
use Prim.Native.Nat.{ℕ, zero, suc, ◌-◌, ◌*◌, ◌≤◌}
use native.Mathlib.Omega.{arith}
use lib.Dec.{leb}
use lib.IntN.{ℤ, pos, negsuc}
use lib.ListN.{length, get_or, take, replicate}
use borrow.Author.Tests.{leb-true}
use mir.Syntax.{w64}
use mir.Val.{SFits}
use Rattle.numbers.proofs.Bools.{both}
use Rattle.calendar.specs.Calendar.{within}
use Rattle.daybook.specs.declared.Edition.{Edition}
use Rattle.daybook.specs.Book.{Entry, Pending}
use Rattle.lists.specs.Lists.{Lists, Register}
use Rattle.lists.specs.InnerWell.{Regs, noreg, reg, Spans, nospan, still, ended, Recs, norec, rec, PendingOk, nopending, pending, FactsOk, Well, Points, nopoint, point, WellFormed}
use Rattle.lists.proofs.Apart.{fits_le}
use Rattle.layout.specs.Layout.{table_length, Fits, pad, reg_numbers, off_numbers, rec_numbers, pending_or_zeros, head_numbers, point_numbers, points_numbers, layout}
use Rattle.layout.specs.Sound.{sound}
use Rattle.layout.proofs.TableSound.{sound_lays}
use Rattle.layout.proofs.SoundParts.{stride_small}

-- ---- lists of numbers that fit

pub data AllFit : List ℤ → Type 0 where
  nofit : AllFit []
  fit : {z : ℤ} {l : List ℤ} → SFits w64 z → AllFit l → AllFit (z ∷ l)

small : (n : ℕ) → n ≤ 9999999999 → SFits w64 (pos n)
small n h = record { sfits = omega arith }

small_below : (n : ℕ) → n ≤ 9999999999 → SFits w64 (negsuc n)
small_below n h = record { sfits = omega arith }

natural : (n : ℕ) {l : List ℤ} → n ≤ 9999999999 → AllFit l → AllFit (pos n ∷ l)
natural n h f = fit (small n h) f

pub fit_at : {l : List ℤ} → AllFit l → (i : ℕ) → SFits w64 (get_or l i (pos 0))
fit_at nofit i = small 0 (omega arith)
fit_at (fit f r) zero = f
fit_at (fit f r) (suc i) = fit_at r i

fit_append : {a b : List ℤ} → AllFit a → AllFit b → AllFit (a ++ b)
fit_append nofit g = g
fit_append (fit f r) g = fit f (fit_append r g)

fit_zeros : (n : ℕ) → AllFit (replicate n (pos 0))
fit_zeros zero = nofit
fit_zeros (suc n) = natural 0 (omega arith) (fit_zeros n)

fit_pad : (n : ℕ) {l : List ℤ} → AllFit l → AllFit (pad n l)
unfolding pad
fit_pad n {l} f = fit_append f (fit_zeros (n - length l))

within_fits : (lo hi : ℕ) (z : ℤ) → lo ≤ 9999999999 → hi ≤ 9999999999 → within (negsuc lo) (pos hi) z ≡ true → SFits w64 z
within_fits lo hi (pos n) h k e = small n (omega (arith, leb-true n hi e))
within_fits lo hi (negsuc n) h k e = small_below n (omega (arith, leb-true n lo (both (leb n lo) true e).0))

-- ---- the rows of a point

fit_regs : {u lo : ℕ} {l : List (ℕ × ℕ)} → Regs u lo l → AllFit (reg_numbers l)
unfolding reg_numbers
fit_regs noreg = nofit
fit_regs (reg {x = x} a b c d e r) = natural x.0 (omega arith) (natural x.1 (omega arith) (fit_regs r))

fit_spans : {lo : ℕ} {l : List (ℕ × Option ℕ)} → Spans lo l → AllFit (off_numbers l)
unfolding off_numbers
fit_spans nospan = nofit
fit_spans (still {off = off} a b) = natural off (omega arith) (fit (small_below 0 (omega arith)) nofit)
fit_spans (ended {off = off} {on = on} a b c r) = natural off (omega arith) (natural on (omega arith) (fit_spans r))

fit_recs : {kind : ℕ} {offs : List (ℕ × Option ℕ)} {from : ℕ} {l : List Entry} → Recs kind offs from l → AllFit (rec_numbers l)
unfolding rec_numbers
fit_recs norec = nofit
fit_recs {kind} (rec {x = x} s k e w t o r) =
    let h : x.start ≤ x.end = fits_le kind x.start x.end k in
    natural x.start (omega arith) (natural x.end (omega arith)
    (fit (within_fits 999999 1000000 x.energy (omega arith) (omega arith) w) (natural x.type (omega arith) (fit_recs r))))

-- The three numbers of a pending request, with others behind them.
fit_pending : {regs : List (ℕ × ℕ)} {o : Option Pending} → PendingOk regs o → {l : List ℤ} → AllFit l
    → AllFit (pos (pending_or_zeros o).user ∷ pos (pending_or_zeros o).first ∷ pos (pending_or_zeros o).last ∷ l)
fit_pending nopending f = natural 0 (omega arith) (natural 0 (omega arith) (natural 0 (omega arith) f))
fit_pending (pending {q = q} a b c d e g) f =
    natural q.user (omega arith) (natural q.first (omega arith) (natural q.last (omega arith) f))

module _ (room : ℕ) (h : room ≤ 9999999999) where
  fit_point : {q : Lists} → Well room q → AllFit (point_numbers room q)
  unfolding point_numbers head_numbers
  fit_point {q} w =
      fit_append head (fit_append (fit_pad 16 (fit_regs w.regs_ok)) (fit_append (fit_pad 16 (fit_spans w.offs_ok)) (fit_pad (4 * room) (fit_recs w.recs_ok))))
    where
      head : AllFit (head_numbers q)
      head =
          let f : FactsOk q.facts = w.facts_ok in
          natural q.facts.mirn (omega arith) (natural q.facts.kind (omega arith) (natural q.facts.install (omega arith)
          (natural q.facts.base (omega arith) (natural (length q.regs) (omega (arith, w.regs_few))
          (natural (length q.offs) (omega (arith, w.offs_few)) (natural (length q.recs) (omega (arith, w.recs_few))
          (fit_pending w.pending_ok (natural q.facts.section (omega arith)
          (natural q.facts.operator (omega arith) (fit_zeros 4))))))))))

  fit_points : {qs : List Lists} → Points room qs → AllFit (points_numbers room qs)
  unfolding points_numbers
  fit_points nopoint = nofit
  fit_points (point w d r) = fit_append (fit_point w) (fit_points r)

-- ---- the register

module _ (ed : Edition) (f : Fits ed) where
  fit_layout : {R : Register} → WellFormed ed R → AllFit (layout ed R)
  unfolding layout
  fit_layout {R} ok =
      fit_pad table_length (fit_append
      (fit_pad 8 (natural (length R.points) (omega (arith, ok.points_few, f.few)) (fit (range R.nondaily ok.nondaily_ok) (fit (range R.daily ok.daily_ok) (natural ed.number (omega (arith, f.numbered)) nofit)))))
      (fit_points ed.records (omega (arith, stride_small ed f)) ok.points_ok))
    where
      range : (z : ℤ) → within (negsuc 0) (pos 1000000) z ≡ true → SFits w64 z
      range z e = within_fits 0 1000000 z (omega arith) (omega arith) e

  pub sound_fits : (t : List ℤ) → sound ed t ≡ true → AllFit (take table_length t)
  sound_fits t s = let (ok, is) = sound_lays ed f t s in subst AllFit is (fit_layout ok)
