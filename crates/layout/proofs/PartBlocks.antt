-- A point's part as four blocks: its head, and its registrations, off spans and records as numbers. Assumes nothing.
use mathlib.Core.Path.{◌≡◌, refl, sym, ◌∙◌, ap}
use mathlib.Core.Option.{Option}
use mathlib.Core.List.{List, [], ◌∷◌, ◌++◌, append_assoc, append-nil}
use Prim.Native.Nat.{ℕ, ◌+◌, ◌*◌, ◌≤◌}
use native.Mathlib.Omega.{arith}
use lib.ListN.{length, length-append}
use lib.IntN.{ℤ, pos}
use Rattle.daybook.specs.Book.{Entry, Pending}
use Rattle.lists.specs.Lists.{Lists}
use Rattle.lists.specs.InnerSteps.{with_regs, with_offs, with_pending_lists}
use Rattle.layout.specs.Layout.{pad, reg_numbers, on_number, off_numbers, rec_numbers}
use Rattle.layout.specs.Sound.{with_recs}
use Rattle.layout.proofs.Numbers.{length_pad, length_reg_numbers, length_off_numbers, length_rec_numbers, Few}

-- ---- changed lists that still fit

module _ {room : ℕ} {q : Lists} where
  pub few_recs_lem : Few room q → (l : List Entry) → length l ≤ room → Few room (with_recs l q)
  unfolding with_recs
  few_recs_lem f l h = record { regs = f.regs; offs = f.offs; recs = h }

  pub few_regs_lem : Few room q → (l : List (ℕ × ℕ)) → length l ≤ 8 → Few room (with_regs l q)
  unfolding with_regs
  few_regs_lem f l h = record { regs = h; offs = f.offs; recs = f.recs }

  pub few_offs_lem : Few room q → (l : List (ℕ × Option ℕ)) → length l ≤ 8 → Few room (with_offs l q)
  unfolding with_offs
  few_offs_lem f l h = record { regs = f.regs; offs = h; recs = f.recs }

  pub few_pending : Few room q → (o : Option Pending) → Few room (with_pending_lists o q)
  unfolding with_pending_lists
  few_pending f o = record { regs = f.regs; offs = f.offs; recs = f.recs }

-- ---- rows as numbers

abbrev pub record_row : Entry → List ℤ
record_row x = pos x.start ∷ pos x.end ∷ x.energy ∷ pos x.type ∷ []

pub recs_append : (a b : List Entry) → rec_numbers (a ++ b) ≡ rec_numbers a ++ rec_numbers b
unfolding rec_numbers
recs_append [] b = refl
recs_append (x ∷ a) b = ap (λ t. record_row x ++ t) (recs_append a b)

pub regs_append : (a b : List (ℕ × ℕ)) → reg_numbers (a ++ b) ≡ reg_numbers a ++ reg_numbers b
unfolding reg_numbers
regs_append [] b = refl
regs_append (x ∷ a) b = ap (λ t. pos x.0 ∷ pos x.1 ∷ t) (regs_append a b)

pub offs_append : (a b : List (ℕ × Option ℕ)) → off_numbers (a ++ b) ≡ off_numbers a ++ off_numbers b
unfolding off_numbers
offs_append [] b = refl
offs_append (x ∷ a) b = ap (λ t. pos x.0 ∷ on_number x.1 ∷ t) (offs_append a b)

-- one more at the end
pub snoc_length : {A : Type 0} (l : List A) (x : A) → length (l ++ (x ∷ [])) ≡ length l + 1
snoc_length l x = length-append l (x ∷ [])

-- ---- a part cut before its off spans, and before its records, for any sixteen numbers h in front

module _ (room : ℕ) (q : Lists) (f : Few room q) where
  abbrev pub regs_block : List ℤ
  regs_block = pad 16 (reg_numbers q.regs)

  abbrev pub offs_block : List ℤ
  offs_block = pad 16 (off_numbers q.offs)

  abbrev pub recs_block : List ℤ
  recs_block = pad (4 * room) (rec_numbers q.recs)

  pub regs_block_lem : length regs_block ≡ 16
  regs_block_lem = length_pad 16 _ (omega (arith, f.regs, length_reg_numbers q.regs))

  pub offs_block_lem : length offs_block ≡ 16
  offs_block_lem = length_pad 16 _ (omega (arith, f.offs, length_off_numbers q.offs))

  pub recs_block_lem : length recs_block ≡ 4 * room
  recs_block_lem = length_pad (4 * room) _ (omega (arith, f.recs, length_rec_numbers q.recs))

  pub before_offs : (h : List ℤ) → length h ≡ 16 → length (h ++ regs_block) ≡ 32
  before_offs h e = length-append h regs_block ∙ omega (arith, regs_block_lem)

  pub before_recs : (h : List ℤ) → length h ≡ 16 → length (h ++ (regs_block ++ offs_block)) ≡ 48
  before_recs h e =
      length-append h (regs_block ++ offs_block) ∙ omega (arith, length-append regs_block offs_block, regs_block_lem, offs_block_lem)

  pub cut_recs : (h r : List ℤ) → h ++ (regs_block ++ (offs_block ++ r)) ≡ (h ++ (regs_block ++ offs_block)) ++ (r ++ [])
  cut_recs h r = sym (ap (λ t. (h ++ (regs_block ++ offs_block)) ++ t) (append-nil r) ∙ simp append_assoc)
