-- Any notice: on a book of well-formed lists it is the lists' own step, which keeps them well-formed, and sent back it
-- leaves the book. Assumes nothing.
use mathlib.Core.Path.{◌≡◌, refl}
use mathlib.Core.Bool.{true, false≢true}
use Prim.Native.Nat.{ℕ, zero, suc}
use Rattle.numbers.specs.Answers.{refused}
use Rattle.daybook.specs.declared.Edition.{Edition}
use Rattle.daybook.specs.Book.{Book}
use Rattle.daybook.specs.Notices.{Numbers, decide, on_point, opening, energy, status, request, withdraw}
use Rattle.daybook.specs.Corrections.{correct}
use Rattle.daybook.specs.Calls.{Notice, open!, energy!, status!, request!, withdraw!, correct!, noted}
use Rattle.lists.specs.Lists.{Register, book_of}
use Rattle.lists.specs.InnerSteps.{with_offs, with_regs, with_pending_lists, entered_lists, enter_lists, energy_lists, status_lists, request_lists, withdraw_lists, corrected_lists, correct_lists_at, correct_lists, notice_lists}
use Rattle.lists.specs.InnerWell.{WellFormed}
use Rattle.lists.proofs.Operators.{OperatorsKept, on_lists_kept}
use Rattle.lists.proofs.OpenStep.{open_step, open_keeps, open_kept}
use Rattle.lists.proofs.EnergyStep.{energy_step, energy_keeps}
use Rattle.lists.proofs.StatusStep.{status_step, status_keeps}
use Rattle.lists.proofs.TransferStep.{request_step, request_keeps, withdraw_step, withdraw_keeps}
use Rattle.lists.proofs.CorrectStep.{correct_step, correct_keeps}

pub notice_step : (c : Notice) (ed : Edition) (R : Register) → WellFormed ed R
    → noted c ed (book_of R) ≡ ((notice_lists c ed R).0, book_of (notice_lists c ed R).1)
unfolding noted notice_lists
notice_step (open! n) ed R ok = open_step ed n R
notice_step (energy! n) ed R ok = energy_step ed n R ok
notice_step (status! n) ed R ok = status_step n R ok
notice_step (request! n holidays) ed R ok = request_step n holidays R ok
notice_step (withdraw! n) ed R ok = withdraw_step n R ok
notice_step (correct! n) ed R ok = correct_step n R ok

pub notice_keeps : (c : Notice) (ed : Edition) {R : Register} → WellFormed ed R → WellFormed ed (notice_lists c ed R).1
unfolding notice_lists
notice_keeps (open! n) ed ok = open_keeps ed n ok
notice_keeps (energy! n) ed ok = energy_keeps ed n ok
notice_keeps (status! n) ed ok = status_keeps n ok
notice_keeps (request! n holidays) ed ok = request_keeps n holidays ok
notice_keeps (withdraw! n) ed ok = withdraw_keeps n ok
notice_keeps (correct! n) ed ok = correct_keeps n ok

-- It leaves the operators of the points that were there as they stood, 0 too (document 02, g).
pub notice_kept : (c : Notice) (ed : Edition) (R : Register) → OperatorsKept R.points (notice_lists c ed R).1.points
unfolding notice_lists energy_lists enter_lists entered_lists status_lists request_lists withdraw_lists with_offs with_pending_lists correct_lists correct_lists_at corrected_lists with_regs
notice_kept (open! n) ed R = open_kept ed n R
notice_kept (energy! n) ed R = on_lists_kept 4 n.mirn _ _ _ (λ q. refl) R
notice_kept (status! n) ed R = on_lists_kept 0 n.mirn _ _ _ (λ q. refl) R
notice_kept (request! n holidays) ed R = on_lists_kept 2 n.mirn _ _ _ (λ q. refl) R
notice_kept (withdraw! n) ed R = on_lists_kept 0 n.mirn _ _ _ (λ q. refl) R
notice_kept (correct! n) ed R = on_lists_kept 16 n.mirn _ _ _ (λ q. refl) R

back : (r k : ℕ) (B : Book) (w : Numbers × Book) → refused (decide r k B w).0 ≡ true → (decide r k B w).1 ≡ B
unfolding decide
back zero k B w e = absurd (false≢true e)
back (suc r) k B w e = refl

pub notice_sent_back : (c : Notice) (ed : Edition) (B : Book) → refused (noted c ed B).0 ≡ true → (noted c ed B).1 ≡ B
unfolding noted opening energy status request withdraw correct on_point
notice_sent_back (open! n) ed B = back _ 0 B _
notice_sent_back (energy! n) ed B = back _ 4 B _
notice_sent_back (status! n) ed B = back _ 0 B _
notice_sent_back (request! n holidays) ed B = back _ 2 B _
notice_sent_back (withdraw! n) ed B = back _ 0 B _
notice_sent_back (correct! n) ed B = back _ 16 B _
