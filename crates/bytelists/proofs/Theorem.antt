-- The claim about every list of calls through the hub. Assumes nothing.
use mathlib.Core.Path.{◌≡◌, refl, sym, ◌∙◌, ap, ap₂}
use mathlib.Core.Bool.{Bool, true, false, cond}
use mathlib.Core.List.{List, [], ◌∷◌}
use Prim.Native.Nat.{ℕ, ◌*◌, ◌<◌}
use native.Mathlib.Omega.{arith}
use lib.Dec.{leb}
use lib.IntN.{ℤ, pos}
use lib.ListN.{length}
use Rattle.numbers.specs.Naturals.{nat_of, same_z}
use Rattle.daybook.specs.declared.Opening.{Opening}
use Rattle.daybook.specs.Notices.{opening}
use Rattle.daybook.specs.Editions.{Editions}
use Rattle.daybook.specs.Calls.{Call, Answer, noted, State, step}
use Rattle.layout.specs.Layout.{BothFit}
use Rattle.buffers.specs.Buffers.{with_numbers, replied, written}
use Rattle.history.specs.Runs.{fresh_state}
use Rattle.history.specs.Promise.{refusal_in, Reserved, ReservesFit}
use Rattle.history.proofs.Promise.{fresh_covers, Covers, covered_step, book_refusal, reserved_covered}
use Rattle.history.proofs.Theorem.{stands_agrees}
use Rattle.bytelists.specs.ByteLists.{petlumas_open, hub_notice, LentCall, Reply, notice_in, call_in, LentBytes, byte_step, byte_run, replies, book_step, book_run, book_replies}
use Rattle.bytelists.specs.Claim.{EveryHubList}
use Rattle.bytelists.proofs.Steps.{Holds, Follows, call_follows}
use Rattle.bytelists.proofs.Begins.{fresh_holds}

-- A list of calls on bytes that stand for a state is the list on the state.
run_follows : (E : Editions) → BothFit E → (hs : List LentCall) (L : LentBytes) (S : State) → Holds E L S
    → Holds E (byte_run E hs L) (book_run E hs S) × (replies E hs L ≡ book_replies E hs S)
unfolding byte_run book_run replies book_replies
run_follows E fit [] L S r = (r, refl)
run_follows E fit (h ∷ hs) L S r =
    let f : Follows E _ (book_step E h.call h.second h.answer S) = call_follows E fit h.call h.second h.answer L S r in
    let (held, same) = run_follows E fit hs _ _ f.holds in
    (held, ap₂ ◌∷◌ f.reply same)

-- ---- the reserves

-- the points left cover the reserves, be a call's answer buffer too short or not
module _ (E : Editions) (fit0 : ReservesFit E.standard) (fit1 : ReservesFit E.long) where
  covered_run : (hs : List LentCall) (S : State) → Covers S → Covers (book_run E hs S)
  unfolding book_run book_step
  covered_run [] S k = k
  covered_run (h ∷ hs) S k =
      go (leb (8 * length (step E c S).0.0) (length h.answer))
      (covered_run hs (step E c S).1 (covered_step E fit0 fit1 c S k)) (covered_run hs S k)
    where
      c : Call
      c = call_in h.call h.second

      go : (b : Bool) → Covers (book_run E hs (step E c S).1) → Covers (book_run E hs S) → Covers (book_run E hs (cond b (step E c S).1 S))
      go true x y = x
      go false x y = y

-- what is returned above 2 is the book's refusal
returned_is : (a : Answer) (second answer : List ℕ) (m : ℕ) → 2 < m → (written a second answer).0 ≡ pos m → refusal_in a.0 ≡ pos m
unfolding written replied
returned_is a second answer m h e = go (leb (8 * length a.0) (length answer)) (same_z (refusal_in a.0) (pos 1)) e
  where
    go : (was one : Bool) → (cond {A = ℤ × List ℕ} was (refusal_in a.0, with_numbers a.0 answer) (cond one (pos 1) (pos 2), answer)).0 ≡ pos m
        → refusal_in a.0 ≡ pos m
    go true one e = e
    go false true e = let z : 1 ≡ m = ap nat_of e in absurd (omega arith)
    go false false e = let z : 2 ≡ m = ap nat_of e in absurd (omega arith)

reserved_bytes : (E : Editions) → BothFit E → (L : LentBytes) (S : State) → Holds E L S → Reserved S (book_refusal S) → (second answer : List ℕ)
    → Reserved S (λ n. (byte_step E (hub_notice (petlumas_open n)) second answer L).0.0)
unfolding book_step notice_in step noted
reserved_bytes E fit L S r kept second answer =
    record {
      never16 = λ n b e. kept.never16 n b (returned_is _ second answer 16 (omega arith) (sym (same n) ∙ e));
      never19 = λ n b e. kept.never19 n b (returned_is _ second answer 19 (omega arith) (sym (same n) ∙ e));
    }
  where
    same : (n : Opening) → (byte_step E (hub_notice (petlumas_open n)) second answer L).0.0 ≡ (written ((opening S.edition n S.book).0, []) second answer).0
    same n = ap (λ (r : Reply). r.0) (call_follows E fit (hub_notice (petlumas_open n)) second answer L S r).reply

pub every_hub_list : EveryHubList
every_hub_list E fit b₀ second answer n past returned hs =
    let (held, same) = run_follows E fit hs _ _ (fresh_holds E fit b₀ second answer n past returned) in
    let covered = covered_run E fit.standard.reserved fit.long.reserved hs (fresh_state E n) (fresh_covers E fit.standard.reserved fit.long.reserved n) in
    (stands_agrees E fit _ _ held.stands_for, same, reserved_bytes E fit _ _ held (reserved_covered _ covered))
