-- The claim about every list of calls through the hub.
use Rattle.std.specs.Prelude.{◌≡◌, List, ℕ, pos}
use Rattle.daybook.specs.declared.NewRegister.{NewRegister}
use Rattle.daybook.specs.Editions.{Editions}
use Rattle.daybook.specs.Calls.{State}
use Rattle.layout.specs.Layout.{BothFit}
use Rattle.history.specs.Runs.{fresh_state, zero_images}
use Rattle.history.specs.Agreement.{Agrees}
use Rattle.history.specs.Promise.{Reserved}
use Rattle.bytelists.specs.ByteLists.{petlumas_fresh, petlumas_open, hub_notice, LentCall, LentBytes, lent_in, byte_step, byte_run, replies, book_run, book_replies}

-- Take any two editions E that fit. Lend any bytes b₀ and any answer buffer to petlumas_fresh, with any numbers n. If
-- it returns 0, then lend the bytes that it left to any calls of the hub, one after the other, with any numbers and
-- with buffers of any bytes; after a petlumas_convert that returns 0 the bytes are those of its second buffer. And lend
-- an image of zero bytes for each state number to its saves and restores, and to nobody else. Of the table in the
-- register's bytes after the last call and the state of the day book given the same calls all that `Agrees` says holds.
-- Each call returns what the book's answer begins with, and leaves the bytes of the book's numbers in its answer buffer
-- and, for an allocation or a trial, in its answer table; the book decides a request by the holidays that its bytes
-- spell, and tries the notices that a trial's bytes spell. A call whose answer buffer is too short for the book's answer
-- returns 2, and leaves the book and its buffers as they were. And an operator that then holds fewer points than its
-- reserve gets neither 16 nor 19 from petlumas_open.
--
-- The calls here are definitions. The contracts of the hub's exported functions equate what each returns and leaves
-- with them, for every register, all numbers and buffers, where E is `editions`: petlumas_fresh, petlumas_open,
-- petlumas_energy, petlumas_status, petlumas_request, petlumas_withdraw, petlumas_correct, petlumas_allocate,
-- petlumas_trial, petlumas_restore and petlumas_convert with `written`, petlumas_account with `replied`, petlumas_save
-- with `written_bytes`. A request borrows its holidays, an account, an allocation, a trial, a save and a conversion the
-- register, a trial its notices, and a restore its image, without changing them.
abbrev pub EveryHubList : Type 0
EveryHubList =
    (E : Editions) → BothFit E → (b₀ second answer : List ℕ) (n : NewRegister) (past : ℕ → ℕ)
    → let L₀ : LentBytes = record { register = b₀; images = zero_images past } in
    (byte_step E (petlumas_fresh n) second answer L₀).0.0 ≡ pos 0
    → (hs : List LentCall)
    → let L : LentBytes = (byte_step E (petlumas_fresh n) second answer L₀).1 in
    let S : State = fresh_state E n in
    Agrees E (lent_in (byte_run E hs L)) (book_run E hs S) × (replies E hs L ≡ book_replies E hs S)
    × ((second answer : List ℕ)
    → Reserved (book_run E hs S) (λ m. (byte_step E (hub_notice (petlumas_open m)) second answer (byte_run E hs L)).0.0))
