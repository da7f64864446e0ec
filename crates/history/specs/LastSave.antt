-- Document 02, d: in a list of calls an accepted restore takes the book back to the last accepted save of its number.
use Rattle.std.specs.Prelude.{◌≡◌, Bool, true, false, not, ◌&&◌, List, [], ◌∷◌, ℕ, ℤ, pos}
use Rattle.numbers.specs.Naturals.{same_z}
use Rattle.numbers.specs.Answers.{refused}
use Rattle.daybook.specs.Calls.{save!, restore!, Call, fresh!, notice!, query!, state!, convert!, State, stated, step, run}
use Rattle.daybook.specs.Editions.{Editions}

-- Is the call an accepted save of the number n?
abbrev pub saves : ℤ → Call → State → Bool
saves n (fresh! m) S = false
saves n (notice! c) S = false
saves n (query! q) S = false
saves n (state! (save! m lent)) S = same_z m n && not (refused (stated (save! m lent) S).0)
saves n (state! (restore! m lent)) S = false
saves n (convert! t) S = false

-- None of these calls, from the state S on, is one.
unfoldable pub no_save : Editions → ℤ → List Call → State → Bool
no_save E n [] S = true
no_save E n (c ∷ cs) S = not (saves n c S) && no_save E n cs (step E c S).1

-- An accepted save, calls of which none is an accepted save of the same number, and an accepted restore of that number:
-- the book is the one that was saved, in its edition. (Of tables and of the hub's bytes the claims about every list say
-- that they follow the book.)
abbrev pub BackToTheLastSave : Type 0
BackToTheLastSave =
    (E : Editions) (S : State) (n : ℤ) (lent lent' : ℕ) (cs : List Call) → saves n (state! (save! n lent)) S ≡ true
    → let T : State = (stated (save! n lent) S).1 in
    let U : State = run E cs T in
    no_save E n cs T ≡ true → (stated (restore! n lent') U).0 ≡ pos 0 ∷ []
    → ((stated (restore! n lent') U).1.edition ≡ S.edition) × ((stated (restore! n lent') U).1.book ≡ S.book)
