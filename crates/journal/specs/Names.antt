-- What a word asks for.
use Rattle.std.specs.Prelude.{Bool, true, false, ◌&&◌, List, [], ◌∷◌, ℕ, eqb}
use Rattle.journal.specs.declared.NoticeWord.{NoticeWord}
use Rattle.journal.specs.declared.NoticeWord.TheVariants as Notice·
use Rattle.journal.specs.declared.TransferWord.{TransferWord}
use Rattle.journal.specs.declared.TransferWord.TheVariants as Transfer·
use Rattle.journal.specs.declared.QueryWord.{QueryWord}
use Rattle.journal.specs.declared.QueryWord.TheVariants as Query·
use Rattle.journal.specs.declared.CallWord.TheVariants as Call·
use Rattle.journal.specs.declared.ImageWord.{ImageWord}
use Rattle.journal.specs.declared.ImageWord.TheVariants as Image·
use Rattle.journal.specs.declared.Command.{Command}
use Rattle.journal.specs.declared.Command.TheVariants.{Call, Look, Table, Poke, Lend, Room, Hub, Unknown, Image, Convert, Trial}

unfoldable pub same_bytes : List ℕ → List ℕ → Bool
same_bytes [] [] = true
same_bytes [] (b ∷ t) = false
same_bytes (a ∷ s) [] = false
same_bytes (a ∷ s) (b ∷ t) = eqb a b && same_bytes s t

abbrev pub pick : Bool → Command → Command → Command
pick true a b = a
pick false a b = b

-- The rows below: what a word asks for if it is the name, else what the rows under it say.
abbrev pub notice : List ℕ → List ℕ → NoticeWord → Command → Command
notice w name is other = pick (same_bytes w name) (Call (Call·.Notice is)) other

abbrev pub transfer : List ℕ → List ℕ → TransferWord → Command → Command
transfer w name is other = notice w name (Notice·.Transfer is) other

abbrev pub query : List ℕ → List ℕ → QueryWord → Command → Command
query w name is other = pick (same_bytes w name) (Call (Call·.Query is)) other

abbrev pub image : List ℕ → List ℕ → ImageWord → Command → Command
image w name is other = pick (same_bytes w name) (Image is) other

-- correct, withdraw, request
abbrev pub transfer_or : List ℕ → Command → Command
transfer_or w other =
    (transfer w (99 ∷ 111 ∷ 114 ∷ 114 ∷ 101 ∷ 99 ∷ 116 ∷ []) Transfer·.Correct
    (transfer w (119 ∷ 105 ∷ 116 ∷ 104 ∷ 100 ∷ 114 ∷ 97 ∷ 119 ∷ []) Transfer·.Withdraw
    (transfer w (114 ∷ 101 ∷ 113 ∷ 117 ∷ 101 ∷ 115 ∷ 116 ∷ []) Transfer·.Request
    other)))

-- status, energy, open, fresh
abbrev pub notice_or : List ℕ → Command → Command
notice_or w other =
    (notice w (115 ∷ 116 ∷ 97 ∷ 116 ∷ 117 ∷ 115 ∷ []) Notice·.Status
    (notice w (101 ∷ 110 ∷ 101 ∷ 114 ∷ 103 ∷ 121 ∷ []) Notice·.Energy
    (notice w (111 ∷ 112 ∷ 101 ∷ 110 ∷ []) Notice·.Open
    (notice w (102 ∷ 114 ∷ 101 ∷ 115 ∷ 104 ∷ []) Notice·.Fresh
    other))))

-- date, allocate, account
abbrev pub query_or : List ℕ → Command → Command
query_or w other =
    (query w (100 ∷ 97 ∷ 116 ∷ 101 ∷ []) Query·.Date
    (query w (97 ∷ 108 ∷ 108 ∷ 111 ∷ 99 ∷ 97 ∷ 116 ∷ 101 ∷ []) Query·.Allocate
    (query w (97 ∷ 99 ∷ 99 ∷ 111 ∷ 117 ∷ 110 ∷ 116 ∷ []) Query·.Account
    other)))

-- image, imgpoke, restore, save
abbrev pub image_or : List ℕ → Command → Command
image_or w other =
    (image w (105 ∷ 109 ∷ 97 ∷ 103 ∷ 101 ∷ []) Image·.Sums
    (image w (105 ∷ 109 ∷ 103 ∷ 112 ∷ 111 ∷ 107 ∷ 101 ∷ []) Image·.Poke
    (image w (114 ∷ 101 ∷ 115 ∷ 116 ∷ 111 ∷ 114 ∷ 101 ∷ []) Image·.Restore
    (image w (115 ∷ 97 ∷ 118 ∷ 101 ∷ []) Image·.Save
    other))))

-- a transfer, another notice, a query, a line on images; trial, convert, hub, alen, tlen, poke, table, look
unfoldable pub command_named : List ℕ → Command
command_named w =
    transfer_or w
    (notice_or w
    (query_or w
    (image_or w
    (pick (same_bytes w (116 ∷ 114 ∷ 105 ∷ 97 ∷ 108 ∷ [])) Trial
    (pick (same_bytes w (99 ∷ 111 ∷ 110 ∷ 118 ∷ 101 ∷ 114 ∷ 116 ∷ [])) Convert
    (pick (same_bytes w (104 ∷ 117 ∷ 98 ∷ [])) Hub
    (pick (same_bytes w (97 ∷ 108 ∷ 101 ∷ 110 ∷ [])) Room
    (pick (same_bytes w (116 ∷ 108 ∷ 101 ∷ 110 ∷ [])) Lend
    (pick (same_bytes w (112 ∷ 111 ∷ 107 ∷ 101 ∷ [])) Poke
    (pick (same_bytes w (116 ∷ 97 ∷ 98 ∷ 108 ∷ 101 ∷ [])) Table
    (pick (same_bytes w (108 ∷ 111 ∷ 111 ∷ 107 ∷ [])) Look
    Unknown)))))))))))

-- energy, allocate, account: the words that may follow `hub`
unfoldable pub named_on_bytes : List ℕ → Command
named_on_bytes w =
    (notice w (101 ∷ 110 ∷ 101 ∷ 114 ∷ 103 ∷ 121 ∷ []) Notice·.Energy
    (query w (97 ∷ 108 ∷ 108 ∷ 111 ∷ 99 ∷ 97 ∷ 116 ∷ 101 ∷ []) Query·.Allocate
    (query w (97 ∷ 99 ∷ 99 ∷ 111 ∷ 117 ∷ 110 ∷ 116 ∷ []) Query·.Account
    Unknown)))
