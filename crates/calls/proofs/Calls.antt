-- A call's numbers as the code has them, and a call without an answer table. Assumes nothing.
use mathlib.Core.Path.{◌≡◌, refl, sym, ap}
use mathlib.Core.List.{List, []}
use Prim.Native.Nat.{ℕ, ◌/◌}
use lib.IntN.{ℤ, pos}
use lib.ListN.{length}
use mir.Facts.{to_z-of_z}
use mir.Syntax.{w64}
use mir.Val.{to_z, of_z, SFits}
use Rattle.numbers.specs.Naturals.{same_z}
use Rattle.numbers.proofs.Bools.{cond_same}
use Rattle.words.specs.Tables.{encoded_into}
use Rattle.daybook.specs.Notices.{Numbers}
use Rattle.buffers.specs.Buffers.{table_in, numbers_held, with_numbers, replied, written}
use Rattle.journal.specs.declared.NoticeWord.{NoticeWord}
use Rattle.journal.specs.declared.NoticeWord.TheVariants.{Fresh, Open, Energy, Status, Transfer}
use Rattle.journal.specs.declared.TransferWord.TheVariants.{Request, Withdraw, Correct}
use Rattle.journal.specs.declared.QueryWord.{QueryWord}
use Rattle.journal.specs.declared.QueryWord.TheVariants.{Account, Allocate, Date}
use Rattle.journal.specs.declared.CallWord.{CallWord}
use Rattle.journal.specs.declared.CallWord.TheVariants as Call·
use Rattle.calls.specs.Calls.{noticed, asked, Left, called}
use Rattle.calls.specs.InnerCalls.{seven_of}

pub seven_noticed : (n : NoticeWord) (t xs list : List ℤ) → noticed n t (seven_of xs) list ≡ noticed n t xs list
seven_noticed Fresh t xs list = refl
seven_noticed Open t xs list = refl
seven_noticed Energy t xs list = refl
seven_noticed Status t xs list = refl
seven_noticed (Transfer Request) t xs list = refl
seven_noticed (Transfer Withdraw) t xs list = refl
seven_noticed (Transfer Correct) t xs list = refl

pub seven_asked : (q : QueryWord) (t xs : List ℤ) (room : ℕ) → asked q t (seven_of xs) room ≡ asked q t xs room
seven_asked Account t xs room = refl
seven_asked Allocate t xs room = refl
seven_asked Date t xs room = refl

-- a signed number is read back from its bits
pub back : (z : ℤ) → SFits w64 z → to_z w64 (of_z w64 z) ≡ z
back z f = to_z-of_z f

-- a call that has no numbers for an answer table leaves it
pub table_kept : (ns : Numbers) (r : ℤ) (table answer answer' : List ℕ) → (r, answer') ≡ replied ns answer → (r, (table, answer')) ≡ written (ns, []) table answer
unfolding written with_numbers encoded_into
table_kept ns r table answer answer' e = rw (← e, cond_same (same_z r (pos 0)) table)

-- ---- from the exported functions to what a call leaves

abbrev after_notice : List ℕ → ℤ × (List ℕ × List ℕ) → Left
after_notice table w = record { result = w.0; register = w.1.0; answer = w.1.1; table = table }

abbrev after_query : List ℕ → ℤ × (List ℕ × List ℕ) → Left
after_query register w = record { result = w.0; register = register; answer = w.1.1; table = w.1.0 }

module _ (xs : List ℤ) (seven : List ℤ) (list register answer table : List ℕ) {w : ℤ × (List ℕ × List ℕ)} (e : seven ≡ seven_of xs) where
  pub notice_left : {call : CallWord} {n : NoticeWord} → call ≡ Call·.Notice n → w ≡ written (noticed n (table_in register) seven (numbers_held list)) register answer → called call xs list register answer table ≡ after_notice table w
  notice_left {n = n} t h = rw t (ap (after_notice table) (sym (rw (e, seven_noticed n (table_in register) xs (numbers_held list)) at h)))

  pub query_left : {call : CallWord} {q : QueryWord} → call ≡ Call·.Query q → w ≡ written (asked q (table_in register) seven (length table / 8)) table answer → called call xs list register answer table ≡ after_query register w
  query_left {q = q} t h = rw t (ap (after_query register) (sym (rw (e, seven_asked q (table_in register) xs (length table / 8)) at h)))
