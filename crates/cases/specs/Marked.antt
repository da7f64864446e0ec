-- The marked cases of document 01: one list, in its order and under its words, a field each. The shares of an entry and
-- User 1's account over 1–5 are document 02's (f).
use Rattle.std.specs.Prelude.{◌≡◌, List, [], ◌∷◌, map, pos, negsuc, take, drop}
use mathlib.Core.Option.{some}
use Rattle.numbers.specs.Shares.{share}
use Rattle.calendar.specs.Calendar.{date_call, allowable_period}
use Rattle.daybook.specs.Notices.{Numbers}
use Rattle.daybook.specs.Queries.{split}
use Rattle.daybook.specs.Editions.{editions}
use Rattle.daybook.specs.Calls.{Call}
use Rattle.cases.specs.Journal.{Fresh, Open, Energy, Request, Account, answers_in, naturals}

-- Fresh (-1, -1); open kind 0, User 1, install 1; energy 1–3: 10; request User 2, proposed 14; energy 4–6: -10
-- registers User 2 from 7; energy 7–10: 5. Then the accounts, the recut and what follows it.
abbrev pub story : List Call
story =
    Fresh (negsuc 0) (negsuc 0)
    ∷ Open 7 0 1 1 (negsuc 0)
    ∷ Energy 7 1 3 (pos 10)
    ∷ Request 7 2 14 []
    ∷ Energy 7 4 6 (negsuc 9)
    ∷ Energy 7 7 10 (pos 5)
    ∷ Account 1 1 10
    ∷ Account 1 1 5
    ∷ Account 2 8 9
    ∷ Energy 7 4 5 (pos 8)
    ∷ Account 1 1 10
    ∷ Account 2 1 10
    ∷ Energy 7 7 9 (pos 1)
    ∷ Energy 7 6 9 (pos 1)
    ∷ []

-- Up to the accounts.
abbrev pub accounts_answers : List Numbers
accounts_answers =
    naturals
    ((0 ∷ [])
    ∷ (0 ∷ [])
    ∷ (0 ∷ 1 ∷ 0 ∷ 0 ∷ 0 ∷ [])
    ∷ (0 ∷ 0 ∷ 28 ∷ [])
    ∷ (0 ∷ 1 ∷ 0 ∷ 2 ∷ 0 ∷ [])
    ∷ (0 ∷ 1 ∷ 0 ∷ 0 ∷ 0 ∷ [])
    ∷ (0 ∷ 0 ∷ [])
    ∷ (0 ∷ 4 ∷ [])
    ∷ (0 ∷ 2 ∷ [])
    ∷ [])

-- From the recut on.
abbrev pub recut_answers : List Numbers
recut_answers =
    naturals
    ((0 ∷ 3 ∷ 1 ∷ 0 ∷ 0 ∷ [])
    ∷ (0 ∷ 18 ∷ [])
    ∷ (0 ∷ 0 ∷ [])
    ∷ (7 ∷ 0 ∷ 0 ∷ 0 ∷ 0 ∷ [])
    ∷ (0 ∷ 1 ∷ 0 ∷ 0 ∷ 0 ∷ [])
    ∷ [])

pub record Marked : Type 0 where
  -- ● 10 over 3 days: 4, 3, 3.
  pub ten : map (share (pos 10) 3) (0 ∷ 1 ∷ 2 ∷ []) ≡ pos 4 ∷ pos 3 ∷ pos 3 ∷ []
  -- ● -10 over 3: -3, -3, -4.
  pub minus_ten : map (share (negsuc 9) 3) (0 ∷ 1 ∷ 2 ∷ []) ≡ negsuc 2 ∷ negsuc 2 ∷ negsuc 3 ∷ []
  -- ● 1 over 2: 1, 0.
  pub one : map (share (pos 1) 2) (0 ∷ 1 ∷ []) ≡ pos 1 ∷ pos 0 ∷ []
  -- ● 26 January 1970 is day 25;
  pub january : date_call (pos 1970) (pos 1) (pos 26) ≡ pos 0 ∷ pos 25 ∷ []
  -- ● 29 February 2000 is 11,016.
  pub february : date_call (pos 2000) (pos 2) (pos 29) ≡ pos 0 ∷ pos 11016 ∷ []
  -- ● No holidays, proposed 25 (Monday): 11 to 39;
  pub monday : allowable_period [] 25 0 ≡ some (11, 39)
  -- ● with no-change 19 to 39;
  pub no_change : allowable_period [] 25 1 ≡ some (19, 39)
  -- ● the same with day 19 a holiday: 18 to 39.
  pub holiday : allowable_period (pos 19 ∷ []) 25 1 ≡ some (18, 39)
  -- ● Proposed 23 (Saturday): 11 to 36.
  pub saturday : allowable_period [] 23 0 ≡ some (11, 36)
  -- ● Proposed 14: 0 to 28.
  pub first_day : allowable_period [] 14 0 ≡ some (0, 28)
  -- ● Account of User 1 over 1–10 is 0, over 1–5 is 4; of User 2 over 8–9 is 2.
  pub accounts : take 9 (answers_in editions story) ≡ accounts_answers
  -- ● Energy 4–5: 8 removes one; User 1 over 1–10 is 18, User 2 has 0; the next append day is 6, a start at 7 gets 7.
  pub recut : drop 9 (answers_in editions story) ≡ recut_answers
  -- ● T 1, 1, 1 and NSL 10: 3, 3, 4.
  pub thirds : split 10 3 0 (1 ∷ 1 ∷ 1 ∷ []) ≡ pos 3 ∷ pos 3 ∷ pos 4 ∷ []
