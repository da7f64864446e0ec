-- What is claimed of what a list of calls left and of the state that the day book is in after the same calls (demand 3).
use Rattle.std.specs.Prelude.{◌≡◌, true, false, List, [], ◌∷◌, ℕ, zero, suc, ◌≤◌, ◌<◌, eqb, ℤ, pos, ◌+ℤ◌, length, get_or, take, drop, replicate}
use mathlib.Core.Option.{Option, none, some}
use Rattle.numbers.specs.Naturals.{nat_of}
use Rattle.numbers.specs.Sums.{sum_from, sum_over}
use Rattle.numbers.specs.Answers.{refused}
use Rattle.daybook.specs.declared.Edition.{Edition}
use Rattle.daybook.specs.declared.AccountQuery.{AccountQuery}
use Rattle.daybook.specs.declared.AllocationQuery.{AllocationQuery}
use Rattle.daybook.specs.declared.EnergyNotice.{EnergyNotice}
use Rattle.daybook.specs.Book.{Entry, Point, Book, filled, latest, day_share}
use Rattle.daybook.specs.Notices.{Numbers, find}
use Rattle.daybook.specs.States.{image_length}
use Rattle.daybook.specs.Calls.{State}
use Rattle.daybook.specs.Queries.{sum_of, account_of, allocate}
use Rattle.daybook.specs.Editions.{Editions}
use Rattle.lists.specs.Lists.{covering}
use Rattle.layout.specs.Layout.{edition_in, part_of, point_from, table_book}
use Rattle.layout.specs.Sound.{sound}
use Rattle.energy.specs.Energy.{energy_call}
use Rattle.account.specs.Account.{account_call}
use Rattle.allocate.specs.Allocate.{allocate_call}
use Rattle.images.specs.Blocks.{with_image}
use Rattle.history.specs.Runs.{Lent}

-- Point i, in order of opening.
unfoldable pub point_no : ℕ → List Point → Option Point
point_no i [] = none
point_no zero (p ∷ ps) = some p
point_no (suc i) (p ∷ ps) = point_no i ps

-- User u's account over the days a to b, and the sum in its answer.
abbrev pub account_query : ℕ → ℕ → ℕ → AccountQuery
account_query u a b = record { user = pos u; from = pos a; to = pos b }

unfoldable pub account_from : Editions → List ℤ → ℕ → ℕ → ℕ → ℤ
account_from E t u a b = get_or (account_call E t (account_query u a b)) 1 (pos 0)

-- The net section load and the sixteen totals in an allocation's answer.
abbrev pub load_in : Numbers → ℤ
load_in l = get_or l 1 (pos 0)

abbrev pub totals_in : Numbers → Numbers
totals_in l = drop 2 l

abbrev pub added : List ℤ → ℤ
added l = sum_of (λ z. z) l

-- 2. On a filled day one User of 1 to 16 is FRO, and exactly one registration row of the table covers the day: it has
-- started by then and the next one, if any, has not. It is the FRO's.
pub record OneUser (ed : Edition) (t : List ℤ) (i : ℕ) (p : Point) (d : ℕ) : Type 0 where
  pub user_low : 1 ≤ p.fro d
  pub user_high : p.fro d ≤ 16
  pub since : ℕ
  pub started : since ≤ d
  pub one_row : covering d (point_from (part_of ed t i)).regs ≡ (since, p.fro d) ∷ []

-- 5. An entry that stands on day d stands on all of its days, d among them, and their shares add up to its energy.
pub record Stands (p : Point) (d : ℕ) (e : Entry) : Type 0 where
  pub from : e.start ≤ d
  pub to : d ≤ e.end
  pub whole : (x : ℕ) → e.start ≤ x → x ≤ e.end → p.entry x ≡ some e
  pub adds_up : sum_over (day_share p) e.start e.end ≡ e.energy

-- 6. An allocation, for all its numbers and an answer table of any length, is given or refused as the book does it, the
-- 32 numbers included. One given adds up, over Users and over points, to its net section load.
pub record Allocated (E : Editions) (t : List ℤ) (B : Book) (n : AllocationQuery) (room : ℕ) : Type 0 where
  pub as_book : allocate_call E t n room ≡ allocate n room B
  pub over_users :
      refused (allocate_call E t n room).0 ≡ false
      → added (totals_in (allocate_call E t n room).0) ≡ load_in (allocate_call E t n room).0
  pub over_points :
      refused (allocate_call E t n room).0 ≡ false
      → added (allocate_call E t n room).1 ≡ load_in (allocate_call E t n room).0
  pub all32 : refused (allocate_call E t n room).0 ≡ false → length (allocate_call E t n room).1 ≡ 32

-- The User that an energy notice's answer names as registered, 0 for none.
abbrev pub user_in : Numbers → ℤ
user_in l = get_or l 3 (pos 0)

-- 7. A registered transfer, in either section (document 02, a): what an energy notice that names User u leaves of its
-- point. The days up to the record's end stay whose they were, those since the latest registration its User's, who is
-- not u; every later day is u's. In section 1 the reading is an actual one.
pub record Transferred (E : Editions) (ed : Edition) (t : List ℤ) (B : Book) (n : EnergyNotice) (u : ℕ) : Type 0 where
  pub point : Point
  pub found : find (nat_of n.mirn) B.points ≡ some point
  pub after : Point
  pub found_after : find (nat_of n.mirn) (table_book ed (energy_call E t n).1).points ≡ some after
  pub same_days : (d : ℕ) → d ≤ nat_of n.end → after.fro d ≡ point.fro d
  pub old_user : (d : ℕ) → (latest point).0 ≤ d → d ≤ nat_of n.end → after.fro d ≡ (latest point).1
  pub new_user : (d : ℕ) → nat_of n.end < d → after.fro d ≡ u
  pub differ : eqb (latest point).1 u ≡ false
  pub actual : point.facts.section ≡ 1 → nat_of n.type_ ≡ 0

-- A table of an edition, one of E, that stands for the book B: it is sound, and its book is B.
pub record TableOf (E : Editions) (ed : Edition) (B : Book) (t : List ℤ) : Type 0 where
  pub edition : edition_in E t ≡ ed
  pub is_sound : sound ed t ≡ true
  pub book : table_book ed t ≡ B

-- The image of a saved book: what a save under the number n of a table that stands for it left of some bytes.
pub record ImageOf (E : Editions) (ed : Edition) (B : Book) (n : ℕ) (image : List ℕ) : Type 0 where
  pub table : List ℤ
  pub stands_for : TableOf E ed B table
  pub before : List ℕ
  pub enough : image_length ≤ length before
  pub bytes : take image_length image ≡ take image_length (with_image n table before)

-- An image holds what was saved last under its number: zero bytes where nothing was.
abbrev pub HoldsSaved : Editions → Option (Edition × Book) → ℕ → List ℕ → Type 0
HoldsSaved E none n image = take image_length image ≡ replicate image_length 0
HoldsSaved E (some w) n image = ImageOf E w.0 w.1 n image

pub record ImagesHold (E : Editions) (saved : ℕ → Option (Edition × Book)) (images : ℕ → List ℕ) : Type 0 where
  pub whole : (n : ℕ) → image_length ≤ length (images n)
  pub holds : (n : ℕ) → HoldsSaved E (saved n) n (images n)

-- 1. What is lent stands for the state: the table for its book, and the images for its saved books.
pub record StandsFor (E : Editions) (L : Lent) (S : State) : Type 0 where
  pub table : TableOf E S.edition S.book L.table
  pub images : ImagesHold E S.saved L.images

-- The rest, of the table t of an edition and the day book B that it stands for.
pub record AddsUp (E : Editions) (ed : Edition) (t : List ℤ) (B : Book) : Type 0 where
  pub one_user : (i : ℕ) (p : Point) (d : ℕ) → point_no i B.points ≡ some p → filled p d ≡ true → OneUser ed t i p d
  -- 3. A User's account from the table is the sum of the shares of its days in B, and splits between any two days.
  pub accounts :
      (u a c : ℕ) → 1 ≤ u → u ≤ 16 → a ≤ c → c ≤ 39999
      → account_call E t (account_query u a c) ≡ pos 0 ∷ account_of u a c B ∷ []
  pub accounts_split :
      (u a b c : ℕ) → 1 ≤ u → u ≤ 16 → a ≤ b → b < c → c ≤ 39999
      → account_from E t u a c ≡ account_from E t u a b +ℤ account_from E t u (suc b) c
  -- 4. The sixteen accounts add up to the shares of all points' filled days.
  pub accounts_add_up :
      (a c : ℕ) → a ≤ c → c ≤ 39999
      → sum_from (λ u. account_from E t u a c) 1 16 ≡ sum_of (λ p. sum_over (day_share p) a c) B.points
  pub entries :
      (i : ℕ) (p : Point) (d : ℕ) (e : Entry) → point_no i B.points ≡ some p → p.entry d ≡ some e → Stands p d e
  pub allocations : (n : AllocationQuery) (room : ℕ) → Allocated E t B n room
  pub transfers : (n : EnergyNotice) (u : ℕ) → 1 ≤ u → user_in (energy_call E t n).0 ≡ pos u → Transferred E ed t B n u

pub record Agrees (E : Editions) (L : Lent) (S : State) : Type 0 where
  pub stands_for : StandsFor E L S
  pub adds_up : AddsUp E S.edition L.table S.book
