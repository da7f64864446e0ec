-- Accounts split between any two days, and the sixteen Users' accounts add up to the shares of all filled days. Assumes
-- nothing.
use mathlib.Core.Path.{◌≡◌, refl, ◌∙◌, ap, ap₂}
use mathlib.Core.Bool.{Bool, true, false, cond, false≢true}
use mathlib.Core.Option.{Option, none, some}
use mathlib.Core.List.{List, [], ◌∷◌, map}
use Prim.Native.Nat.{ℕ, zero, suc, ◌+◌, ◌-◌, ◌≤◌, ◌<◌}
use native.Mathlib.Omega.{arith}
use lib.Dec.{eqb}
use lib.IntN.{ℤ, pos, ◌+ℤ◌, +ℤ_idl, +ℤ_idr}
use borrow.Author.Tests.{eqb-true, eqb-false, ne_eqb}
use Rattle.numbers.specs.Search.{is_some}
use Rattle.numbers.specs.Sums.{sum_from, sum_over}
use Rattle.numbers.proofs.Bools.{cond_same}
use Rattle.numbers.proofs.Integers.{add_swap}
use Rattle.numbers.proofs.Sums.{sum_same, sum_zero, sum_plus, sum_swap, sum_over_split}
use Rattle.daybook.specs.declared.Edition.{Edition}
use Rattle.daybook.specs.Book.{Entry, Point, Book, filled, day_share}
use Rattle.daybook.specs.Queries.{sum_of, own_share, account_of}
use Rattle.lists.specs.Lists.{Lists, Register, entry_on, point_of, book_of}
use Rattle.lists.specs.InnerWell.{Well, Points, nopoint, point, WellFormed}
use Rattle.lists.proofs.Apart.{recs_apart, stands, Stands as StandsListed}
use Rattle.lists.proofs.Registrations.{user_known}

-- ---- between any two days

pub account_splits : (u a b c : ℕ) (B : Book) → a ≤ b → b ≤ c → account_of u a c B ≡ account_of u a b B +ℤ account_of u (suc b) c B
unfolding account_of sum_of
account_splits u a b c B h k = go B.points
  where
    account : ℕ → ℕ → List Point → ℤ
    account a b ps = sum_of (λ p. sum_over (own_share u p) a b) ps

    go : (ps : List Point) → account a c ps ≡ account a b ps +ℤ account (suc b) c ps
    go [] = refl
    go (p ∷ ps) =
        ap₂ ◌+ℤ◌ (sum_over_split (own_share u p) a b c h k) (go ps)
        ∙ add_swap (sum_over (own_share u p) a b) (sum_over (own_share u p) (suc b) c) (account a b ps) (account (suc b) c ps)

-- ---- what belongs to User v is counted once

-- An amount of User v that is 0 unless v is 1 to 16.
pub data Owned (v : ℕ) : ℤ → Type 0 where
  nothing : Owned v (pos 0)
  owned : {z : ℤ} → 1 ≤ v → v ≤ 16 → Owned v z

-- The amount counts for one of n Users from a on.
counted_among : (v : ℕ) (z : ℤ) (a n : ℕ) → a ≤ v → v < a + n → sum_from (λ u. cond (eqb v u) z (pos 0)) a n ≡ z
unfolding sum_from
counted_among v z a zero h k = absurd (omega arith)
counted_among v z a (suc n) h k = go (eqb v a) refl (counted_among v z (suc a) n)
  where
    later : ℤ
    later = sum_from (λ u. cond (eqb v u) z (pos 0)) (suc a) n

    go : (t : Bool) → eqb v a ≡ t → (suc a ≤ v → v < suc a + n → later ≡ z) → cond t z (pos 0) +ℤ later ≡ z
    go true e ih =
        let others : later ≡ pos 0 = sum_zero _ (suc a) n (λ u i j. rw (ne_eqb v u (omega (arith, eqb-true v a e))) refl) in
        ap (λ s. z +ℤ s) others ∙ +ℤ_idr z
    go false e ih = +ℤ_idl later ∙ ih (omega (arith, eqb-false v a e)) (omega arith)

pub counted_once : {v : ℕ} {z : ℤ} → Owned v z → sum_from (λ u. cond (eqb v u) z (pos 0)) 1 16 ≡ z
counted_once {v} nothing = sum_zero _ 1 16 (λ u i j. cond_same (eqb v u) (pos 0))
counted_once {v} {z} (owned h k) = counted_among v z 1 16 h (omega arith)

-- ---- a filled day has a User

module _ {room : ℕ} {q : Lists} (ok : Well room q) where
  -- From the install day on the FRO is 1 to 16.
  pub installed_user : (d : ℕ) → q.facts.install ≤ d → (1 ≤ (point_of q).fro d) × ((point_of q).fro d ≤ 16)
  unfolding point_of
  installed_user d h = user_known ok.regs_ok ok.regs_start d h

  -- No day before it is filled.
  pub filled_installed : (d : ℕ) → filled (point_of q) d ≡ true → q.facts.install ≤ d
  unfolding point_of
  filled_installed d h = go (entry_on q.recs d) refl h
    where
      go : (o : Option Entry) → entry_on q.recs d ≡ o → is_some o ≡ true → q.facts.install ≤ d
      go none i h = absurd (false≢true h)
      go (some e) i h =
          let s : StandsListed 40000 q.facts.install q.recs e d = stands (recs_apart ok.recs_ok) d e i in omega arith

  share_owned : (d : ℕ) → Owned ((point_of q).fro d) (day_share (point_of q) d)
  unfolding day_share
  share_owned d = go ((point_of q).entry d) refl
    where
      go : (o : Option Entry) → (point_of q).entry d ≡ o → Owned ((point_of q).fro d) (day_share (point_of q) d)
      go none h = rw h nothing
      go (some e) h =
          let user : (1 ≤ (point_of q).fro d) × ((point_of q).fro d ≤ 16) = installed_user d (filled_installed d (ap is_some h)) in
          owned user.0 user.1

  -- The Users' shares of a point's days are the days' shares.
  point_adds_up : (a c : ℕ) → sum_from (λ u. sum_over (own_share u (point_of q)) a c) 1 16 ≡ sum_over (day_share (point_of q)) a c
  unfolding own_share
  point_adds_up a c =
      sum_swap (λ u. own_share u (point_of q)) 1 16 a (suc c - a) ∙ sum_same _ _ a (suc c - a) (λ d i j. counted_once (share_owned d))

pub accounts_add_up_lem : {ed : Edition} {R : Register} → WellFormed ed R → (a c : ℕ)
    → sum_from (λ u. account_of u a c (book_of R)) 1 16 ≡ sum_of (λ p. sum_over (day_share p) a c) (book_of R).points
unfolding account_of book_of sum_of
accounts_add_up_lem ok a c = go ok.points_ok
  where
    go : {room : ℕ} {qs : List Lists} → Points room qs
        → sum_from (λ u. sum_of (λ p. sum_over (own_share u p) a c) (map point_of qs)) 1 16 ≡ sum_of (λ p. sum_over (day_share p) a c) (map point_of qs)
    go nopoint = sum_zero _ 1 16 (λ u i j. refl)
    go (point w d r) = sum_plus _ _ 1 16 ∙ ap₂ ◌+ℤ◌ (point_adds_up w a c) (go r)
