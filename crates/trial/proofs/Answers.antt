-- What a notice answers: five numbers, and on a sound table small ones. Assumes nothing.
use mathlib.Core.Path.{◌≡◌, refl, sym, ◌∙◌, ap, ap₂, subst}
use mathlib.Core.Bool.{Bool, true, false, cond, false≢true}
use mathlib.Core.Option.{Option, none, some}
use mathlib.Core.List.{List, [], ◌∷◌, ◌++◌, map, flatten}
use Prim.Native.Nat.{ℕ, zero, suc, ◌+◌, ◌*◌, ◌≤◌, ◌<◌}
use native.Mathlib.Omega.{arith}
use lib.Dec.{ltb}
use lib.IntN.{ℤ, pos}
use lib.ListN.{length, drop, replicate, length-append}
use lib.Seq.{get_or-drop}
use Rattle.numbers.specs.Naturals.{nat_of}
use Rattle.numbers.specs.Search.{maybe}
use Rattle.daybook.specs.declared.Edition.{Edition}
use Rattle.daybook.specs.declared.EnergyNotice.{EnergyNotice}
use Rattle.daybook.specs.Book.{Entry, Pending, Point, Book, records, latest}
use Rattle.daybook.specs.Notices.{Row, least, Numbers, decide, find, with_point, on_point, Which, append, replacement, recut, which_number, which, entry_of, energy_early, energy_rows, later_starts, removed, Outcome, registers, lapses, stays, append_registers, outcome_of, outcome_numbers, entered, enter, energy_rows_at, energy}
use Rattle.daybook.specs.FromNumbers.{num, energy_notice_of}
use Rattle.daybook.specs.Trials.{notices_in, answers_to}
use Rattle.lists.specs.Lists.{Lists, Register}
use Rattle.lists.specs.InnerSteps.{latest_of, find_lists, which_in, with_lists, on_lists, entered_lists, enter_lists, energy_lists_rows, energy_lists}
use Rattle.lists.specs.InnerWell.{PendingOk, pending, Well, WellFormed}
use Rattle.lists.proofs.Rows.{above, up_to, up_to_least, least_none, least_append_both}
use Rattle.lists.proofs.Points.{find_well}
use Rattle.lists.proofs.EnergyStep.{energy_step}
use Rattle.layout.specs.Layout.{table_length, Fits, register_of, table_book}
use Rattle.layout.specs.Sound.{sound}
use Rattle.layout.proofs.SoundParts.{stride_small}
use Rattle.layout.proofs.TableSound.{sound_lays}
use Rattle.trial.specs.InnerTrial.{SmallNumbers}

-- ---- the numbers

-- five naturals
small : (a b c d e : ℕ) → a ≤ table_length → b ≤ table_length → c ≤ table_length → d ≤ table_length → e ≤ table_length
    → SmallNumbers (pos a ∷ pos b ∷ pos c ∷ pos d ∷ pos e ∷ [])
small a b c d e ha hb hc hd he zero = ha
small a b c d e ha hb hc hd he (suc zero) = hb
small a b c d e ha hb hc hd he (suc (suc zero)) = hc
small a b c d e ha hb hc hd he (suc (suc (suc zero))) = hd
small a b c d e ha hb hc hd he (suc (suc (suc (suc zero)))) = he
small a b c d e ha hb hc hd he (suc (suc (suc (suc (suc k))))) = omega arith

later_few : (s : ℕ) (l : List Entry) → later_starts s l ≤ length l
unfolding later_starts
later_few s [] = omega arith
later_few s (x ∷ l) = go (ltb s x.start) (later_few s l)
  where
    go : (b : Bool) → later_starts s l ≤ length l → cond b 1 0 + later_starts s l ≤ suc (length l)
    go true h = omega arith
    go false h = omega arith

removed_few : (w : Which) (s : ℕ) (l : List Entry) → removed w s l ≤ length l
removed_few append s l = omega arith
removed_few replacement s l = omega arith
removed_few recut s l = later_few s l

which_few : (w : Which) → which_number w ≤ 3
which_few append = omega arith
which_few replacement = omega arith
which_few recut = omega arith

-- the User whom a request names
pending_user_lem : {regs : List (ℕ × ℕ)} {q : Pending} → PendingOk regs (some q) → q.user ≤ 16
pending_user_lem (pending a b c d e f) = b

-- ---- what is entered

module _ {room : ℕ} {q : Lists} (ok : Well room q) (few : room ≤ table_length) (x : Entry) where
  with_outcome : (w : Which) (o : Outcome) → ((u : ℕ) → o ≡ registers u → u ≤ 16) → SmallNumbers (pos 0 ∷ (entered_lists x w o q).0)
  unfolding entered_lists
  with_outcome w o h = go o h
    where
      gone : removed w x.start q.recs ≤ table_length
      gone = omega (arith, removed_few w x.start q.recs, ok.recs_few)

      number : which_number w ≤ table_length
      number = omega (arith, which_few w)

      go : (o : Outcome) → ((u : ℕ) → o ≡ registers u → u ≤ 16)
          → SmallNumbers (pos 0 ∷ map pos (which_number w ∷ removed w x.start q.recs ∷ outcome_numbers o))
      go (registers u) h = small 0 _ _ u 0 (omega arith) number gone (omega (arith, h u refl)) (omega arith)
      go lapses h = small 0 _ _ 0 1 (omega arith) number gone (omega arith) (omega arith)
      go stays h = small 0 _ _ 0 0 (omega arith) number gone (omega arith) (omega arith)

  -- a User who is registered is the request's
  registers_who : (w : Which) (o : Option Pending) → PendingOk q.regs o → (u : ℕ)
      → outcome_of w q.facts.section x (latest_of q.regs).0 o ≡ registers u → u ≤ 16
  registers_who replacement o p u e = let z : ◌≡◌ {A = ℕ} 0 1 = cc in absurd (omega arith)
  registers_who recut o p u e = let z : ◌≡◌ {A = ℕ} 0 1 = cc in absurd (omega arith)
  registers_who append none p u e = let z : ◌≡◌ {A = ℕ} 0 1 = cc in absurd (omega arith)
  registers_who append (some r) p u e =
      go (append_registers q.facts.section x (latest_of q.regs).0 r) (ltb r.last x.end) e
    where
      go : (b l : Bool) → cond b (registers r.user) (cond l lapses stays) ≡ registers u → u ≤ 16
      go true l e = let z : r.user ≡ u = cc in omega (arith, pending_user_lem p)
      go false true e = let z : ◌≡◌ {A = ℕ} 0 1 = cc in absurd (omega arith)
      go false false e = let z : ◌≡◌ {A = ℕ} 0 1 = cc in absurd (omega arith)

  pub entered_small : SmallNumbers (pos 0 ∷ (enter_lists x q).0)
  unfolding enter_lists
  entered_small = with_outcome (which_in q x) _ (registers_who (which_in q x) q.pending ok.pending_ok)

-- ---- the notice

nothing : SmallNumbers (pos 0 ∷ [])
nothing zero = omega arith
nothing (suc k) = omega arith

refused_small : (r : ℕ) → r ≤ 22 → SmallNumbers (pos r ∷ replicate 4 (pos 0))
refused_small r h = small r 0 0 0 0 (omega arith) (omega arith) (omega arith) (omega arith) (omega arith)

module _ (ed : Edition) (n : EnergyNotice) {R : Register} (ok : WellFormed ed R) (few : ed.records ≤ table_length) where
  abbrev rows : Option Lists → List Row
  rows o = energy_early n ++ maybe ((4, true) ∷ []) (energy_lists_rows ed n R) o

  rows_low : (o : Option Lists) → up_to 22 (rows o) ≡ true
  unfolding up_to energy_early energy_lists_rows energy_rows
  rows_low none = refl
  rows_low (some q) = refl

  abbrev taken : Option Lists → Numbers × Register
  taken o = maybe ([], R) (λ q. ((enter_lists (entry_of n) q).0, with_lists (nat_of n.mirn) (enter_lists (entry_of n) q).1 R)) o

  lists_small : SmallNumbers (energy_lists ed n R).0
  unfolding energy_lists on_lists decide
  lists_small = go (find_lists (nat_of n.mirn) R.points) refl
    where
      go : (o : Option Lists) → find_lists (nat_of n.mirn) R.points ≡ o → SmallNumbers (decide (least (rows o)) 4 R (taken o)).0
      go o e = by (least (rows o)) o refl e
        where
          by : (r : ℕ) (o : Option Lists) → least (rows o) ≡ r → find_lists (nat_of n.mirn) R.points ≡ o → SmallNumbers (decide r 4 R (taken o)).0
          by (suc r) o z e = refused_small (suc r) (omega (arith, z, up_to_least 22 (rows o) (rows_low o)))
          by zero none z e = nothing
          by zero (some q) z e = entered_small (find_well (nat_of n.mirn) ok.points_ok e).0 few (entry_of n)

-- on the book of a sound table
pub energy_small : (ed : Edition) → Fits ed → (t : List ℤ) → sound ed t ≡ true → (n : EnergyNotice) → SmallNumbers (energy ed n (table_book ed t)).0
unfolding table_book
energy_small ed fits t s n =
    let ok = (sound_lays ed fits t s).0 in
    let few : ed.records ≤ table_length = omega (arith, stride_small ed fits) in
    subst SmallNumbers (sym (ap (λ w. w.0) (energy_step ed n (register_of ed t) ok))) (lists_small ed n ok few)

-- ---- how many numbers there are

-- a notice on any book answers five
pub energy_five : (ed : Edition) (n : EnergyNotice) (B : Book) → length (energy ed n B).0 ≡ 5
unfolding energy on_point decide energy_early enter entered above
energy_five ed n B = go (find m B.points) (least (rows (find m B.points))) refl
  where
    m : ℕ
    m = nat_of n.mirn

    rows : Option Point → List Row
    rows o = energy_early n ++ maybe ((4, true) ∷ []) (energy_rows_at ed n B) o

    taken : Option Point → Numbers × Book
    taken o = maybe ([], B) (λ p. ((enter (entry_of n) p).0, with_point m (enter (entry_of n) p).1 B)) o

    numbers : (w : Which) (k : ℕ) (o : Outcome) → length (pos 0 ∷ map pos (which_number w ∷ k ∷ outcome_numbers o)) ≡ 5
    numbers w k (registers u) = refl
    numbers w k lapses = refl
    numbers w k stays = refl

    go : (o : Option Point) (r : ℕ) → least (rows o) ≡ r → length (decide r 4 B (taken o)).0 ≡ 5
    go o (suc r) e = refl
    go none zero e =
        absurd (false≢true (sym (least_none 3 true [] (least_append_both (energy_early n) ((4, true) ∷ []) refl e).1).0))
    go (some p) zero e =
        let x : Entry = entry_of n in
        let w : Which = which p x in
        numbers w (removed w x.start (records p)) (outcome_of w p.facts.section x (latest p).0 p.pending)

pub answers_length : (ed : Edition) (ns : List EnergyNotice) (B : Book) → length (flatten (answers_to ed ns B)) ≡ 5 * length ns
unfolding answers_to flatten
answers_length ed [] B = refl
answers_length ed (n ∷ ns) B =
    omega (arith, length-append (energy ed n B).0 (flatten (answers_to ed ns (energy ed n B).1)), energy_five ed n B, answers_length ed ns (energy ed n B).1)

pub notices_length : (k : ℕ) (xs : List ℤ) → length (notices_in k xs) ≡ k
unfolding notices_in
notices_length zero xs = refl
notices_length (suc k) xs = ap suc (notices_length k (drop 6 xs))

-- ---- the numbers of a batch that are read

pub notices_alike : (k : ℕ) (xs ys : List ℤ) → ((i : ℕ) → i < 6 * k → num xs i ≡ num ys i) → notices_in k xs ≡ notices_in k ys
unfolding notices_in
notices_alike zero xs ys e = refl
notices_alike (suc k) xs ys e =
    ap₂ ◌∷◌ same (notices_alike k (drop 6 xs) (drop 6 ys) (λ i h. get_or-drop 6 xs i (pos 0) ∙ e (6 + i) (omega arith) ∙ sym (get_or-drop 6 ys i (pos 0))))
  where
    same : energy_notice_of xs ≡ energy_notice_of ys
    same = rw (e 0 (omega arith), e 1 (omega arith), e 2 (omega arith), e 3 (omega arith), e 4 (omega arith), e 5 (omega arith))
