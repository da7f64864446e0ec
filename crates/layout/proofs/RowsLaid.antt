-- Rows of a table that are read and laid out again: where what is read is well-formed, these are the table's own numbers.
-- Assumes nothing.
use mathlib.Core.Path.{◌≡◌, refl, sym, ap, ap₂, ◌∙◌}
use mathlib.Core.Option.{Option, some, none-ne-some, some-injective}
use mathlib.Core.List.{List, [], ◌∷◌}
use Prim.Native.Nat.{ℕ, zero, suc, ◌+◌, ◌*◌, ◌≤◌, ◌<◌, ◌^◌}
use native.Mathlib.Omega.{arith}
use lib.IntN.{ℤ, pos, negsuc}
use lib.ListN.{length, get_or, take, drop}
use lib.Seq.{drop-cons}
use Rattle.numbers.specs.Naturals.{nat_of}
use Rattle.numbers.proofs.Naturals.{nat_of_is}
use Rattle.daybook.specs.Book.{Entry, Pending}
use Rattle.lists.specs.InnerWell.{Regs, reg, Spans, nospan, still, ended, Recs, rec, PendingOk, pending}
use Rattle.lists.proofs.Apart.{Apart, noentry, apart, fits_le, recs_apart}
use Rattle.layout.specs.Layout.{reg_numbers, on_number, off_numbers, rec_numbers, pending_or_zeros, regs_from, on_of, offs_from, recs_from, pending_from}

pub two : {x x' y y' : ℤ} {l l' : List ℤ} → x ≡ x' → y ≡ y' → l ≡ l' → x ∷ y ∷ l ≡ x' ∷ y' ∷ l'
two a b e = ap₂ ◌∷◌ a (ap₂ ◌∷◌ b e)

-- a number below the marker, read and written
pub clean : (x : ℤ) → nat_of x < 2 ^ 63 → pos (nat_of x) ≡ x
clean x h = sym (nat_of_is x h)

-- k numbers from place b on
unfoldable pub cells : List ℤ → ℕ → ℕ → List ℤ
cells p b zero = []
cells p b (suc k) = get_or p b (pos 0) ∷ cells p (suc b) k

pub cells_take : (k b : ℕ) (p : List ℤ) → b + k ≤ length p → cells p b k ≡ take k (drop b p)
unfolding cells
cells_take zero b p h = refl
cells_take (suc k) b p h =
    sym (ap (take (suc k)) (drop-cons p b (pos 0) (omega arith)) ∙ ap (λ l. get_or p b (pos 0) ∷ l) (sym (cells_take k (suc b) p (omega arith))))

-- ---- as many rows as were asked for

pub length_regs_from : (n : ℕ) (t : List ℤ) → length (regs_from n t) ≡ n
unfolding regs_from
length_regs_from zero t = refl
length_regs_from (suc n) t = ap suc (length_regs_from n (drop 2 t))

pub length_offs_from : (n : ℕ) (t : List ℤ) → length (offs_from n t) ≡ n
unfolding offs_from
length_offs_from zero t = refl
length_offs_from (suc n) t = ap suc (length_offs_from n (drop 2 t))

pub length_recs_from : (n : ℕ) (t : List ℤ) → length (recs_from n t) ≡ n
unfolding recs_from
length_recs_from zero t = refl
length_recs_from (suc n) t = ap suc (length_recs_from n (drop 4 t))

-- ---- registrations

regs_first : {u lo : ℕ} {x : ℕ × ℕ} {l : List (ℕ × ℕ)} → Regs u lo (x ∷ l) → (x.0 ≤ 40000) × (x.1 ≤ 16) × Regs x.1 (suc x.0) l
regs_first (reg a b c d n r) = (b, d, r)

pub regs_lay : (n : ℕ) (t : List ℤ) {u lo : ℕ} → Regs u lo (regs_from n t) → 2 * n ≤ length t → reg_numbers (regs_from n t) ≡ take (2 * n) t
unfolding regs_from reg_numbers
regs_lay zero t r h = refl
regs_lay (suc n) [] r h = absurd (omega arith)
regs_lay (suc n) (x ∷ []) r h = absurd (omega arith)
regs_lay (suc n) (x ∷ y ∷ t) r h =
    let f = regs_first r in
    let e : 2 * suc n ≡ suc (suc (2 * n)) = omega arith in
    two (clean x (omega (arith, f.0))) (clean y (omega (arith, f.1))) (regs_lay n t f.2 (omega arith)) ∙ sym (ap (λ m. take m (x ∷ y ∷ t)) e)

-- ---- off spans

-- What is known of the first of some spans.
record FirstSpan (x : ℕ × Option ℕ) (l : List (ℕ × Option ℕ)) : Type 0 where
  off_day : x.0 ≤ 39999
  on_day : (d : ℕ) → x.1 ≡ some d → d ≤ 39999
  lo : ℕ
  later : Spans lo l

spans_first : {lo : ℕ} {x : ℕ × Option ℕ} {l : List (ℕ × Option ℕ)} → Spans lo (x ∷ l) → FirstSpan x l
spans_first (still a b) = record { off_day = b; on_day = λ d e. absurd (none-ne-some d e); lo = 0; later = nospan }
spans_first (ended {on = on} a b c r) =
    record { off_day = omega arith; on_day = λ d e. omega (arith, some-injective on d e); lo = suc on; later = r }

on_lay : (z : ℤ) → ((d : ℕ) → on_of z ≡ some d → d ≤ 39999) → on_number (on_of z) ≡ z
on_lay (pos d) h = refl
on_lay (negsuc zero) h = refl
on_lay (negsuc (suc d)) h = absurd (omega (arith, h (2 ^ 63) refl))

pub offs_lay : (n : ℕ) (t : List ℤ) {lo : ℕ} → Spans lo (offs_from n t) → 2 * n ≤ length t → off_numbers (offs_from n t) ≡ take (2 * n) t
unfolding offs_from off_numbers
offs_lay zero t r h = refl
offs_lay (suc n) [] r h = absurd (omega arith)
offs_lay (suc n) (x ∷ []) r h = absurd (omega arith)
offs_lay (suc n) (x ∷ y ∷ t) r h =
    let f : FirstSpan (nat_of x, on_of y) (offs_from n t) = spans_first r in
    let e : 2 * suc n ≡ suc (suc (2 * n)) = omega arith in
    two (clean x (omega (arith, f.off_day))) (on_lay y f.on_day) (offs_lay n t f.later (omega arith)) ∙ sym (ap (λ m. take m (x ∷ y ∷ t)) e)

-- ---- records

recs_first : {kind from : ℕ} {offs : List (ℕ × Option ℕ)} {x : Entry} {l : List Entry} → Recs kind offs from (x ∷ l)
    → (x.start ≤ x.end) × (x.end ≤ 39999) × (x.type ≤ 2) × Recs kind offs (suc x.end) l
recs_first {kind} (rec {x = x} s f d e t o r) = (fits_le kind x.start x.end f, d, t, r)

-- each record has a day of its own, so there are not too many to be counted
apart_length : {hi lo : ℕ} {l : List Entry} → Apart hi lo l → lo ≤ hi → length l + lo ≤ hi
apart_length noentry h = omega arith
apart_length (apart {x = x} {l = l} a b c r) h = omega (arith, apart_length r c)

pub recs_count : {kind from : ℕ} {offs : List (ℕ × Option ℕ)} {l : List Entry} → Recs kind offs from l → from ≤ 40000 → length l ≤ 40000
recs_count r h = omega (arith, apart_length (recs_apart r) h)

pub recs_lay : (n : ℕ) (t : List ℤ) {kind from : ℕ} {offs : List (ℕ × Option ℕ)} → Recs kind offs from (recs_from n t) → 4 * n ≤ length t
    → rec_numbers (recs_from n t) ≡ take (4 * n) t
unfolding recs_from rec_numbers
recs_lay zero t r h = refl
recs_lay (suc n) [] r h = absurd (omega arith)
recs_lay (suc n) (x ∷ []) r h = absurd (omega arith)
recs_lay (suc n) (x ∷ y ∷ []) r h = absurd (omega arith)
recs_lay (suc n) (x ∷ y ∷ z ∷ []) r h = absurd (omega arith)
recs_lay (suc n) (x ∷ y ∷ z ∷ w ∷ t) r h =
    let f = recs_first r in
    let a : nat_of x ≤ nat_of y = f.0 in
    let b : nat_of y ≤ 39999 = f.1 in
    let e : 4 * suc n ≡ suc (suc (suc (suc (4 * n)))) = omega arith in
    two (clean x (omega arith)) (clean y (omega arith)) (two refl (clean w (omega (arith, f.2))) (recs_lay n t f.3 (omega arith)))
    ∙ sym (ap (λ m. take m (x ∷ y ∷ z ∷ w ∷ t)) e)

-- ---- the pending request

-- The three numbers of a pending request: all below the marker, and all 0 without a User.
pub record ThreeOk (u f l : ℕ) : Type 0 where
  pub user_low : u < 2 ^ 63
  pub first_low : f < 2 ^ 63
  pub last_low : l < 2 ^ 63
  pub user_back : (pending_or_zeros (pending_from u f l)).user ≡ u
  pub first_back : (pending_or_zeros (pending_from u f l)).first ≡ f
  pub last_back : (pending_or_zeros (pending_from u f l)).last ≡ l

pub pending_lay : {regs : List (ℕ × ℕ)} (u f l : ℕ) → PendingOk regs (pending_from u f l) → (u ≡ 0 → (f ≡ 0) × (l ≡ 0)) → ThreeOk u f l
pending_lay zero f l p z =
    let a : f ≡ 0 = (z refl).0 in
    let b : l ≡ 0 = (z refl).1 in
    record { user_low = omega arith; first_low = omega arith; last_low = omega arith; user_back = refl; first_back = sym a; last_back = sym b }
pending_lay (suc u) f l (pending a b n c d e) z =
    record { user_low = omega arith; first_low = omega arith; last_low = omega arith; user_back = refl; first_back = refl; last_back = refl }

-- a request that is read has a User
pub pending_user_lem : (u f l : ℕ) (r : Pending) → pending_from u f l ≡ some r → 1 ≤ r.user
pending_user_lem zero f l r e = absurd (none-ne-some r e)
pending_user_lem (suc u) f l r e = omega (arith, ap (λ (q : Pending). q.user) (some-injective _ r e))
