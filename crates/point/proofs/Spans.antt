-- Off spans: rows that pass the tests are well-formed, and well-formed rows pass. Assumes nothing.
use mathlib.Core.Path.{◌≡◌, refl, sym, ap, subst, ◌∙◌}
use mathlib.Core.Bool.{Bool, true, false}
use mathlib.Core.Option.{Option, none, some, none-ne-some, some-injective}
use mathlib.Core.List.{List, [], ◌∷◌}
use Prim.Native.Nat.{ℕ, zero, suc, ◌+◌, ◌*◌, ◌≤◌, ◌<◌, ◌^◌}
use native.Mathlib.Omega.{arith}
use borrow.Author.Tests.{leb-true, ltb-true, ltb-false, le-leb, lt-ltb}
use lib.Dec.{ltb}
use lib.ListN.{get_or}
use lib.IntN.{ℤ, pos, negsuc}
use Rattle.numbers.proofs.Bools.{both, join}
use Rattle.lists.specs.InnerWell.{Spans, nospan, still, ended}
use Rattle.layout.specs.Layout.{num_at, on_of}
use Rattle.point.specs.InnerTests.{rows, until_of, off_day, on_day, span_ok_at, span_leaves, spans_ok, span_row}
use Rattle.point.proofs.Rows.{rows_at}

-- What an on day's number stands for.
pub data On (x : ℤ) : Type 0 where
  opened : on_of x ≡ none → until_of x ≡ 40001 → On x
  closed : on_of x ≡ some (until_of x) → until_of x ≤ 39999 → On x
  wrong : {d : ℕ} → on_of x ≡ some d → 40000 ≤ d → 40001 < until_of x → On x

pub view : (x : ℤ) → On x
view (pos n) = go (ltb n 40000) refl
  where
    go : (b : Bool) → ltb n 40000 ≡ b → On (pos n)
    go true e =
        let l : n < 40000 = ltb-true n 40000 e in
        let z : until_of (pos n) ≡ n = rw e in
        closed (ap some (sym z)) (omega arith)
    go false e = let z : until_of (pos n) ≡ 2 ^ 63 = rw e in wrong refl (ltb-false n 40000 e) (omega arith)
view (negsuc zero) = opened refl refl
view (negsuc (suc n)) = wrong refl (omega arith) (omega arith)

module _ (p : List ℤ) where
  abbrev pub on_number_at : ℕ → ℤ
  on_number_at k = get_or p (32 + 2 * k + 1) (pos 0)

  -- Rows that pass, from day lo on.
  abbrev pub Passing : ℕ → ℕ → ℕ → Type 0
  Passing lo k n = rows (span_ok_at p) (span_leaves p) lo k n ≡ true

  -- The first of them.
  pub record First (lo k n : ℕ) : Type 0 where
    pub from : lo ≤ off_day p k
    pub day : off_day p k ≤ 39999
    pub after : off_day p k < on_day p k
    pub until : on_day p k ≤ 40001
    pub others : Passing (suc (on_day p k)) (suc k) n

  pub first : (lo k n : ℕ) → Passing lo k (suc n) → First lo k n
  unfolding rows
  first lo k n h =
      let a = both _ _ h in
      let b = both _ _ a.0 in
      let d = both _ _ b.0 in
      let e = both _ _ d.0 in
      record {
        from = leb-true _ _ e.0;
        day = leb-true _ _ e.1;
        after = ltb-true _ _ d.1;
        until = leb-true _ _ b.1;
        others = a.1;
      }

  -- none follows a span that is still off
  alone : (lo k n : ℕ) → 40000 ≤ lo → Passing lo k n → n ≡ 0
  alone lo k zero l h = refl
  alone lo k (suc n) l h = let r : First lo k n = first lo k n h in absurd (omega arith)

  -- ---- the tests and the lists say the same

  spans_well : (n k lo : ℕ) → Passing lo k n → Spans lo (rows_at (span_row p) k n)
  unfolding rows_at
  spans_well zero k lo h = nospan
  spans_well (suc n) k lo h = go (view (on_number_at k)) (spans_well n (suc k))
    where
      r : First lo k n
      r = first lo k n h

      go : On (on_number_at k) → ((lo : ℕ) → Passing lo (suc k) n → Spans lo (rows_at (span_row p) (suc k) n))
          → Spans lo (span_row p k ∷ rows_at (span_row p) (suc k) n)
      go (closed e u) ih =
          subst (λ (o : Option ℕ). Spans lo ((off_day p k, o) ∷ rows_at (span_row p) (suc k) n)) (sym e)
          (ended r.from r.after u (ih (suc (on_day p k)) r.others))
      go (opened e u) ih =
          let z : n ≡ 0 = alone (suc (on_day p k)) (suc k) n (omega arith) r.others in
          subst (λ (o : Option ℕ). Spans lo ((off_day p k, o) ∷ rows_at (span_row p) (suc k) n)) (sym e)
          (subst (λ (m : ℕ). Spans lo ((off_day p k, none) ∷ rows_at (span_row p) (suc k) m)) (sym z) (still r.from r.day))
      go (wrong e l u) ih = absurd (omega (arith, r.until))

  -- the first of well-formed spans
  data Head (lo off : ℕ) (o : Option ℕ) (l : List (ℕ × Option ℕ)) : Type 0 where
    is_still : lo ≤ off → off ≤ 39999 → o ≡ none → l ≡ [] → Head lo off o l
    is_ended : {on : ℕ} → lo ≤ off → off < on → on ≤ 39999 → o ≡ some on → Spans (suc on) l → Head lo off o l

  head : {lo off : ℕ} {o : Option ℕ} {l : List (ℕ × Option ℕ)} → Spans lo ((off, o) ∷ l) → Head lo off o l
  head (still a b) = is_still a b refl refl
  head (ended a b d r) = is_ended a b d refl r

  no_rows : (n k : ℕ) → rows_at (span_row p) k n ≡ [] → n ≡ 0
  unfolding rows_at
  no_rows zero k e = refl
  no_rows (suc n) k e = let z : ◌≡◌ {A = ℕ} 0 1 = cc in absurd (omega arith)

  spans_pass : (n k lo : ℕ) → Spans lo (rows_at (span_row p) k n) → Passing lo k n
  unfolding rows rows_at
  spans_pass zero k lo s = refl
  spans_pass (suc n) k lo s = go (view (on_number_at k)) (head s) (spans_pass n (suc k))
    where
      here : lo ≤ off_day p k → off_day p k ≤ 39999 → off_day p k < on_day p k → on_day p k ≤ 40001 → Passing (suc (on_day p k)) (suc k) n → Passing lo k (suc n)
      here a b d e r = join (join (join (join (le-leb _ _ a) (le-leb _ _ b)) (lt-ltb _ _ d)) (le-leb _ _ e)) r

      none_after : n ≡ 0 → Passing (suc (on_day p k)) (suc k) n
      none_after z = ap (rows (span_ok_at p) (span_leaves p) (suc (on_day p k)) (suc k)) z

      go : On (on_number_at k) → Head lo (off_day p k) (on_of (on_number_at k)) (rows_at (span_row p) (suc k) n)
          → ((lo : ℕ) → Spans lo (rows_at (span_row p) (suc k) n) → Passing lo (suc k) n) → Passing lo k (suc n)
      go (opened e u) (is_still a b d l) ih = here a b (omega arith) (omega arith) (none_after (no_rows n (suc k) l))
      go (opened e u) (is_ended {on} a b d f r) ih = absurd (none-ne-some on (sym e ∙ f))
      go (closed e u) (is_still a b d l) ih = absurd (none-ne-some _ (sym d ∙ e))
      go (closed e u) (is_ended {on} a b d f r) ih =
          let z : until_of (on_number_at k) ≡ on = some-injective _ _ (sym e ∙ f) in
          here a (omega arith) (omega arith) (omega arith) (ih (suc (on_day p k)) (subst (λ (x : ℕ). Spans (suc x) (rows_at (span_row p) (suc k) n)) (sym z) r))
      go (wrong e l u) (is_still a b d m) ih = absurd (none-ne-some _ (sym d ∙ e))
      go (wrong {d = x} e l u) (is_ended {on} a b d f r) ih =
          let z : x ≡ on = some-injective _ _ (sym e ∙ f) in absurd (omega arith)

  pub spans_tested : (m : ℕ) → spans_ok p m ≡ true → Spans (num_at p 2) (rows_at (span_row p) 0 m)
  unfolding spans_ok
  spans_tested m h = spans_well m 0 (num_at p 2) h

  pub spans_tests : (m : ℕ) → Spans (num_at p 2) (rows_at (span_row p) 0 m) → spans_ok p m ≡ true
  unfolding spans_ok
  spans_tests m s = spans_pass m 0 (num_at p 2) s
