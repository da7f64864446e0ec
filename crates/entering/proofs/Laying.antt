-- The places of a sound part that the code reads, and the append day. Assumes nothing.
use mathlib.Core.Path.{◌≡◌, sym, ◌∙◌, ap, ap₂}
use mathlib.Core.Option.{Option, none, some}
use mathlib.Core.List.{List}
use Prim.Native.Nat.{ℕ, suc, ◌+◌, ◌-◌, ◌*◌, ◌≤◌}
use native.Mathlib.Omega.{arith}
use native.Mathlib.Numerals.{add-one}
use lib.ListN.{length, get_or}
use lib.IntN.{ℤ}
use Rattle.numbers.specs.Search.{maybe}
use Rattle.daybook.specs.Book.{Entry}
use Rattle.lists.specs.InnerSteps.{skip, append_day_of, last_end}
use Rattle.lists.proofs.Last.{last_none, last_at}
use Rattle.lists.proofs.Apart.{recs_apart}
use Rattle.lists.proofs.Records.{day_after, day_after_le}
use Rattle.layout.specs.Layout.{num_at, point_from}
use Rattle.layout.specs.InnerParts.{SoundPart}
use Rattle.layout.proofs.Numbers.{few}
use Rattle.layout.proofs.Cells.{no_rec, cell_rec_start, cell_rec_end, place_install, place_offs, place_recs}
use Rattle.layout.proofs.SoundParts.{part_well, part_laid}
use Rattle.point.specs.InnerTests.{first_on, day_if}
use Rattle.point.proofs.Readers.{first_on_is}

-- ---- what stands at the places

module _ {p : List ℤ} (ok : SoundPart p) where
  pub start_at : (j : ℕ) → num_at p (48 + 4 * j) ≡ (get_or (point_from p).recs j no_rec).start
  start_at j = ap (λ t. num_at t (48 + 4 * j)) (sym (part_laid ok)) ∙ cell_rec_start (few (part_well ok)) j

  pub end_at : (j : ℕ) → num_at p (48 + 4 * j + 1) ≡ (get_or (point_from p).recs j no_rec).end
  end_at j = ap (λ t. num_at t (48 + 4 * j + 1)) (sym (part_laid ok)) ∙ cell_rec_end (few (part_well ok)) j

-- ---- the append day

after_none : (from : ℕ) (l : List Entry) → length l ≡ 0 → from ≡ day_after from l
unfolding last_end
after_none from l e = ap (λ (o : Option Entry). maybe from suc (maybe none (λ x. some x.end) o)) (sym (last_none l e))

after_last : (from : ℕ) (l : List Entry) (k : ℕ) → length l ≡ suc k → (get_or l k no_rec).end + 1 ≡ day_after from l
unfolding last_end
after_last from l k e =
    add-one _ ∙ ap (λ (o : Option Entry). maybe from suc (maybe none (λ x. some x.end) o)) (sym (last_at no_rec l k e))

module _ {p : List ℤ} (ok : SoundPart p) where
  after_small : day_after (point_from p).facts.install (point_from p).recs ≤ 40000
  after_small =
      let h : (point_from p).facts.install ≤ 39999 = (part_well ok).facts_ok.install_ok in
      day_after_le (recs_apart (part_well ok).recs_ok) (omega arith)

  append_is : (m d : ℕ) → m ≡ num_at p 5 → d ≡ day_after (point_from p).facts.install (point_from p).recs → day_if (first_on p m d) ≡ append_day_of (point_from p)
  unfolding append_day_of
  append_is m d em ed =
      ap₂ (λ t k. day_if (first_on t k d)) (sym (part_laid ok)) (em ∙ place_offs (part_well ok) (part_laid ok))
      ∙ first_on_is (part_well ok) d (omega (arith, after_small)) ∙ ap (skip (point_from p).offs) ed

  pub append_first : (m n d : ℕ) → m ≡ num_at p 5 → n ≡ num_at p 6 → n ≡ 0 → d ≡ num_at p 2 → day_if (first_on p m d) ≡ append_day_of (point_from p)
  append_first m n d em en z ed =
      append_is m d em (ed ∙ place_install (part_well ok) (part_laid ok) ∙ after_none _ (point_from p).recs (sym (place_recs (part_well ok) (part_laid ok)) ∙ sym en ∙ z))

  pub append_next : (m n d : ℕ) → m ≡ num_at p 5 → n ≡ num_at p 6 → (n ≡ 0 → ⊥) → d ≡ num_at p (48 + 4 * (n - 1) + 1) → day_if (first_on p m (d + 1)) ≡ append_day_of (point_from p)
  append_next m n d em en z ed =
      append_is m (d + 1) em
      (ap (λ k. k + 1) (ed ∙ end_at ok (n - 1)) ∙ after_last _ (point_from p).recs (n - 1) (omega (arith, en, place_recs (part_well ok) (part_laid ok), z)))
