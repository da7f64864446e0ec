-- What a call is told of its table and of the point of its MIRN: that it is sent back, or where the part stands. Assumes
-- nothing.
use mathlib.Core.Path.{◌≡◌, refl, sym, ap, ◌∙◌}
use mathlib.Core.Bool.{Bool, true, false, cond}
use mathlib.Core.Option.{Option, none, some}
use mathlib.Core.List.{List, []}
use Prim.Native.Nat.{ℕ, zero, suc, ◌+◌, ◌≤◌, ◌<◌}
use native.Mathlib.Omega.{arith}
use lib.IntN.{ℤ}
use lib.ListN.{length}
use mir.Facts.{to_z-of_z}
use mir.Syntax.{w64}
use mir.Val.{to_z, of_z, SFits}
use Rattle.std.specs.Prelude.{Result, Ok, Err}
use Rattle.refusals.specs.declared.Refusal.{Refusal}
use Rattle.refusals.specs.declared.Refusal.TheVariants as Refusal·
use Rattle.refusals.specs.Refusals.{number_of}
use Rattle.refusals.proofs.Numbers.{number_within}
use Rattle.numbers.specs.Naturals.{nat_of}
use Rattle.numbers.specs.Search.{maybe}
use Rattle.daybook.specs.declared.Edition.{Edition}
use Rattle.daybook.specs.Editions.{editions}
use Rattle.layout.specs.Layout.{place_of, Fits, edition_of, part_of}
use Rattle.layout.specs.Sound.{sound}
use Rattle.table.specs.declared.Located.{Located}
use Rattle.table.specs.Lookup.{index_of, look_up}
use Rattle.table.specs.InnerTable.{sound_edition, place_of_mirn}
use Rattle.table.proofs.Laws.{lent, part_is_lem, place_small, place_next, sound_long}

-- The call found point i, of its MIRN.
pub record PartFound (ed : Edition) (t : List ℤ) (m : ℤ) (early a b : ℕ) : Type 0 where
  pub is_sound : sound ed t ≡ true
  pub passed : early ≡ 0
  pub i : ℕ
  pub index : index_of ed t (nat_of m) ≡ some i
  pub from : a ≡ place_of ed i
  pub to : b ≡ place_of ed (i + 1)

-- The row r sent it back.
pub data SentBack (ed : Edition) (t : List ℤ) (m : ℤ) (early : ℕ) : ℕ → Type 0 where
  unsound : sound ed t ≡ false → SentBack ed t m early 1
  by_numbers : sound ed t ≡ true → (r : ℕ) → early ≡ suc r → SentBack ed t m early (suc r)
  unknown : sound ed t ≡ true → early ≡ 0 → index_of ed t (nat_of m) ≡ none → SentBack ed t m early 4

-- ---- is the table sound?

module _ (t : List ℤ) where
  module _ {ed : Edition} (g : ed ≡ edition_of t) where
    pub given_sound : sound ed t ≡ true → Ok ed ≡ sound_edition t
    unfolding sound_edition
    given_sound s = rw (← g, s)

    pub given_unsound : sound ed t ≡ false → Err Refusal·.Unsound ≡ sound_edition t
    unfolding sound_edition
    given_unsound s = rw (← g, s)

  pub not_sound : {e : Refusal} → Err e ≡ sound_edition t → (e ≡ Refusal·.Unsound) × (sound (edition_of t) t ≡ false)
  unfolding sound_edition
  not_sound {e} h = go (sound (edition_of t) t) refl h
    where
      go : (s : Bool) → sound (edition_of t) t ≡ s → Err e ≡ cond s (Ok (edition_of t)) (Err Refusal·.Unsound) → (e ≡ Refusal·.Unsound) × (sound (edition_of t) t ≡ false)
      go true s h = let k : ◌≡◌ {A = ℕ} 0 1 = cc in absurd (omega arith)
      go false s h = (cc, s)

  pub nothing_sound : (m : ℤ) {e : Refusal} → Err e ≡ sound_edition t → [] ≡ look_up editions t m
  unfolding look_up
  nothing_sound m h = rw (not_sound h).1

-- ---- a call's own numbers

pub back_numbers : {ed : Edition} {t : List ℤ} {m : ℤ} {early : ℕ} (e : Refusal) → sound ed t ≡ true → number_of e ≡ early → SentBack ed t m early (number_of e)
back_numbers {ed} {t} {m} {early} e s h = go (number_of e) refl
  where
    go : (n : ℕ) → number_of e ≡ n → SentBack ed t m early n
    go zero z = absurd (omega (arith, z, number_within e))
    go (suc r) z = by_numbers s r (sym h ∙ z)

-- ---- the point of a MIRN

module _ (ed : Edition) (t : List ℤ) where
  pub given_none : (m : ℤ) → none ≡ index_of ed t (nat_of m) → Err Refusal·.UnknownMirn ≡ place_of_mirn ed t m
  unfolding place_of_mirn
  given_none m h = rw (← h)

  pub given_place : (m : ℤ) {i a b : ℕ} → some i ≡ index_of ed t (nat_of m) → a ≡ place_of ed i → b ≡ place_of ed (i + 1)
      → Ok (record { from = a; to = b }) ≡ place_of_mirn ed t m
  unfolding place_of_mirn
  given_place m h x y = rw (← h, x, y)

  -- its part can be lent
  pub place_within : {i a b : ℕ} → Fits ed → sound ed t ≡ true → i < ed.points → a ≡ place_of ed i → b ≡ place_of ed (i + 1) → (a ≤ b) × (b ≤ length t)
  place_within {i} fits s l x y =
      (omega (arith, x, y, place_next ed fits i), omega (arith, y, place_small ed fits (i + 1) (omega arith), (sound_long ed t s).0))

-- what a caller is told, whose MIRN is read as the machine holds it
module _ (ed : Edition) (t : List ℤ) (m : ℤ) (f : SFits w64 m) where
  pub copied : {r : Result Located Refusal} → r ≡ place_of_mirn ed t (to_z w64 (of_z w64 m)) → r ≡ place_of_mirn ed t m
  copied e = e ∙ ap (λ m. place_of_mirn ed t m) (to_z-of_z f)

  unknown_mirn : {e : Refusal} → Err e ≡ place_of_mirn ed t (to_z w64 (of_z w64 m)) → (e ≡ Refusal·.UnknownMirn) × (index_of ed t (nat_of m) ≡ none)
  unfolding place_of_mirn
  unknown_mirn {e} h = go (index_of ed t (nat_of m)) refl (copied h)
    where
      go : (o : Option ℕ) → index_of ed t (nat_of m) ≡ o → ◌≡◌ {A = Result Located Refusal} (Err e) (maybe (Err Refusal·.UnknownMirn) (λ i. Ok (record { from = place_of ed i; to = place_of ed (i + 1) })) o) → (e ≡ Refusal·.UnknownMirn) × (index_of ed t (nat_of m) ≡ none)
      go none x h = (cc, x)
      go (some i) x h = let k : ◌≡◌ {A = ℕ} 0 1 = cc in absurd (omega arith)

  pub part_found : {early : ℕ} {p : Located} → sound ed t ≡ true → early ≡ 0 → Ok p ≡ place_of_mirn ed t (to_z w64 (of_z w64 m)) → PartFound ed t m early p.from p.to
  unfolding place_of_mirn
  part_found {early} {p} s z h = go (index_of ed t (nat_of m)) refl (copied h)
    where
      go : (o : Option ℕ) → index_of ed t (nat_of m) ≡ o → ◌≡◌ {A = Result Located Refusal} (Ok p) (maybe (Err Refusal·.UnknownMirn) (λ i. Ok (record { from = place_of ed i; to = place_of ed (i + 1) })) o) → PartFound ed t m early p.from p.to
      go none x h = let k : ◌≡◌ {A = ℕ} 0 1 = cc in absurd (omega arith)
      go (some i) x h = record { is_sound = s; passed = z; i = i; index = x; from = cc; to = cc }

  pub back_unknown : {early : ℕ} {e : Refusal} → sound ed t ≡ true → early ≡ 0 → Err e ≡ place_of_mirn ed t (to_z w64 (of_z w64 m)) → SentBack ed t m early (number_of e)
  back_unknown s z h = let w = unknown_mirn h in rw w.0 (unknown s z w.1)

  pub nothing_known : {e : Refusal} → ed ≡ edition_of t → sound ed t ≡ true → Err e ≡ place_of_mirn ed t (to_z w64 (of_z w64 m)) → [] ≡ look_up editions t m
  unfolding look_up
  nothing_known g s h = rw (← g, s, (unknown_mirn h).1)

-- ---- the part that was found

module _ {ed : Edition} {t : List ℤ} {m : ℤ} {early a b : ℕ} (fits : Fits ed) (h : PartFound ed t m early a b) where
  pub at_part : lent t a b ≡ part_of ed t h.i
  at_part = part_is_lem ed fits t h.i a b h.from h.to

  pub looked_up : ed ≡ edition_of t → lent t a b ≡ look_up editions t m
  unfolding look_up
  looked_up g = rw (← g, h.is_sound, h.index) at_part
