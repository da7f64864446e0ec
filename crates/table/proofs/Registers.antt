-- What the facts of a register are for: it is long enough, has not too many points, and each point's part is sound. And
-- what they say of the table that it was made of. Assumes nothing.
use Rattle.std.specs.Prelude.{Result}
use Rattle.std.proofs.Common.{◌≡◌, true, List, ℕ, ◌<◌, ◌≤◌, ℤ, length, ap, sym, ◌∙◌, arith}
use Rattle.refusals.specs.declared.Refusal.{Refusal}
use Rattle.layout.specs.Layout.{table_length, stride, Fits, edition_of}
use Rattle.layout.specs.Sound.{sound}
use Rattle.layout.specs.InnerParts.{SoundPart}
use Rattle.layout.proofs.SoundParts.{part_length, sound_at}
use Rattle.table.specs.declared.Located.{Located}
use Rattle.table.specs.InnerTable.{place_of_mirn}
use Rattle.table.specs.declared.register.Register.{Register}
use Rattle.table.specs.InnerRegisters.{number_of_points, part_of}
use Rattle.table.proofs.Laws.{sound_long}

module _ (r : Register) where
  pub register_long : table_length ≤ length r.table.now
  register_long = (sound_long _ _ r.is_sound).0

  pub register_few : number_of_points r ≤ r.edition.points
  register_few = (sound_long _ _ r.is_sound).1

  module _ (i : ℕ) (h : i < number_of_points r) where
    pub register_part : SoundPart (part_of r i)
    register_part = sound_at r.edition r.fits r.table.now i r.is_sound (omega (arith, h, register_few))

    pub register_stride : length (part_of r i) ≡ stride r.edition
    register_stride = part_length r.edition r.fits r.table.now i (omega (arith, h, register_few)) register_long

  module _ {t : List ℤ} (e : (r.table.now ≡ t) × (r.edition ≡ edition_of t)) where
    pub own_edition : r.edition ≡ edition_of r.table.now
    own_edition = e.1 ∙ ap edition_of (sym e.0)

    pub table_passes : Fits r.edition × (r.edition ≡ edition_of t) × (sound r.edition t ≡ true)
    table_passes = (r.fits, e.1, ap (sound r.edition) (sym e.0) ∙ r.is_sound)

    pub located_in : (m : ℤ) {p : Result Located Refusal} → p ≡ place_of_mirn r.edition r.table.now m → p ≡ place_of_mirn r.edition t m
    located_in m h = h ∙ ap (λ t. place_of_mirn r.edition t m) e.0
