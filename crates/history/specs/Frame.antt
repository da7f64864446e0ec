-- What a call that writes a point leaves as it was, for any table and numbers and any two editions that fit.
use Rattle.std.specs.Prelude.{◌≡◌, Bool, false, not, ◌&&◌, ◌||◌, List, ℕ, ◌+◌, leb, ltb, eqb, ℤ, pos, length, get_or}
use Rattle.numbers.specs.Naturals.{nat_of}
use Rattle.numbers.specs.Search.{maybe}
use Rattle.daybook.specs.declared.Edition.{Edition}
use Rattle.daybook.specs.declared.Opening.{Opening}
use Rattle.daybook.specs.declared.EnergyNotice.{EnergyNotice}
use Rattle.daybook.specs.declared.StatusNotice.{StatusNotice}
use Rattle.daybook.specs.declared.TransferRequest.{TransferRequest}
use Rattle.daybook.specs.declared.Withdrawal.{Withdrawal}
use Rattle.daybook.specs.declared.Correction.{Correction}
use Rattle.daybook.specs.Editions.{Editions}
use Rattle.layout.specs.Places.{points_place, operator_place}
use Rattle.layout.specs.Layout.{stride, place_of, edition_in, num_at}
use Rattle.table.specs.Lookup.{index_of}
use Rattle.opening.specs.Opening.{open_call}
use Rattle.energy.specs.Energy.{energy_call}
use Rattle.status.specs.Status.{status_call}
use Rattle.transfer.specs.Transfer.{request_call, withdraw_call}
use Rattle.correction.specs.Correction.{correct_call}

-- Does place k lie in the part of point i?
abbrev pub in_part : Edition → ℕ → ℕ → Bool
in_part ed i k = leb (place_of ed i) k && ltb k (place_of ed i + stride ed)

-- In the part of the point of this MIRN, if there is one, and not the place of its operator?
abbrev pub of_point : Editions → List ℤ → ℤ → ℕ → Bool
of_point E t mirn k =
    let ed : Edition = edition_in E t in
    maybe false (λ i. in_part ed i k && not (eqb k (place_of ed i + operator_place))) (index_of ed t (nat_of mirn))

-- In the part of one more point, or the count of points?
abbrev pub of_new_point : Editions → List ℤ → ℕ → Bool
of_new_point E t k = eqb k points_place || in_part (edition_in E t) (num_at t points_place) k

-- The table t' is as long as t, and has the same number at every place but the call's own.
pub record Framed (own : ℕ → Bool) (t t' : List ℤ) : Type 0 where
  pub same_length : length t' ≡ length t
  pub outside : (k : ℕ) → own k ≡ false → get_or t' k (pos 0) ≡ get_or t k (pos 0)

-- A notice leaves every number outside its own point's part as it was, and that point's operator, be it 0 (document 02,
-- g); an opening every number but those of the new point's part and the count of points.
pub record Frames (E : Editions) : Type 0 where
  pub opening : (t : List ℤ) (n : Opening) → Framed (of_new_point E t) t (open_call E t n).1
  pub energy : (t : List ℤ) (n : EnergyNotice) → Framed (of_point E t n.mirn) t (energy_call E t n).1
  pub status : (t : List ℤ) (n : StatusNotice) → Framed (of_point E t n.mirn) t (status_call E t n).1
  pub request :
      (t : List ℤ) (n : TransferRequest) (holidays : List ℤ)
      → Framed (of_point E t n.mirn) t (request_call E t n holidays).1
  pub withdraw : (t : List ℤ) (n : Withdrawal) → Framed (of_point E t n.mirn) t (withdraw_call E t n).1
  pub correct : (t : List ℤ) (n : Correction) → Framed (of_point E t n.mirn) t (correct_call E t n).1
