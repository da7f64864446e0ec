-- 513 holidays are too many, and so are more: the numbers of such a list do not matter.
use mathlib.Core.Path.{◌≡◌, refl, sym, ap, ◌∙◌}
use mathlib.Core.Bool.{Bool, true, false}
use mathlib.Core.Logic.{⊎_elim}
use mathlib.Core.List.{List}
use Prim.Native.Nat.{ℕ, ◌-◌, ◌/◌, ◌<◌, min}
use native.Mathlib.Nat.{eq-zero-or-pos}
use native.Mathlib.Omega.{arith}
use lib.IntN.{ℤ}
use lib.ListN.{length}
use borrow.Author.Tests.{lt-leb}
use Rattle.calendar.specs.Calendar.{holiday_list}
use Rattle.daybook.specs.declared.TransferRequest.{TransferRequest}
use Rattle.daybook.specs.Editions.{editions}
use Rattle.layout.specs.Layout.{edition_of}
use Rattle.layout.proofs.Editions.{both_fit, edition_fits}
use Rattle.transfer.specs.Transfer.{request_call}
use Rattle.transfer.proofs.Requests.{in_range, request_range, request_holidays, request_early_lem}
use Rattle.buffers.specs.Buffers.{numbers_in, numbers_held}
use Rattle.buffers.proofs.Bytes.{numbers_length}

too_many_lem : (hs : List ℤ) → 512 < length hs → holiday_list hs ≡ false
unfolding holiday_list
too_many_lem hs h = rw (lt-leb (length hs) 512 h)

-- two lists that are none get the same
refused_alike : (t : List ℤ) (n : TransferRequest) (hs ks : List ℤ) → holiday_list hs ≡ false → holiday_list ks ≡ false
    → request_call editions t n hs ≡ request_call editions t n ks
refused_alike t n hs ks h k = go (in_range n) refl
  where
    go : (r : Bool) → in_range n ≡ r → request_call editions t n hs ≡ request_call editions t n ks
    go false f = request_early_lem (edition_of t) (edition_fits editions both_fit t) t refl n hs 2 (request_range n hs f) 1 refl ∙ sym (request_early_lem (edition_of t) (edition_fits editions both_fit t) t refl n ks 2 (request_range n ks f) 1 refl)
    go true f = request_early_lem (edition_of t) (edition_fits editions both_fit t) t refl n hs 3 (request_holidays n hs f h) 2 refl ∙ sym (request_early_lem (edition_of t) (edition_fits editions both_fit t) t refl n ks 3 (request_holidays n ks f k) 2 refl)

pub first_513 : (t : List ℤ) (n : TransferRequest) (b : List ℕ) → request_call editions t n (numbers_in b (min 513 (length b / 8))) ≡ request_call editions t n (numbers_held b)
first_513 t n b =
    let k : ℕ = length b / 8 in
    ⊎_elim
    (λ (l : k - 513 ≡ 0). let e : min 513 k ≡ k = omega arith in ap (λ m. request_call editions t n (numbers_in b m)) e)
    (λ (l : 0 < k - 513).
    refused_alike t n (numbers_in b (min 513 k)) (numbers_in b k)
    (too_many_lem _ (omega (arith, numbers_length b (min 513 k)))) (too_many_lem _ (omega (arith, numbers_length b k))))
    (eq-zero-or-pos (k - 513))
