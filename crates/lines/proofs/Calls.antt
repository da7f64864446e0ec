-- From a call on buffers to the outcome of its line. Assumes nothing.
use mathlib.Core.Path.{◌≡◌, refl, ◌∙◌}
use mathlib.Core.Bool.{Bool, true, not, ◌&&◌}
use mathlib.Core.List.{List, [], ◌∷◌, ◌++◌, append_assoc}
use mathlib.Core.Option.{none, some}
use Prim.Native.Nat.{ℕ, ◌+◌, ◌-◌, ◌*◌, ◌≤◌}
use native.Mathlib.Nat.{sub-zero}
use native.Mathlib.Omega.{arith}
use borrow.Author.Tests.{eqb-true, leb-true, not-true}
use lib.Dec.{eqb, leb}
use lib.IntN.{ℤ, negsuc}
use lib.ListN.{length, take, drop, replicate, length-drop}
use Rattle.numbers.proofs.Bools.{both}
use Rattle.buffers.specs.Buffers.{numbers_held, with_numbers}
use Rattle.journal.specs.declared.CallWord.{CallWord}
use Rattle.printing.specs.Rows.{row_bytes, row_of}
use Rattle.lending.specs.Lending.{bytes_of, answer_bytes}
use Rattle.lending.proofs.Bytes.{take_replicate, in_zeros, filled_in_zeros}
use Rattle.forms.specs.declared.Form.{Form}
use Rattle.forms.specs.Forms.{form_of, own_numbers, size_of}
use Rattle.calls.specs.Calls.{Left, called}
use Rattle.lines.specs.Lines.{line_numbers, most_room, table_room, acted, call_line, lengths, size, most_bytes, buffer_bytes, buffer, lendable, shown, showed, hub_line, Played}
use Rattle.lines.proofs.Outcomes.{on_lent_lem}
use Rattle.lines.proofs.Rows.{rest}

-- ---- a call that has been made, its buffers printed

module _ {l : Left} {b b' out out' answer table : List ℕ} {result : ℤ} (e : l ≡ record { result = result; register = b'; answer = answer; table = table }) (h : length out' ≤ length out + row_bytes) where
  pub acted_is : out' ≡ out ++ (row_of (numbers_held answer ++ numbers_held table)) → Played (some (acted l)) b out b' out' true
  acted_is w = rw e (record { room = h; left = refl; text = w; call = refl })

  pub showed_is : (f : Form) → out' ≡ out ++ (shown f result answer table) → Played (some (showed f l)) b out b' out' true
  showed_is f w = rw e (record { room = h; left = refl; text = w; call = refl })

-- a text with x behind it, and then b
pub joined : (out : List ℕ) {mid out' : List ℕ} (a b : List ℕ) (x : ℕ) → mid ≡ out ++ (a ++ (x ∷ [])) → out' ≡ mid ++ b → out' ≡ out ++ (a ++ (x ∷ b))
joined out a b x p q = rw (q, p, append_assoc, append_assoc)

-- ---- a call on the bytes that are lent; f is its form as the code has it

module _ (call : CallWord) (xs : List ℤ) (f : Form) (t : Bool) (is : f ≡ form_of call) (test : t ≡ eqb (length xs) (size_of f xs)) where
  pub not_counted : (b : List ℕ) (room : ℕ) → not t ≡ true → call_line call b room xs ≡ none
  unfolding call_line
  not_counted b room z = rw (← is, ← test, not-true t z)

  pub own_fits : (own : ℕ) → own ≡ own_numbers f → t ≡ true → own ≤ length xs
  own_fits own e z = omega (arith, eqb-true (length xs) (size_of f xs) (rw test at z))

  -- its buffers are made in zeros, and its answer table of numbers -7
  pub call_made : {out out' b' : List ℕ} (b list answer table : List ℕ) (own room n gives : ℕ)
      → t ≡ true → own ≡ own_numbers f → own ≤ length xs → length xs ≤ line_numbers
      → list ≡ with_numbers (take (length xs - own) (drop own xs)) (take (8 * length (take (length xs - own) (drop own xs))) (replicate (8 * line_numbers) 0))
      → n ≡ table_room f room → n ≤ most_room
      → table ≡ with_numbers (replicate n (negsuc 6)) (take (8 * n) (replicate (8 * most_room) 0))
      → gives ≡ 8 * f.gives → gives ≤ answer_bytes → answer ≡ take (gives - 0) (replicate answer_bytes 0)
      → Played (some (acted (called call xs list b answer table))) b out b' out' true → Played (call_line call b room xs) b out b' out' true
  unfolding call_line
  call_made b list answer table own room n gives z own_is fits few list-is n-is small table_is gives-is short answer_is p =
      let long : 8 * length (drop own xs) ≤ 8 * line_numbers = omega (arith, length-drop own xs) in
      let l : list ≡ bytes_of (drop (own_numbers f) xs) = rw (rest xs own, in_zeros (drop own xs) (8 * line_numbers) long, own_is) at list-is in
      let s : table ≡ bytes_of (replicate (table_room f room) (negsuc 6)) = rw (← n-is) (table_is ∙ filled_in_zeros n (8 * most_room) (negsuc 6) (omega arith)) in
      let a : answer ≡ replicate (8 * f.gives) 0 = rw (sub-zero gives, take_replicate {A = ℕ} gives answer_bytes 0 short, gives-is) at answer_is in
      rw (← is, ← test, z) (rw (l, s, a) at p)

-- ---- a call on buffers whose lengths the line says

-- what a line that is lendable says of its numbers
pub record Lent (f : Form) (xs : List ℤ) : Type 0 where
  pub count : length xs ≡ lengths f + f.takes
  pub register : size xs 0 ≤ buffer_bytes
  pub answer : size xs 1 ≤ most_bytes
  pub table : table_room f (size xs 2) ≤ most_bytes

pub lent : (f : Form) (xs : List ℤ) (t : Bool) → t ≡ lendable f xs → t ≡ true → Lent f xs
lent f xs t test z =
    let a = leb (size xs 0) buffer_bytes in
    let b = leb (size xs 1) most_bytes in
    let d = leb (table_room f (size xs 2)) most_bytes in
    let first = both (eqb (length xs) (lengths f + f.takes)) (a && (b && d)) (rw test at z) in
    let second = both a (b && d) first.1 in
    let third = both b d second.1 in
    record {
      count = eqb-true (length xs) (lengths f + f.takes) first.0;
      register = leb-true (size xs 0) buffer_bytes second.0;
      answer = leb-true (size xs 1) most_bytes third.0;
      table = leb-true (table_room f (size xs 2)) most_bytes third.1;
    }

module _ (call : CallWord) (xs : List ℤ) (f : Form) (t : Bool) (is : f ≡ form_of call) (test : t ≡ lendable f xs) where
  pub not_lent : (b : List ℕ) → not t ≡ true → hub_line call b xs ≡ none
  unfolding hub_line
  not_lent b z = rw (← is, ← test, not-true t z)

  -- its buffers are the first bytes of others, each 170
  pub hub_made : {out out' u : List ℕ} (b answer table : List ℕ) (from n m k : ℕ)
      → t ≡ true → from ≡ lengths f → n ≡ size xs 0 → m ≡ size xs 1 → m ≤ most_bytes → k ≡ table_room f (size xs 2) → k ≤ most_bytes
      → answer ≡ take (m - 0) (buffer most_bytes) → table ≡ take (k - 0) (buffer most_bytes)
      → Played (some (showed f (called call (take (length xs - from) (drop from xs)) [] (take (n - 0) b) answer table))) (take (n - 0) b) out u out' true
      → Played (hub_line call b xs) b out (u ++ drop (n - 0) b) out' true
  unfolding hub_line
  hub_made b answer table from n m k z from_is n-is m-is few k-is small answer_is table_is p =
      let a : answer ≡ buffer (size xs 1) = rw (sub-zero m, take_replicate {A = ℕ} m most_bytes 170 few, m-is) at answer_is in
      let s : table ≡ buffer (table_room f (size xs 2)) = rw (sub-zero k, take_replicate {A = ℕ} k most_bytes 170 small, k-is) at table_is in
      let q = rw (rest xs from, sub-zero n, a, s, from_is, n-is) at p in
      rw (← is, ← test, z, sub-zero n, n-is) (on_lent_lem b _ (size xs 0) _ q)
