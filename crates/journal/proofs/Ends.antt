-- Where a word of a line begins and ends, from the first byte that is no space, or is one. Assumes nothing.
use Rattle.std.proofs.Common.{◌≡◌, ◌≢◌, ℕ, zero, suc, ◌+◌, ◌-◌, ◌≤◌, ◌<◌, Bool, true, false, ltb, List, [], ◌∷◌, length, get_or, take, drop, refl, sym, ap, ◌∙◌, arith}
use mathlib.Core.List.{◌++◌}
use native.Mathlib.Nat.{add-zero}
use borrow.Author.Tests.{ltb-true, ltb-false, ne_eqb}
use Rattle.std.specs.List.{AllWithin, HoldsAt}
use lib.ListN.{length-take, length-drop, take-append-drop}
use lib.Seq.{drop-drop, get_or-take, get_or-drop}
use Rattle.journal.specs.Text.{words_of, begun}
use Rattle.journal.specs.InnerText.{Skipped, Ended}

-- spaces before it change no word
spaces : (s : List ℕ) (n : ℕ) → n ≤ length s → AllWithin (λ b. b ≡ 32) s 0 n → words_of (drop n s) ≡ words_of s
unfolding words_of
spaces s zero l h = refl
spaces [] (suc n) l h = absurd (omega arith)
spaces (b ∷ s) (suc n) l h =
    let e : b ≡ 32 = h 0 0 (omega arith) (omega arith) in
    rw e (spaces s n (omega arith) (λ k d m q. h (suc k) d (omega arith) (omega arith)))

module _ (line : List ℕ) (at n : ℕ) (w : n ≤ length (drop at line)) (l : at ≤ length line) where
  within : at + n ≤ length line
  within = omega (arith, length-drop at line)

  pub skipped : AllWithin (λ b. b ≡ 32) (drop at line) 0 n → (n < length (drop at line) → HoldsAt (λ b. b ≢ 32) (drop at line) n) → Skipped line at (at + n)
  skipped h e = record {
    from = omega arith;
    within = within;
    same_words = ap words_of (sym (drop-drop n at line)) ∙ spaces (drop at line) n w h;
    stops = λ q f. e (omega (arith, length-drop at line)) 0 (get_or-drop at line n 0 ∙ f);
  }

  pub ended : AllWithin (λ b. b ≢ 32) (drop at line) 0 n → (n < length (drop at line) → HoldsAt (λ b. b ≡ 32) (drop at line) n) → Ended line at (at + n)
  ended h e = record {
    from = omega arith;
    within = within;
    unbroken = λ k q f g. let i : at + (k - at) ≡ k = omega arith in h (k - at) 0 (omega arith) (omega arith) (get_or-drop at line (k - at) 0 ∙ ap (λ j. get_or line j 0) i ∙ g);
    stops = λ q. sym (get_or-drop at line n 0) ∙ e (omega (arith, length-drop at line)) 0;
  }

-- ---- what lies between is a word

-- a space ends a word
begun_break : (b : ℕ) (s : List ℕ) (ws : List (List ℕ)) → begun b (32 ∷ s) ws ≡ (b ∷ []) ∷ ws
begun_break b s [] = refl
begun_break b s (w ∷ ws) = refl

-- bytes that are no spaces are a word, where a space or nothing follows
pub word_first : (w s : List ℕ) → 0 < length w → ((k : ℕ) → k < length w → get_or w k 0 ≡ 32 → ⊥) → (0 < length s → get_or s 0 0 ≡ 32) → words_of (w ++ s) ≡ w ∷ words_of s
unfolding words_of
word_first [] s h u e = absurd (omega arith)
word_first (a ∷ []) [] h u e = rw (ne_eqb a 32 (u 0 (omega arith)))
word_first (a ∷ []) (b ∷ s) h u e =
    rw (ne_eqb a 32 (u 0 (omega arith)), e (omega arith)) (begun_break a s (words_of s))
word_first (a ∷ b ∷ w) s h u e =
    rw (ne_eqb a 32 (u 0 (omega arith)), word_first (b ∷ w) s (omega arith) (λ k l. u (suc k) (omega arith)) e, ne_eqb b 32 (u 1 (omega arith)))

module _ (line : List ℕ) (i e : ℕ) (h : i < length line) (begins : get_or line i 0 ≡ 32 → ⊥) (ends : Ended line i e) where
  pub word_moves : i < e
  word_moves = go (ltb i e) refl
    where
      go : (t : Bool) → ltb i e ≡ t → i < e
      go true q = ltb-true i e q
      go false q =
          let l : e ≤ i = ltb-false i e q in
          let same : e ≡ i = omega (arith, ends.from) in
          let k : e < length line = omega arith in
          absurd (begins (rw same at (ends.stops k)))

  pub word_next : words_of (drop i line) ≡ take (e - i) (drop i line) ∷ words_of (drop e line)
  word_next =
      let m : i < e = word_moves in
      let w : e ≤ length line = ends.within in
      let size : length (take (e - i) (drop i line)) ≡ e - i = simp (length-take, length-drop) (omega arith) in
      let there : i + (e - i) ≡ e = omega arith in
      let rest : drop (e - i) (drop i line) ≡ drop e line = drop-drop (e - i) i line ∙ ap (λ (k : ℕ). drop k line) there in
      let unbroken : (k : ℕ) → k < length (take (e - i) (drop i line)) → get_or (take (e - i) (drop i line)) k 0 ≡ 32 → ⊥ = λ k l q.
      let n : k < e - i = omega arith in
      ends.unbroken (i + k) (omega arith) (omega arith) (rw (get_or-take, get_or-drop) at q) in
      let stops : 0 < length (drop e line) → get_or (drop e line) 0 0 ≡ 32 = λ l.
      rw (get_or-drop, add-zero) (ends.stops (omega (arith, length-drop e line))) in
      ap words_of (sym (take-append-drop (e - i) (drop i line)) ∙ ap (λ (s : List ℕ). take (e - i) (drop i line) ++ s) rest) ∙ word_first (take (e - i) (drop i line)) (drop e line) (omega arith) unbroken stops
