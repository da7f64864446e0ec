-- The words of a line are the parts between its spaces that hold a byte. Assumes nothing.
use Rattle.std.proofs.Common.{◌≡◌, ℕ, suc, ◌+◌, ◌*◌, ◌≤◌, ◌<◌, Bool, true, false, cond, not, eqb, List, [], ◌∷◌, length, get_or, refl, ap, arith}
use Rattle.std.specs.List.{slice_split, onto_first, filter}
use borrow.Author.Tests.{eqb-true, ne_eqb}
use Rattle.journal.specs.Text.{words_of, begun}

abbrev pub is_space : ℕ → Bool
is_space b = eqb b 32

abbrev pub holds_a_byte : List ℕ → Bool
holds_a_byte w = not (eqb (length w) 0)

abbrev pub held : List (List ℕ) → List (List ℕ)
held parts = filter holds_a_byte parts

held_word : (b : ℕ) (part : List ℕ) (parts : List (List ℕ)) → held ((b ∷ part) ∷ parts) ≡ (b ∷ part) ∷ held parts
held_word b part parts = let n : suc (length part) ≡ 0 → ⊥ = λ e. omega arith in rw (ne_eqb (suc (length part)) 0 n)

-- b begins a word, or goes on with the one that a begins
begun_before : (b a : ℕ) (s : List ℕ) → words_of (a ∷ s) ≡ held (slice_split is_space (a ∷ s)) → begun b (a ∷ s) (words_of (a ∷ s)) ≡ held (onto_first b (slice_split is_space (a ∷ s)))
begun_before b a s h = rw h (go (eqb a 32) refl (slice_split is_space s))
  where
    space : (ws : List (List ℕ)) → begun b (32 ∷ s) ws ≡ (b ∷ []) ∷ ws
    space [] = refl
    space (w ∷ ws) = refl

    go : (t : Bool) → eqb a 32 ≡ t → (parts : List (List ℕ)) → begun b (a ∷ s) (held (cond (eqb a 32) ([] ∷ parts) (onto_first a parts))) ≡ held (onto_first b (cond (eqb a 32) ([] ∷ parts) (onto_first a parts)))
    go true e parts = rw (eqb-true a 32 e) (space (held parts))
    go false e [] = rw (e, held_word a [] [], held_word b (a ∷ []) [], begun, e)
    go false e (part ∷ parts) = rw (e, held_word a part parts, held_word b (a ∷ part) parts, begun, e)

begun_is : (b : ℕ) (s : List ℕ) → words_of s ≡ held (slice_split is_space s) → begun b s (words_of s) ≡ held (onto_first b (slice_split is_space s))
unfolding words_of
begun_is b [] h = refl
begun_is b (a ∷ s) h = begun_before b a s h

pub words_are : (s : List ℕ) → words_of s ≡ held (slice_split is_space s)
unfolding words_of
words_are [] = refl
words_are (b ∷ s) = go (eqb b 32) refl (words_are s)
  where
    go : (t : Bool) → eqb b 32 ≡ t → words_of s ≡ held (slice_split is_space s) → words_of (b ∷ s) ≡ held (slice_split is_space (b ∷ s))
    go true e h = rw e h
    go false e h = rw e (begun_is b s h)

-- a word has a byte at least, and a space follows each part but the last
sizes : List (List ℕ) → ℕ
sizes [] = 0
sizes (part ∷ parts) = length part + 1 + sizes parts

parts_sizes : (s : List ℕ) → sizes (slice_split is_space s) ≡ length s + 1
unfolding sizes
parts_sizes [] = refl
parts_sizes (b ∷ s) = go (eqb b 32) refl (slice_split is_space s) (parts_sizes s)
  where
    go : (t : Bool) → eqb b 32 ≡ t → (parts : List (List ℕ)) → sizes parts ≡ length s + 1 → sizes (cond (eqb b 32) ([] ∷ parts) (onto_first b parts)) ≡ suc (length s) + 1
    go true e parts h = rw e (omega arith)
    go false e [] h = absurd (omega arith)
    go false e (part ∷ parts) h = rw e (omega arith)

held_few : (parts : List (List ℕ)) → 2 * length (held parts) ≤ sizes parts
unfolding sizes
held_few [] = omega arith
held_few ([] ∷ parts) = omega (arith, held_few parts)
held_few ((b ∷ part) ∷ parts) = omega (arith, held_few parts, ap length (held_word b part parts))

pub words_few : (s : List ℕ) → 2 * length (words_of s) ≤ length s + 1
words_few s = rw (words_are s) (omega (arith, held_few (slice_split is_space s), parts_sizes s))

-- the part that comes after k others that hold a byte
module _ (s : List ℕ) (n k : ℕ) (is : n ≡ k) where
  pub word_at : (w : List ℕ) → (k < length (held (slice_split is_space s))) × (w ≡ get_or (held (slice_split is_space s)) k w) → (n < length (words_of s)) × (w ≡ get_or (words_of s) n w)
  word_at w h = rw (is, words_are s) h

  pub words_end : k ≡ length (held (slice_split is_space s)) → n ≡ length (words_of s)
  words_end h = rw (is, words_are s) h
