-- The numbers of a line, word by word as the code goes. Assumes nothing.
use Rattle.std.proofs.Common.{◌≡◌, ℕ, suc, ◌+◌, ◌≤◌, ◌<◌, List, [], ◌∷◌, ◌++◌, ℤ, length, get_or, take, drop, set, refl, sym, ap, ◌∙◌, append_assoc, append-nil, add-one}
use mathlib.Core.Option.{Option, none, some}
use lib.ListN.{drop_of_length-le}
use lib.Seq.{drop-cons, take-suc-set}
use Rattle.numbers.specs.Search.{maybe}
use Rattle.journal.specs.Text.{number_of, numbers_of}

-- numbers read, with what is left of the line read behind them
abbrev pub behind : List ℤ → Option (List ℤ) → Option (List ℤ)
behind xs o = maybe none (λ ys. some (xs ++ ys)) o

pub behind_nothing : (o : Option (List ℤ)) → behind [] o ≡ o
behind_nothing none = refl
behind_nothing (some ys) = refl

behind_one : (t : List ℤ) (n : ℕ) (x : ℤ) (o : Option (List ℤ)) → n < length t → behind (take n t) (maybe none (λ xs. some (x ∷ xs)) o) ≡ behind (take (n + 1) (set t n x)) o
behind_one t n x none h = refl
behind_one t n x (some ys) h = rw (add-one n, take-suc-set, append_assoc)

pub numbers_end : (ws : List (List ℕ)) (n : ℕ) (xs : List ℤ) → length ws ≤ n → some xs ≡ behind xs (numbers_of (drop n ws))
unfolding numbers_of
numbers_end ws n xs h = rw (drop_of_length-le ws h, append-nil)

-- a word that is a number, and one that is none
module _ (ws : List (List ℕ)) (t : List ℤ) (n : ℕ) (w : List ℕ) (h : (n < length ws) × (w ≡ get_or ws n w)) where
  cut : drop n ws ≡ w ∷ drop (n + 1) ws
  cut = rw (add-one n) (drop-cons ws n w h.0 ∙ ap (λ v. v ∷ drop (suc n) ws) (sym h.1))

  pub numbers_more : (x : ℤ) → some x ≡ number_of w → n < length t → behind (take n t) (numbers_of (drop n ws)) ≡ behind (take (n + 1) (set t n x)) (numbers_of (drop (n + 1) ws))
  unfolding numbers_of
  numbers_more x q l = rw (cut, sym q) (behind_one t n x (numbers_of (drop (n + 1) ws)) l)

  pub numbers_none : none ≡ number_of w → behind (take n t) (numbers_of (drop n ws)) ≡ none
  unfolding numbers_of
  numbers_none q = rw (cut, sym q)
