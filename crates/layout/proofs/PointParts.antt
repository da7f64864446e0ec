-- The parts of a laid out register, whatever numbers follow it: each is its point's, and a changed part is the layout
-- with the changed point. Assumes nothing.
use mathlib.Core.Path.{◌≡◌, refl, sym, ◌∙◌, ap, ap₂, subst}
use mathlib.Core.List.{List, [], ◌∷◌, ◌++◌, append_assoc}
use Prim.Native.Nat.{ℕ, suc, ◌+◌, ◌-◌, ◌*◌, ◌≤◌}
use native.Mathlib.Omega.{arith}
use native.Mathlib.Nat.{mul-suc, mul-zero, mul-le-mul_left}
use lib.ListN.{length, take, drop, length-append, take-append-drop}
use lib.Seq.{take_at, drop_at}
use lib.IntN.{ℤ, pos}
use Rattle.daybook.specs.declared.Edition.{Edition}
use Rattle.lists.specs.Lists.{Lists, Register}
use Rattle.lists.specs.InnerWell.{Points, nopoint, point}
use Rattle.layout.specs.Layout.{table_length, stride, place_of, Fits, part_of, pad, point_numbers, points_numbers, layout}
use Rattle.layout.specs.InnerWrites.{with_part}
use Rattle.layout.proofs.Numbers.{length_pad, Few, few as few_of, length_point}
use Rattle.layout.proofs.Blocks.{zeros_of}

-- ---- points that fit

pub data AllFew (room : ℕ) : List Lists → Type 0 where
  nofew : AllFew room []
  few : {q : Lists} {qs : List Lists} → Few room q → AllFew room qs → AllFew room (q ∷ qs)

pub all_few_of : {room : ℕ} {qs : List Lists} → Points room qs → AllFew room qs
all_few_of nopoint = nofew
all_few_of (point w n r) = few (few_of w) (all_few_of r)

pub few_before : {room : ℕ} (a b : List Lists) → AllFew room (a ++ b) → AllFew room a
few_before [] b f = nofew
few_before (q ∷ a) b (few f r) = few f (few_before a b r)

pub few_here : {room : ℕ} (a : List Lists) (q : Lists) (b : List Lists) → AllFew room (a ++ q ∷ b) → Few room q
few_here [] q b (few f r) = f
few_here (x ∷ a) q b (few f r) = few_here a q b r

pub few_more : {room : ℕ} {l : List Lists} {q : Lists} → AllFew room l → Few room q → AllFew room (l ++ (q ∷ []))
few_more nofew g = few g nofew
few_more (few f r) g = few f (few_more r g)

pub few_put : {room : ℕ} (a : List Lists) (q q' : Lists) (b : List Lists) → AllFew room (a ++ q ∷ b) → Few room q' → AllFew room (a ++ q' ∷ b)
few_put [] q q' b (few f r) g = few g r
few_put (x ∷ a) q q' b (few f r) g = few f (few_put a q q' b r g)

-- ---- points as numbers

pub points_append : (room : ℕ) (a b : List Lists) → points_numbers room (a ++ b) ≡ points_numbers room a ++ points_numbers room b
unfolding points_numbers
points_append room [] b = refl
points_append room (q ∷ a) b =
    ap (λ t. point_numbers room q ++ t) (points_append room a b) ∙ sym (append_assoc (point_numbers room q) (points_numbers room a) (points_numbers room b))

pub points_length : {room : ℕ} {l : List Lists} → AllFew room l → length (points_numbers room l) ≡ (48 + 4 * room) * length l
unfolding points_numbers
points_length {room} nofew = sym (mul-zero (48 + 4 * room))
points_length {room} (few {q = q} {qs = l} f r) =
    length-append (point_numbers room q) (points_numbers room l)
    ∙ more (48 + 4 * room) (length (point_numbers room q)) (length (points_numbers room l)) (length l) (length_point f) (points_length r) (mul-suc (48 + 4 * room) (length l))
  where
    more : (s x y n : ℕ) → x ≡ s → y ≡ s * n → s * suc n ≡ s * n + s → x + y ≡ s * suc n
    more s x y n a b c = omega arith

-- ---- a register's numbers, cut at its points

unfoldable pub with_points : List Lists → Register → Register
with_points l R = record { nondaily = R.nondaily; daily = R.daily; points = l }

module _ (ed : Edition) (R : Register) where
  -- the first eight numbers, with n points
  abbrev pub eight : ℕ → List ℤ
  eight n = pad 8 (pos n ∷ R.nondaily ∷ R.daily ∷ pos ed.number ∷ [])

  -- the header and the points l, with n points said
  abbrev pub up_to : ℕ → List Lists → List ℤ
  up_to n l = eight n ++ points_numbers ed.records l

  pub up_to_length : (n : ℕ) {l : List Lists} → AllFew ed.records l → length (up_to n l) ≡ place_of ed (length l)
  unfolding pad
  up_to_length n {l} f = length-append (eight n) (points_numbers ed.records l) ∙ ap (λ m. 8 + m) (points_length f)

  pub layout_with : (l : List Lists) → layout ed (with_points l R) ≡ up_to (length l) l ++ zeros_of (table_length - length (up_to (length l) l))
  unfolding layout with_points pad
  layout_with l = refl

  pub layout_same : layout ed R ≡ layout ed (with_points R.points R)
  unfolding layout with_points
  layout_same = refl

  pub layout_length : Fits ed → length R.points ≤ ed.points → AllFew ed.records R.points → length (layout ed R) ≡ table_length
  unfolding layout
  layout_length f h g =
      length_pad table_length (up_to (length R.points) R.points)
      (room (length (up_to (length R.points) R.points)) (length R.points) ed.points (stride ed) (up_to_length (length R.points) g) f.in_table (mul-le-mul_left (stride ed) h))
    where
      room : (x n m s : ℕ) → x ≡ 8 + s * n → 8 + s * m ≤ table_length → s * n ≤ s * m → x ≤ table_length
      room x n m s a b c = omega arith

-- a table that begins with the register
pub table_split : (ed : Edition) (R : Register) (t : List ℤ) → take table_length t ≡ layout ed R → t ≡ layout ed R ++ drop table_length t
table_split ed R t e = sym (take-append-drop table_length t) ∙ ap (λ l. l ++ drop table_length t) e

-- ---- the part of point q, which stands after the points a

module _ (ed : Edition) (R : Register) (rest : List ℤ) (a : List Lists) (q : Lists) (b : List Lists) where
  -- what follows q's numbers, where the points end at place m
  abbrev pub after : ℕ → List ℤ
  after m = points_numbers ed.records b ++ (zeros_of (table_length - m) ++ rest)

  abbrev pub total : List ℤ
  total = up_to ed R (length (a ++ q ∷ b)) (a ++ q ∷ b)

  pub cut : layout ed (with_points (a ++ q ∷ b) R) ++ rest ≡ up_to ed R (length (a ++ q ∷ b)) a ++ (point_numbers ed.records q ++ after (length total))
  unfolding points_numbers
  cut =
      ap (λ t. t ++ rest) (layout_with ed R (a ++ q ∷ b))
      ∙ ap (λ t. ((eight ed R (length (a ++ q ∷ b)) ++ t) ++ zeros_of (table_length - length total)) ++ rest) (points_append ed.records a (q ∷ b))
      ∙ simp append_assoc

  pub total_length : AllFew ed.records (a ++ q ∷ b) → length total ≡ place_of ed (length (a ++ q ∷ b))
  total_length f = up_to_length ed R (length (a ++ q ∷ b)) f

module _ (ed : Edition) (R : Register) (rest : List ℤ) (a : List Lists) (q : Lists) (b : List Lists) (e : R.points ≡ a ++ q ∷ b) (f : AllFew ed.records R.points) where
  abbrev table : List ℤ
  table = layout ed R ++ rest

  fits : AllFew ed.records (a ++ q ∷ b)
  fits = subst (AllFew ed.records) e f

  abbrev front : List ℤ
  front = up_to ed R (length (a ++ q ∷ b)) a

  abbrev rest' : List ℤ
  rest' = after ed R rest a q b (length (total ed R rest a q b))

  table_cut : table ≡ front ++ (point_numbers ed.records q ++ rest')
  table_cut = ap (λ t. t ++ rest) (layout_same ed R ∙ ap (λ l. layout ed (with_points l R)) e) ∙ cut ed R rest a q b

  front_place : length front ≡ place_of ed (length a)
  front_place = up_to_length ed R (length (a ++ q ∷ b)) (few_before a (q ∷ b) fits)

  here : length (point_numbers ed.records q) ≡ stride ed
  here = length_point (few_here a q b fits)

  pub part_of_point : part_of ed table (length a) ≡ point_numbers ed.records q
  unfolding part_of
  part_of_point =
      ap (λ t. take (stride ed) (drop (place_of ed (length a)) t)) table_cut
      ∙ ap (take (stride ed)) (drop_at front (point_numbers ed.records q ++ rest') (place_of ed (length a)) front_place)
      ∙ take_at (point_numbers ed.records q) rest' (stride ed) here

  pub with_point_lem : (q' : Lists) → Few ed.records q'
      → with_part ed table (length a) (point_numbers ed.records q') ≡ layout ed (with_points (a ++ q' ∷ b) R) ++ rest
  unfolding with_part
  with_point_lem q' g =
      ap₂ (λ u v. u ++ (point_numbers ed.records q' ++ v)) (ap (take (place_of ed (length a))) table_cut ∙ take_at front _ _ front_place) past
      ∙ ap₂ (λ n m. up_to ed R n a ++ (point_numbers ed.records q' ++ after ed R rest a q b m)) count same
      ∙ sym (cut ed R rest a q' b)
    where
      past : drop (place_of ed (length a) + stride ed) table ≡ rest'
      past =
          ap (drop (place_of ed (length a) + stride ed)) (table_cut ∙ sym (append_assoc front (point_numbers ed.records q) rest'))
          ∙ drop_at (front ++ point_numbers ed.records q) rest' (place_of ed (length a) + stride ed) (length-append front (point_numbers ed.records q) ∙ ap₂ ◌+◌ front_place here)

      count : length (a ++ q ∷ b) ≡ length (a ++ q' ∷ b)
      count = length-append a (q ∷ b) ∙ sym (length-append a (q' ∷ b))

      same : length (total ed R rest a q b) ≡ length (total ed R rest a q' b)
      same = total_length ed R rest a q b fits ∙ ap (place_of ed) count ∙ sym (total_length ed R rest a q' b (few_put a q q' b fits g))
