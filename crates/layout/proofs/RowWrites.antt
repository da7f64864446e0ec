-- The numbers of a point with changed lists are its old numbers with those set that a row writer writes, for any room.
-- Assumes nothing.
use mathlib.Core.Path.{◌≡◌, refl, sym, ◌∙◌, ap, ap₂}
use mathlib.Core.Option.{Option, none, some}
use mathlib.Core.List.{List, [], ◌∷◌, ◌++◌, append_assoc}
use Prim.Native.Nat.{ℕ, suc, ◌+◌, ◌-◌, ◌*◌, ◌<◌}
use native.Mathlib.Omega.{arith}
use native.Mathlib.Numerals.{add-one}
use lib.ListN.{length, set, length-append}
use lib.Seq.{sets, append_snoc}
use lib.IntN.{ℤ, pos, negsuc}
use Rattle.daybook.specs.Book.{Entry, Pending}
use Rattle.lists.specs.Lists.{Lists}
use Rattle.lists.specs.InnerSteps.{with_regs, with_offs, with_pending_lists}
use Rattle.layout.specs.Layout.{pad, reg_numbers, on_number, off_numbers, rec_numbers, head_numbers, point_numbers}
use Rattle.layout.specs.Sound.{with_recs}
use Rattle.layout.specs.InnerWrites.{cleared, put_record, append_record, cut_records, append_registration, cut_registrations, open_span, close_span, set_pending, clear_pending}
use Rattle.layout.proofs.Numbers.{length_reg_numbers, length_off_numbers, length_rec_numbers, Few}
use Rattle.layout.proofs.Blocks.{block_append, block_replace, block_cut}
use Rattle.layout.proofs.PartBlocks.{record_row, recs_append, regs_append, offs_append, snoc_length, regs_block, offs_block, recs_block, before_offs, before_recs, cut_recs}

-- ---- the code counts places up, `sets` by successors

put_sets : (p : List ℤ) (j : ℕ) (x : Entry) → put_record p j x ≡ sets p (48 + 4 * j) (record_row x)
unfolding put_record
put_sets p j x =
    let a : 48 + 4 * j + 1 ≡ suc (48 + 4 * j) = omega arith in
    let b : 48 + 4 * j + 2 ≡ suc (suc (48 + 4 * j)) = omega arith in
    let c : 48 + 4 * j + 3 ≡ suc (suc (suc (48 + 4 * j))) = omega arith in
    rw (a, b, c) refl

registration_sets : (p : List ℤ) (n d u : ℕ) → append_registration p n d u ≡ set (sets p (16 + 2 * n) (pos d ∷ pos u ∷ [])) 4 (pos (n + 1))
unfolding append_registration
registration_sets p n d u = rw (add-one (16 + 2 * n)) refl

span_sets : (p : List ℤ) (n d : ℕ) → open_span p n d ≡ set (sets p (32 + 2 * n) (pos d ∷ negsuc 0 ∷ [])) 5 (pos (n + 1))
unfolding open_span
span_sets p n d = rw (add-one (32 + 2 * n)) refl

-- ---- records

module _ (room : ℕ) (q : Lists) (f : Few room q) where
  -- the part with these records and any head
  abbrev part_with : List ℤ → List Entry → List ℤ
  part_with h l = h ++ (regs_block room q f ++ (offs_block room q f ++ pad (4 * room) (rec_numbers l)))

  abbrev front : List ℤ
  front = head_numbers q ++ (regs_block room q f ++ offs_block room q f)

  cut : (l : List Entry) → part_with (head_numbers q) l ≡ front ++ (pad (4 * room) (rec_numbers l) ++ [])
  cut l = cut_recs room q f (head_numbers q) (pad (4 * room) (rec_numbers l))

  place : (a : List Entry) → 48 + 4 * length a ≡ length front + length (rec_numbers a)
  unfolding head_numbers
  place a = omega (arith, before_recs room q f (head_numbers q) refl, length_rec_numbers a)

  part_with_lem : (l : List Entry) → set (part_with (head_numbers q) l) 6 (pos (length l)) ≡ point_numbers room (with_recs l q)
  unfolding point_numbers head_numbers with_recs
  part_with_lem l = refl

  pub put_record_lem : (a : List Entry) (y x : Entry) (b : List Entry) → q.recs ≡ a ++ y ∷ b
      → put_record (point_numbers room q) (length a) x ≡ point_numbers room (with_recs (a ++ x ∷ b) q)
  unfolding point_numbers rec_numbers head_numbers
  put_record_lem a y x b e =
      put_sets (point_numbers room q) (length a) x
      ∙ ap (λ t. sets t (48 + 4 * length a) (record_row x)) (ap (part_with (head_numbers q)) e ∙ cut (a ++ y ∷ b) ∙ ap (λ t. front ++ (pad (4 * room) t ++ [])) (recs_append a (y ∷ b)))
      ∙ block_replace front [] (4 * room) (48 + 4 * length a) (rec_numbers a) (record_row y) (record_row x) (rec_numbers b) refl (place a)
      ∙ sym (cut (a ++ x ∷ b) ∙ ap (λ t. front ++ (pad (4 * room) t ++ [])) (recs_append a (x ∷ b)))
      ∙ ap (λ n. part_with (set (head_numbers q) 6 (pos n)) (a ++ x ∷ b)) (ap length e ∙ simp length-append)
      ∙ part_with_lem (a ++ x ∷ b)

  pub append_record_lem : (x : Entry) → length q.recs < room
      → append_record (point_numbers room q) (length q.recs) x ≡ point_numbers room (with_recs (q.recs ++ (x ∷ [])) q)
  unfolding point_numbers append_record rec_numbers
  append_record_lem x h =
      ap₂ (λ t n. set t 6 (pos n))
      (put_sets (point_numbers room q) (length q.recs) x
      ∙ ap (λ t. sets t (48 + 4 * length q.recs) (record_row x)) (cut q.recs)
      ∙ block_append front [] (4 * room) (48 + 4 * length q.recs) (rec_numbers q.recs) (record_row x) (omega (arith, length_rec_numbers q.recs)) (place q.recs)
      ∙ sym (cut (q.recs ++ (x ∷ [])) ∙ ap (λ t. front ++ (pad (4 * room) t ++ [])) (recs_append q.recs (x ∷ []))))
      (sym (snoc_length q.recs x))
      ∙ part_with_lem (q.recs ++ (x ∷ []))

  pub cut_records_lem : (a b : List Entry) → q.recs ≡ a ++ b
      → cut_records (point_numbers room q) (length a) (length q.recs) ≡ point_numbers room (with_recs a q)
  unfolding point_numbers cut_records
  cut_records_lem a b e =
      ap (λ t. set t 6 (pos (length a)))
      (ap (λ t. cleared t (48 + 4 * length a) (4 * (length q.recs - length a))) (ap (part_with (head_numbers q)) e ∙ cut (a ++ b) ∙ ap (λ t. front ++ (pad (4 * room) t ++ [])) (recs_append a b))
      ∙ block_cut front [] (4 * room) (48 + 4 * length a) (rec_numbers a) (rec_numbers b) (4 * (length q.recs - length a)) (omega (arith, length_rec_numbers a, length_rec_numbers b, f.recs, count)) (place a) (omega (arith, length_rec_numbers b, count))
      ∙ sym (cut a))
      ∙ part_with_lem a
    where
      count : length q.recs ≡ length a + length b
      count = ap length e ∙ length-append a b

-- ---- registrations

module _ (room : ℕ) (q : Lists) (f : Few room q) where
  pub append_registration_lem : (d u : ℕ) → length q.regs < 8
      → append_registration (point_numbers room q) (length q.regs) d u ≡ point_numbers room (with_regs (q.regs ++ ((d, u) ∷ [])) q)
  unfolding point_numbers head_numbers with_regs reg_numbers
  append_registration_lem d u h =
      registration_sets (point_numbers room q) (length q.regs) d u
      ∙ ap₂ (λ t n. set t 4 (pos n))
      (block_append (head_numbers q) rest 16 (16 + 2 * length q.regs) (reg_numbers q.regs) (pos d ∷ pos u ∷ []) (omega (arith, length_reg_numbers q.regs)) (omega (arith, length_reg_numbers q.regs))
      ∙ ap (λ t. head_numbers q ++ (pad 16 t ++ rest)) (sym (regs_append q.regs ((d, u) ∷ []))))
      (sym (snoc_length q.regs (d, u)))
    where
      rest : List ℤ
      rest = offs_block room q f ++ recs_block room q f

  pub cut_registrations_lem : (a b : List (ℕ × ℕ)) → q.regs ≡ a ++ b
      → cut_registrations (point_numbers room q) (length a) (length q.regs) ≡ point_numbers room (with_regs a q)
  unfolding point_numbers head_numbers with_regs cut_registrations
  cut_registrations_lem a b e =
      ap (λ t. set t 4 (pos (length a)))
      (ap (λ l. cleared (head_numbers q ++ (pad 16 l ++ rest)) (16 + 2 * length a) (2 * (length q.regs - length a))) (ap reg_numbers e ∙ regs_append a b)
      ∙ block_cut (head_numbers q) rest 16 (16 + 2 * length a) (reg_numbers a) (reg_numbers b) (2 * (length q.regs - length a)) (omega (arith, length_reg_numbers a, length_reg_numbers b, f.regs, count)) (omega (arith, length_reg_numbers a)) (omega (arith, length_reg_numbers b, count)))
    where
      count : length q.regs ≡ length a + length b
      count = ap length e ∙ length-append a b

      rest : List ℤ
      rest = offs_block room q f ++ recs_block room q f

  -- ---- off spans

  -- the part with these spans and any head
  abbrev part_off : List ℤ → List (ℕ × Option ℕ) → List ℤ
  part_off h l = h ++ (regs_block room q f ++ (pad 16 (off_numbers l) ++ recs_block room q f))

  abbrev front_off : List ℤ
  front_off = head_numbers q ++ regs_block room q f

  cut_off : (l : List (ℕ × Option ℕ)) → part_off (head_numbers q) l ≡ front_off ++ (pad 16 (off_numbers l) ++ recs_block room q f)
  cut_off l = sym (append_assoc (head_numbers q) (regs_block room q f) (pad 16 (off_numbers l) ++ recs_block room q f))

  place_off : (a : List (ℕ × Option ℕ)) → 32 + 2 * length a ≡ length front_off + length (off_numbers a)
  unfolding head_numbers
  place_off a = omega (arith, before_offs room q f (head_numbers q) refl, length_off_numbers a)

  part_off_lem : (l : List (ℕ × Option ℕ)) → set (part_off (head_numbers q) l) 5 (pos (length l)) ≡ point_numbers room (with_offs l q)
  unfolding point_numbers head_numbers with_offs
  part_off_lem l = refl

  pub open_span_lem : (d : ℕ) → length q.offs < 8
      → open_span (point_numbers room q) (length q.offs) d ≡ point_numbers room (with_offs (q.offs ++ ((d, none) ∷ [])) q)
  unfolding point_numbers off_numbers
  open_span_lem d h =
      span_sets (point_numbers room q) (length q.offs) d
      ∙ ap₂ (λ t n. set t 5 (pos n))
      (ap (λ t. sets t (32 + 2 * length q.offs) (pos d ∷ negsuc 0 ∷ [])) (cut_off q.offs)
      ∙ block_append front_off (recs_block room q f) 16 (32 + 2 * length q.offs) (off_numbers q.offs) (pos d ∷ negsuc 0 ∷ []) (omega (arith, length_off_numbers q.offs)) (place_off q.offs)
      ∙ sym (cut_off (q.offs ++ ((d, none) ∷ [])) ∙ ap (λ t. front_off ++ (pad 16 t ++ recs_block room q f)) (offs_append q.offs ((d, none) ∷ []))))
      (sym (snoc_length q.offs (d, none)))
      ∙ part_off_lem (q.offs ++ ((d, none) ∷ []))

  pub close_span_lem : (a : List (ℕ × Option ℕ)) (s : ℕ) (o : Option ℕ) (d : ℕ) → q.offs ≡ a ++ ((s, o) ∷ [])
      → close_span (point_numbers room q) (length a) d ≡ point_numbers room (with_offs (a ++ ((s, some d) ∷ [])) q)
  unfolding point_numbers close_span off_numbers head_numbers
  close_span_lem a s o d e =
      ap (λ t. set t (32 + 2 * length a + 1) (pos d)) (ap (part_off (head_numbers q)) e ∙ cut_off (a ++ ((s, o) ∷ [])) ∙ ap (λ t. front_off ++ (pad 16 t ++ recs_block room q f)) (row o))
      ∙ block_replace front_off (recs_block room q f) 16 (32 + 2 * length a + 1) (off_numbers a ++ (pos s ∷ [])) (on_number o ∷ []) (pos d ∷ []) [] refl (omega (arith, place_off a, length-append (off_numbers a) (pos s ∷ [])))
      ∙ sym (cut_off (a ++ ((s, some d) ∷ [])) ∙ ap (λ t. front_off ++ (pad 16 t ++ recs_block room q f)) (row (some d)))
      ∙ ap (λ n. part_off (set (head_numbers q) 5 (pos n)) (a ++ ((s, some d) ∷ []))) (ap length e ∙ simp length-append)
      ∙ part_off_lem (a ++ ((s, some d) ∷ []))
    where
      row : (o : Option ℕ) → off_numbers (a ++ ((s, o) ∷ [])) ≡ (off_numbers a ++ (pos s ∷ [])) ++ (on_number o ∷ [])
      row o = offs_append a ((s, o) ∷ []) ∙ sym (append_snoc (off_numbers a) (pos s) (on_number o ∷ []))

  -- ---- a pending request

  pub set_pending_lem : (r : Pending) → set_pending (point_numbers room q) r.user r.first r.last ≡ point_numbers room (with_pending_lists (some r) q)
  unfolding point_numbers head_numbers set_pending with_pending_lists
  set_pending_lem r = refl

  pub clear_pending_lem : clear_pending (point_numbers room q) ≡ point_numbers room (with_pending_lists none q)
  unfolding point_numbers head_numbers set_pending with_pending_lists
  clear_pending_lem = refl
