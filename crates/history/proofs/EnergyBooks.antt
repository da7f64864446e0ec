-- An energy notice on a sound table, by any rule of what a pending request comes to: the step of its book, by the point that
-- is found and the row that applies. Assumes nothing.
use mathlib.Core.Path.{◌≡◌, refl, sym, ◌∙◌, ap}
use mathlib.Core.Bool.{true}
use mathlib.Core.Option.{Option, none, some, none-ne-some, some-injective}
use mathlib.Core.List.{List, [], ◌∷◌, ◌++◌}
use Prim.Native.Nat.{ℕ}
use lib.IntN.{ℤ}
use Rattle.numbers.specs.Naturals.{nat_of}
use Rattle.numbers.specs.Search.{maybe}
use Rattle.daybook.specs.declared.Edition.{Edition}
use Rattle.daybook.specs.Editions.{Editions}
use Rattle.daybook.specs.declared.EnergyNotice.{EnergyNotice}
use Rattle.daybook.specs.Book.{Point, Book}
use Rattle.daybook.specs.Notices.{least, Numbers, decide, find, with_point, on_point, entry_of, energy_early, energy_rows_at, enter, energy}
use Rattle.daybook.specs.Calls.{energy!, noted}
use Rattle.lists.specs.Lists.{Lists, point_of, book_of}
use Rattle.lists.specs.InnerSteps.{find_lists}
use Rattle.lists.specs.InnerWell.{Well, WellFormed}
use Rattle.lists.proofs.Points.{find_is, find_well}
use Rattle.layout.specs.Layout.{BothFit, edition_in, register_of, table_book}
use Rattle.layout.specs.Sound.{sound}
use Rattle.layout.specs.Calls.{answer_and_table, on_edition}
use Rattle.layout.proofs.TableSound.{sound_lays}
use Rattle.layout.proofs.Editions.{edition_fits}
use Rattle.layout.proofs.Notices.{Holds, notice_holds}
use Rattle.energy.specs.Energy.{energy_call}
use Rattle.history.specs.Runs.{notice_call}
use Rattle.history.specs.OtherRules.{Rule, enter_by, energy_by, energy_call_by}
use Rattle.history.proofs.Steps.{notice_is}

-- the book's step, by the effect on the point, the point found and the row that applies
abbrev pub step_by : EnergyNotice → Book → (Point → Numbers × Point) → Option Point → ℕ → Numbers × Book
step_by n B effect found row =
    decide row 4 B (maybe ([], B) (λ p. ((effect p).0, with_point (nat_of n.mirn) (effect p).1 B)) found)

module _ (E : Editions) (fit : BothFit E) (t : List ℤ) (s : sound (edition_in E t) t ≡ true) where
  abbrev ed : Edition
  ed = edition_in E t

  abbrev B : Book
  B = table_book ed t

  -- a point of its book stands for well-formed lists
  pub lists_at_lem : (m : ℕ) (p : Point) → find m B.points ≡ some p → (q : Lists) × Well ed.records q × (point_of q ≡ p)
  unfolding table_book book_of
  lists_at_lem m p e = go (find_lists m (register_of ed t).points) refl
    where
      ok : WellFormed ed (register_of ed t)
      ok = (sound_lays ed (edition_fits E fit t) t s).0

      at : (o : Option Lists) → find_lists m (register_of ed t).points ≡ o → maybe none (λ q. some (point_of q)) o ≡ some p
      at o f = sym (ap (maybe none (λ q. some (point_of q))) f) ∙ sym (find_is m _) ∙ e

      go : (o : Option Lists) → find_lists m (register_of ed t).points ≡ o → (q : Lists) × Well ed.records q × (point_of q ≡ p)
      go none f = absurd (none-ne-some p (at none f))
      go (some q) f = (q, (find_well m ok.points_ok f).0, some-injective _ p (at (some q) f))

  module _ (n : EnergyNotice) where
    abbrev pub found : Option Point
    found = find (nat_of n.mirn) B.points

    abbrev pub row : ℕ
    row = least (energy_early n ++ maybe ((4, true) ∷ []) (energy_rows_at ed n B) found)

    -- by today's rule, and by another
    pub now_is : energy_call E t n ≡ answer_and_table ed t (step_by n B (enter (entry_of n)) found row)
    unfolding notice_call noted energy on_point
    now_is = notice_is E fit t s (energy! n)

    pub by_is : (rule : Rule) → energy_call_by E rule t n ≡ answer_and_table ed t (step_by n B (enter_by rule (entry_of n)) found row)
    unfolding energy_call_by energy_by on_point on_edition
    by_is rule = rw s

    -- the table left is sound, and its book is the book after the notice
    holds : Holds ed (edition_fits E fit t) (answer_and_table ed t (energy ed n B)).1 (energy ed n B).1
    unfolding noted
    holds = notice_holds ed (edition_fits E fit t) t s (energy! n)

    is : energy_call E t n ≡ answer_and_table ed t (energy ed n B)
    unfolding notice_call noted
    is = notice_is E fit t s (energy! n)

    pub left_sound : sound ed (energy_call E t n).1 ≡ true
    left_sound = ap (λ (w : Numbers × List ℤ). sound ed w.1) is ∙ holds.is_sound

    pub left_book : table_book ed (energy_call E t n).1 ≡ (energy ed n B).1
    left_book = ap (λ (w : Numbers × List ℤ). table_book ed w.1) is ∙ holds.book
