-- What is asked of a sheet that was checked: a record by its number, the head, the unit and the corners.
use Prim.Native.Nat.{ℕ}
use Rattle.layout.specs.Answers.Calls.{and_then, asked, reading, record_of}
use Rattle.layout.specs.Answers.Corners.{plane_corners}
use Rattle.layout.specs.Answers.Enums.{checked_of, corners_in, found_of, head_at, headed_of, unit_in}
use Rattle.layout.specs.Answers.Units.{sheet_unit}
use Rattle.layout.specs.Reading.Sheets.{start, sheet_walk}
use Rattle.layout.specs.Sheet.{Sheet}
use Rattle.layout.specs.Walk.{answer, ends, outcome, up_to}
use Rattle.layout.specs.declared.Corners.{Corners}
use Rattle.layout.specs.declared.HeadAt.{HeadAt}
use Rattle.layout.specs.declared.Refusal.{Refusal}
use Rattle.layout.specs.declared.SheetUnit.{SheetUnit}
use Rattle.layout.specs.declared.Sizes.{Sizes}
use Rattle.reading.proofs.Laws.Seen.{Seen, refused-is}
use Rattle.reading_head.specs.Read.{Read}
use Rattle.reading.specs.Found.{AcceptedAt}
use mathlib.Core.List.{List}
use mathlib.Core.Path.{◌≡◌, refl, ap, ◌∙◌}
use Rattle.layout.specs.declared.RecordAt.{RecordAt}
use Rattle.std.specs.Prelude.{Result, Ok, Err}

module _ (y : ℕ) (s : List ℕ) (z : Sizes) (a : Seen y s z) where
  -- x is the year that the setting answers
  pub accepted_at : (x : ℕ) → x ≡ y → AcceptedAt s x z.records
  accepted_at x o = record { sheet = a.sheet; is = rw o a.at; records = ap (λ (v : Sizes). v.records) a.sizes }

  pub found_right : (x n : ℕ) (r : Result RecordAt Refusal) → x ≡ y → r ≡ found_of (and_then (answer (up_to x) (sheet_walk s)) (λ t. record_of start t.records n))
      → r ≡ found_of (asked y s n)
  unfolding asked
  found_right x n r o h = h ∙ rw (o, a.at, a.is) refl

  pub read : Read s
  read = record { sheet = a.sheet; read = a.read }

  pub head_right : (r : HeadAt) → ((t : Sheet) → outcome (sheet_walk s) ≡ ends t → r ≡ head_at t.head t.tails)
      → Ok r ≡ headed_of (reading y s)
  unfolding headed_of
  head_right r h = rw a.is (ap Ok (h a.sheet a.read))

  pub unit_right : (r : SheetUnit) → ((t : Sheet) → outcome (sheet_walk s) ≡ ends t → r ≡ sheet_unit t.head) → Ok r ≡ unit_in (reading y s)
  unfolding unit_in
  unit_right r h = rw a.is (ap Ok (h a.sheet a.read))

  pub corners_right : (r : Corners) → ((t : Sheet) → outcome (sheet_walk s) ≡ ends t → r ≡ plane_corners t.head) → Ok r ≡ corners_in (reading y s)
  unfolding corners_in
  corners_right r h = rw a.is (ap Ok (h a.sheet a.read))

-- the sheet's own refusal
module _ (y : ℕ) (s : List ℕ) (q : Refusal) (r : Result Sizes Refusal) (e : r ≡ checked_of (reading y s)) (i : r ≡ Err q) where
  pub found_refused : (n : ℕ) → Err q ≡ found_of (asked y s n)
  unfolding asked found_of
  found_refused n = rw (refused-is y s q r e i) refl

  pub head-refused : Err q ≡ headed_of (reading y s)
  unfolding headed_of
  head-refused = rw (refused-is y s q r e i) refl

  pub unit-refused : Err q ≡ unit_in (reading y s)
  unfolding unit_in
  unit-refused = rw (refused-is y s q r e i) refl

  pub corners-refused : Err q ≡ corners_in (reading y s)
  unfolding corners_in
  corners-refused = rw (refused-is y s q r e i) refl
