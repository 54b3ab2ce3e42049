-- What the writer makes for a year reads the same at it and at every later year (demand 3), as a promise of the calls' contracts: each call that
-- reads gives the same answer at both, and unfolding leaves the same in all three slices. Every contract speaks of one reading of the sheet,
-- and that is the same at both years.
use mathlib.Core.Bool.{true}
use mathlib.Core.List.{List}
use mathlib.Core.Path.{◌≡◌, sym, ap, ◌∙◌}
use Prim.Native.Nat.{ℕ, ◌≤◌}
use lib.ListN.{length}
use Rattle.layout.specs.Answers.Calls.{and_then, reading, in_rooms, roomy, unfolded, record_of, asked, lent}
use Rattle.layout.specs.Answers.Enums.{checked_of, found_of, headed_of, unit_in, corners_in}
use Rattle.layout.specs.Answers.Lent.{rooms, the_numbers, the_elements, the_bytes}
use Rattle.layout.specs.Bytes.{Bytes}
use Rattle.layout.specs.Reading.Sheets.{start}
use Rattle.layout.specs.Sheet.{Head, Sheet, Table}
use Rattle.layout.specs.Walk.{Answer, given}
use Rattle.layout.specs.Writing.Tables.{flatten}
use Rattle.layout.specs.Years.{is_setting}
use Rattle.layout.specs.declared.Corners.{Corners}
use Rattle.laws.proofs.Again as Law
use Rattle.laws.proofs.Writing.Sheets.{Typed}
use Rattle.promises.proofs.Again.{sheet, was}
use Rattle.promises.proofs.Contracts.{Checks, Heads, Units, Cornered, Finds, Unfolds, Writes}
use Rattle.layout.specs.declared.Sizes.{Sizes}
use Rattle.layout.specs.declared.RecordAt.{RecordAt}
use Rattle.layout.specs.declared.HeadAt.{HeadAt}
use Rattle.layout.specs.declared.SheetUnit.{SheetUnit}
use Rattle.layout.specs.declared.Refusal.{Refusal}
use Rattle.std.specs.Prelude.{Result, Ok}

-- Written at y, read at z.
module _ (y : ℕ) (h : Head) (t : Table) (o out : List ℕ) (n : ℕ) (w : Writes y h t o out (Ok n)) (typed : Typed h) (bs : Bytes t.bytes)
    (z : ℕ) (ok : is_setting z ≡ true) (after : y ≤ z) where
  abbrev it : List ℕ
  it = sheet y h t o out n w

  same : reading z it ≡ reading y it
  same = Law.later y h t (length o) it typed bs (was y h t o out n w) z ok after

  -- what is told of a reading is told at both
  told : {X : Type 0} (f : Answer Sheet → X) (r q : X) → r ≡ f (reading y it) → q ≡ f (reading z it) → q ≡ r
  told f r q c d = d ∙ ap f same ∙ sym c

  pub check_later : (r q : Result Sizes Refusal) → Checks y it r → Checks z it q → q ≡ r
  check_later = told checked_of

  pub head-later : (r q : Result HeadAt Refusal) → Heads y it r → Heads z it q → q ≡ r
  head-later = told headed_of

  pub unit-later : (r q : Result SheetUnit Refusal) → Units y it r → Units z it q → q ≡ r
  unit-later = told unit_in

  pub corners-later : (r q : Result Corners Refusal) → Cornered y it r → Cornered z it q → q ≡ r
  corners-later = told corners_in

  pub record_later : (number : ℕ) (r q : Result RecordAt Refusal) → Finds y it number r → Finds z it number q → q ≡ r
  unfolding asked
  record_later number = told (λ a. found_of (and_then a (λ u. record_of start u.records number)))

  -- the contract of unfolding at z is the one at y
  pub unfolds_at : (t₀ e₀ b₀ t₁ e₁ b₁ : List ℕ) (r : Result Sizes Refusal) → Unfolds z it t₀ e₀ b₀ t₁ e₁ b₁ r → Unfolds y it t₀ e₀ b₀ t₁ e₁ b₁ r
  unfolding roomy unfolded
  unfolds_at t₀ e₀ b₀ t₁ e₁ b₁ r d =
      let fill : Sheet → Answer Table = λ u. in_rooms (rooms t₀ e₀ b₀) (flatten u.records) in (
        d.0 ∙ ap (λ a. checked_of (and_then a (λ u. and_then (fill u) (λ _. given u)))) same,
        (
          d.1.0 ∙ ap (λ a. lent the_numbers (and_then a fill) t₀) same,
          (d.1.1.0 ∙ ap (λ a. lent the_elements (and_then a fill) e₀) same, d.1.1.1 ∙ ap (λ a. lent the_bytes (and_then a fill) b₀) same),
        ),
      )

  pub unfold_later : (t₀ e₀ b₀ t₁ e₁ b₁ t₂ e₂ b₂ : List ℕ) (r q : Result Sizes Refusal)
      → Unfolds y it t₀ e₀ b₀ t₁ e₁ b₁ r → Unfolds z it t₀ e₀ b₀ t₂ e₂ b₂ q → (q ≡ r) × (t₂ ≡ t₁) × (e₂ ≡ e₁) × (b₂ ≡ b₁)
  unfold_later t₀ e₀ b₀ t₁ e₁ b₁ t₂ e₂ b₂ r q c d =
      let a = unfolds_at t₀ e₀ b₀ t₂ e₂ b₂ q d in
      (a.0 ∙ sym c.0, a.1.0 ∙ sym c.1.0, a.1.1.0 ∙ sym c.1.1.0, a.1.1.1 ∙ sym c.1.1.1)
