-- The 2017 reader accepts a sheet exactly when it keeps the layout, and reads it as that layout says, as a promise of the calls' contracts
-- (demand 2). A sheet keeps the layout where it is `encode t` of a fine t; the law `exact_reading` says that the reading is then t, and each
-- contract tells that reading. `Bytes s` says no more than the type of what is lent (src/lent.rt); src/kept.rt does not ask it.
use mathlib.Core.Bool.{true, false}
use mathlib.Core.List.{List}
use mathlib.Core.Logic.{◌↔◌}
use mathlib.Core.Path.{◌≡◌, refl, sym, ap, ◌∙◌}
use Prim.Native.Nat.{ℕ}
use native.Mathlib.Omega.{arith}
use Rattle.layout.specs.Answers.Calls.{and_then, reading, in_rooms, roomy, unfolded, lent, over, record_of, asked}
use Rattle.layout.specs.Answers.Corners.{plane_corners}
use Rattle.layout.specs.Answers.Enums.{sizes_of, checked_of, head_at, headed_of, found_of, unit_in, corners_in}
use Rattle.layout.specs.Answers.Lent.{rooms, the_numbers, the_elements, the_bytes}
use Rattle.layout.specs.Answers.Units.{sheet_unit}
use Rattle.layout.specs.Bytes.{Bytes, low32}
use Rattle.layout.specs.Layout.Encode.{encode}
use Rattle.layout.specs.Layout.Fine.{Fine}
use Rattle.layout.specs.Reading.Sheets.{start, whole_sum, sum_of}
use Rattle.layout.specs.Sheet.{Sheet}
use Rattle.layout.specs.Walk.{given}
use Rattle.layout.specs.Writing.Tables.{flatten}
use Rattle.layout.specs.declared.Corners.{Corners}
use Rattle.layout.specs.declared.Refusal.{Refusal}
use Rattle.layout.specs.declared.Sizes.{Sizes}
use Rattle.laws.proofs.Called.{reading-sound}
use Rattle.laws.proofs.Exact.{Keeps, exact_reading}
use Rattle.laws.proofs.Reading.Sheets.{encode-sum}
use Rattle.promises.proofs.Contracts.{Checks, Heads, Units, Cornered, Finds, Unfolds}
use Rattle.promises.proofs.Rooms.{Fit, rooms_on, roomy_back}
use Rattle.reading.proofs.Laws.Seen.{by_accepted}
use Rattle.layout.specs.declared.RecordAt.{RecordAt}
use Rattle.layout.specs.declared.HeadAt.{HeadAt}
use Rattle.layout.specs.declared.SheetUnit.{SheetUnit}
use Rattle.std.specs.Prelude.{Result, Ok, Err}
use Rattle.std.specs.Prelude.{is_ok}

-- `unfold` of a sheet that is read as t answers and fills the slices as t's table says, or gives ROOM at the first slice that is too small.
pub unfold_told : (y : ℕ) (s : List ℕ) (t : Sheet) → reading y s ≡ given t → (t₀ e₀ b₀ t₁ e₁ b₁ : List ℕ) (r : Result Sizes Refusal) → Unfolds y s t₀ e₀ b₀ t₁ e₁ b₁ r
    → (r ≡ checked_of (and_then (in_rooms (rooms t₀ e₀ b₀) (flatten t.records)) (λ _. given t)))
    × (t₁ ≡ lent the_numbers (in_rooms (rooms t₀ e₀ b₀) (flatten t.records)) t₀)
    × (e₁ ≡ lent the_elements (in_rooms (rooms t₀ e₀ b₀) (flatten t.records)) e₀)
    × (b₁ ≡ lent the_bytes (in_rooms (rooms t₀ e₀ b₀) (flatten t.records)) b₀)
unfolding roomy unfolded
unfold_told y s t read t₀ e₀ b₀ t₁ e₁ b₁ r c =
    let filled = ap (λ a. and_then a (λ u. in_rooms (rooms t₀ e₀ b₀) (flatten u.records))) read in (
      c.0 ∙ ap (λ a. checked_of (and_then a (λ u. and_then (in_rooms (rooms t₀ e₀ b₀) (flatten u.records)) (λ _. given u)))) read,
      c.1.0 ∙ ap (λ a. lent the_numbers a t₀) filled,
      c.1.1.0 ∙ ap (λ a. lent the_elements a e₀) filled,
      c.1.1.1 ∙ ap (λ a. lent the_bytes a b₀) filled,
    )

module _ (s : List ℕ) (bs : Bytes s) where
  -- s is the sheet t, written so
  abbrev pub Is : Sheet → Type 0
  Is t = Fine t × (encode t ≡ s)

  -- `check` accepts s with the sizes z exactly when s is the writing of a fine sheet of these sizes.
  pub check_exact : (r : Result Sizes Refusal) → Checks 2017 s r → (z : Sizes) → (r ≡ Ok z) ↔ ((t : Sheet) × Is t × (z ≡ sizes_of t))
  unfolding checked_of
  check_exact r c z = (
    λ e. let a = by_accepted (reading 2017 s) z (sym e ∙ c) in (a.0, (exact_reading s bs a.0).0 a.1, a.2),
    λ f. c ∙ ap checked_of ((exact_reading s bs f.0).1 f.1) ∙ ap Ok (sym f.2),
  )

  -- The sum that it answers at any setting is of s as it stands: "all bytes of the sheet as numbers 0 to 255, with the four bytes at 12 counted as zero", of
  -- which "only its low 32 are kept" (02, request 7).
  pub check_sum : (y : ℕ) (r : Result Sizes Refusal) → Checks y s r → (z : Sizes) → r ≡ Ok z → z.sum ≡ low32 (whole_sum s)
  check_sum y r c z e =
      let (t, read, sizes) = by_accepted (reading y s) z (sym e ∙ c) in
      ap (λ (v : Sizes). v.sum) sizes ∙ sym (encode-sum t) ∙ ap sum_of (reading-sound y s t bs read).is

  -- `unfold` accepts s exactly when it is the writing of a fine sheet whose table fits the slices,
  pub unfold_exact : (t₀ e₀ b₀ t₁ e₁ b₁ : List ℕ) (r : Result Sizes Refusal) → Unfolds 2017 s t₀ e₀ b₀ t₁ e₁ b₁ r → (z : Sizes)
      → (r ≡ Ok z) ↔ ((t : Sheet) × Is t × (z ≡ sizes_of t) × Fit (rooms t₀ e₀ b₀) (flatten t.records))
  unfolding checked_of roomy
  unfold_exact t₀ e₀ b₀ t₁ e₁ b₁ r c z = (
    λ e. let a = by_accepted (roomy 2017 s (rooms t₀ e₀ b₀)) z (sym e ∙ c.0) in
        let b = roomy_back 2017 s (rooms t₀ e₀ b₀) a.0 a.1 in
        (a.0, (exact_reading s bs a.0).0 b.0, a.2, b.2),
    λ f. let t = f.0 in
        let read = (exact_reading s bs t).1 f.1 in
        c.0
        ∙ ap (λ a. checked_of (and_then a (λ u. and_then (in_rooms (rooms t₀ e₀ b₀) (flatten u.records)) (λ _. given u)))) read
        ∙ ap (λ a. checked_of (and_then a (λ _. given t))) (rooms_on (rooms t₀ e₀ b₀) (flatten t.records) f.3)
        ∙ ap Ok (sym f.2),
  )

  module _ (t : Sheet) (is : Is t) where
    read : reading 2017 s ≡ given t
    read = (exact_reading s bs t).1 is

    -- and then answers and fills them as that sheet's table says.
    pub unfold_as : (t₀ e₀ b₀ t₁ e₁ b₁ : List ℕ) (r : Result Sizes Refusal) → Unfolds 2017 s t₀ e₀ b₀ t₁ e₁ b₁ r
        → (r ≡ checked_of (and_then (in_rooms (rooms t₀ e₀ b₀) (flatten t.records)) (λ _. given t)))
        × (t₁ ≡ lent the_numbers (in_rooms (rooms t₀ e₀ b₀) (flatten t.records)) t₀)
        × (e₁ ≡ lent the_elements (in_rooms (rooms t₀ e₀ b₀) (flatten t.records)) e₀)
        × (b₁ ≡ lent the_bytes (in_rooms (rooms t₀ e₀ b₀) (flatten t.records)) b₀)
    unfold_as = unfold_told 2017 s t read

    -- the slices, where all of it fits
    pub unfold_fills : (t₀ e₀ b₀ t₁ e₁ b₁ : List ℕ) (r : Result Sizes Refusal) → Unfolds 2017 s t₀ e₀ b₀ t₁ e₁ b₁ r → Fit (rooms t₀ e₀ b₀) (flatten t.records)
        → (t₁ ≡ over (flatten t.records).numbers t₀) × (e₁ ≡ over (flatten t.records).elements e₀) × (b₁ ≡ over (flatten t.records).bytes b₀)
    unfold_fills t₀ e₀ b₀ t₁ e₁ b₁ r c f =
        let a = unfold_as t₀ e₀ b₀ t₁ e₁ b₁ r c in
        let all = rooms_on (rooms t₀ e₀ b₀) (flatten t.records) f in (
          a.1 ∙ ap (λ x. lent the_numbers x t₀) all,
          a.2 ∙ ap (λ x. lent the_elements x e₀) all,
          a.3 ∙ ap (λ x. lent the_bytes x b₀) all,
        )

    -- The other calls answer of that sheet too.
    pub head_as : (r : Result HeadAt Refusal) → Heads 2017 s r → r ≡ Ok (head_at t.head t.tails)
    unfolding headed_of
    head_as r c = c ∙ ap headed_of read

    pub unit_as_lem : (r : Result SheetUnit Refusal) → Units 2017 s r → r ≡ Ok (sheet_unit t.head)
    unfolding unit_in
    unit_as_lem r c = c ∙ ap unit_in read

    pub corners_as : (r : Result Corners Refusal) → Cornered 2017 s r → r ≡ Ok (plane_corners t.head)
    unfolding corners_in
    corners_as r c = c ∙ ap corners_in read

    pub record_as : (number : ℕ) (r : Result RecordAt Refusal) → Finds 2017 s number r → r ≡ found_of (record_of start t.records number)
    unfolding asked
    record_as number r c = c ∙ ap (λ a. found_of (and_then a (λ u. record_of start u.records number))) read

-- Accepted or not is whether s keeps the layout.
pub kept_accepted : (s : List ℕ) → Bytes s → (r : Result Sizes Refusal) → Checks 2017 s r → (z : Sizes) → r ≡ Ok z → (true ≡ true) ↔ Keeps s
kept_accepted s bs r c z e = let f = (check_exact s bs r c z).0 e in (λ _. (f.0, f.1.0, f.1.1), λ _. refl)

pub kept_refused : (s : List ℕ) → Bytes s → (r : Result Sizes Refusal) → Checks 2017 s r → (q : Refusal) → r ≡ Err q → (false ≡ true) ↔ Keeps s
kept_refused s bs r c q e = (
  λ x. absurd (let i : ◌≡◌ {A = ℕ} 0 1 = cc in omega arith),
  λ k. let a = (check_exact s bs r c (sizes_of k.0)).1 (k.0, (k.1, k.2), refl) in
      absurd (let i : ◌≡◌ {A = ℕ} 0 1 = cc in omega arith),
)

-- either way
pub kept : (s : List ℕ) → Bytes s → (r : Result Sizes Refusal) → Checks 2017 s r → (is_ok r ≡ true) ↔ Keeps s
kept s bs (Ok z) c = kept_accepted s bs (Ok z) c z refl
kept s bs (Err q) c = kept_refused s bs (Err q) c q refl
