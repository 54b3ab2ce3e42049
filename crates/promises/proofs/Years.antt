-- A reader or writer set to one of nine years, as a promise of the calls' contracts. (Demand 3: "A reader set to one of nine years answers as
-- the 2017 reader does, except where that reader comes upon a later feature before any refusal of its own: then TOO NEW with that first
-- feature's place and year.") Of each call two are held side by side, one at the year y and one at 2017, on the same sheet or table and the
-- same slices. The features come from the sheet or the table alone (`met`); ROOM and a record number asked for come after them. One law
-- (`told`) carries what the laws say of answers over to what the calls tell of them.
use mathlib.Core.Bool.{true, false}
use mathlib.Core.List.{List, [], ◌∷◌}
use mathlib.Core.Path.{◌≡◌, refl, sym, ap, ◌∙◌}
use Prim.Native.Nat.{ℕ, ◌+◌, ◌≤◌}
use lib.Ieee.{binary64, nan_bits}
use lib.ListN.{length}
use native.Mathlib.Omega.{arith}
use Rattle.layout.specs.Answers.Calls.{and_then, reading, in_rooms, roomy, unfolded, Placed, record_of, asked, written, lent}
use Rattle.layout.specs.Answers.Corners.{corner_bits, corners_from, corners_of}
use Rattle.layout.specs.Answers.Enums.{refusal, checked_of, found_of, headed_of, unit_in, corners_in, written_of}
use Rattle.layout.specs.Answers.Lent.{rooms, the_numbers, the_elements, the_bytes, the_sheet}
use Rattle.layout.specs.Bytes.{All}
use Rattle.layout.specs.Fields.Passport
use Rattle.layout.specs.Reading.Sheets.{start, sheet_walk}
use Rattle.layout.specs.Refusals.{TOO_NEW, ASK}
use Rattle.layout.specs.Sheet.{Head, Sheet, Table}
use Rattle.layout.specs.Walk.{Answer, given, refused, Met, met, Late, none, late, first_late, or_too_new}
use Rattle.layout.specs.Writing.Sheets.{table_walk}
use Rattle.layout.specs.Writing.Tables.{flatten}
use Rattle.layout.specs.Years.{is_setting}
use Rattle.layout.specs.declared.PlaneCorners.{PlaneCorners}
use Rattle.layout.specs.declared.Corners.{Corners}
use Rattle.layout.specs.declared.Refusal.{Refusal}
use Rattle.laws.proofs.Base.Lists.{cond_both}
use Rattle.laws.proofs.Years as Law
use Rattle.laws.proofs.Written.{by_refusal}
use Rattle.laws.proofs.Years.Walks.{FirstAt, first-late, none-late}
use Rattle.promises.proofs.Contracts.{Checks, Heads, Units, Cornered, Finds, Unfolds, Writes}
use Rattle.layout.specs.declared.Sizes.{Sizes}
use Rattle.layout.specs.declared.RecordAt.{RecordAt}
use Rattle.layout.specs.declared.HeadAt.{HeadAt}
use Rattle.layout.specs.declared.SheetUnit.{SheetUnit}
use Rattle.std.specs.Prelude.{Result, Err}

-- what is told of a late feature, if there is one, and else q
abbrev pub unless_late : {X : Type 0} → Late → (ℕ → ℕ → X) → X → X
unless_late none tell q = q
unless_late (late place year) tell q = tell place year

-- TOO NEW with a place and a year
abbrev pub too_new : ℕ → ℕ → Refusal
too_new place year = refusal TOO_NEW place year

-- The same without a function for "first": the feature m is the first that is later than y, or there is none.
pub told_late : {X : Type 0} (y : ℕ) (ms : List Met) (tell : ℕ → ℕ → X) (q : X) (m : Met) → FirstAt y ms m
    → unless_late (first_late y ms) tell q ≡ tell m.place m.year
told_late y ms tell q m f = ap (λ l. unless_late l tell q) (first-late y ms m f)

pub told_early : {X : Type 0} (y : ℕ) (ms : List Met) (tell : ℕ → ℕ → X) (q : X) → All (λ m. m.year ≤ y) ms → unless_late (first_late y ms) tell q ≡ q
told_early y ms tell q f = ap (λ l. unless_late l tell q) ((none-late y ms).1 f)

-- One law for all: r and q are told by f of two answers, of which one is TOO NEW or the other.
pub told : {A X : Type 0} (f : Answer A → X) (tell : ℕ → ℕ → X) → ((p z : ℕ) → f (refused TOO_NEW p z) ≡ tell p z)
    → (l : Late) (a b : Answer A) → b ≡ or_too_new l a → (r q : X) → r ≡ f b → q ≡ f a → r ≡ unless_late l tell q
told f tell h none a b e r q u v = u ∙ ap f e ∙ sym v
told f tell h (late p z) a b e r q u v = u ∙ ap f e ∙ h p z

-- the calls that read, at a setting y
module _ (y : ℕ) (ok : is_setting y ≡ true) (s : List ℕ) where
  -- the first feature of the sheet that is later than y, if it has one before any refusal of its own
  abbrev pub first : Late
  first = first_late y (met (sheet_walk s))

  pub check_years : (r q : Result Sizes Refusal) → Checks y s r → Checks 2017 s q → r ≡ unless_late first (λ p z. Err (too_new p z)) q
  unfolding checked_of
  check_years = told checked_of _ (λ p z. refl) first _ _ (Law.years s y ok)

  pub head-years : (r q : Result HeadAt Refusal) → Heads y s r → Heads 2017 s q → r ≡ unless_late first (λ p z. Err (too_new p z)) q
  unfolding headed_of
  head-years = told headed_of _ (λ p z. refl) first _ _ (Law.years s y ok)

  pub unit-years : (r q : Result SheetUnit Refusal) → Units y s r → Units 2017 s q → r ≡ unless_late first (λ p z. Err (too_new p z)) q
  unfolding unit_in
  unit-years = told unit_in _ (λ p z. refl) first _ _ (Law.years s y ok)

  pub corners-years : (r q : Result Corners Refusal) → Cornered y s r → Cornered 2017 s q → r ≡ unless_late first (λ p z. Err (too_new p z)) q
  unfolding corners_in
  corners-years = told corners_in _ (λ p z. refl) first _ _ (Law.years s y ok)

  pub record_years_lem : (number : ℕ) (r q : Result RecordAt Refusal) → Finds y s number r → Finds 2017 s number q
      → r ≡ unless_late first (λ p z. Err (too_new p z)) q
  unfolding found_of
  record_years_lem number = told found_of _ (λ p z. refl) first _ _ (Law.years-asked s number y ok)

  -- where a late feature is met the slices stay as they were
  pub unfold_years : (t₀ e₀ b₀ t₁ e₁ b₁ t₂ e₂ b₂ : List ℕ) (r q : Result Sizes Refusal) → Unfolds y s t₀ e₀ b₀ t₁ e₁ b₁ r → Unfolds 2017 s t₀ e₀ b₀ t₂ e₂ b₂ q
      → (r ≡ unless_late first (λ p z. Err (too_new p z)) q)
      × (t₁ ≡ unless_late first (λ p z. t₀) t₂) × (e₁ ≡ unless_late first (λ p z. e₀) e₂) × (b₁ ≡ unless_late first (λ p z. b₀) b₂)
  unfolding checked_of
  unfold_years t₀ e₀ b₀ t₁ e₁ b₁ t₂ e₂ b₂ r q c d =
      let filled = Law.years-unfolded s (rooms t₀ e₀ b₀) y ok in (
        told checked_of _ (λ p z. refl) first _ _ (Law.years-roomy s (rooms t₀ e₀ b₀) y ok) r q c.0 d.0,
        told (λ a. lent the_numbers a t₀) _ (λ p z. refl) first _ _ filled t₁ t₂ c.1.0 d.1.0,
        told (λ a. lent the_elements a e₀) _ (λ p z. refl) first _ _ filled e₁ e₂ c.1.1.0 d.1.1.0,
        told (λ a. lent the_bytes a b₀) _ (λ p z. refl) first _ _ filled b₁ b₂ c.1.1.1 d.1.1.1,
      )

-- the writer
pub write_years : (y : ℕ) → is_setting y ≡ true → (h : Head) (t : Table) (o out new : List ℕ) (r q : Result ℕ Refusal)
    → Writes y h t o out r → Writes 2017 h t o new q
    → (r ≡ unless_late (first_late y (met (table_walk h t))) (λ p z. Err (too_new p z)) q)
    × (out ≡ unless_late (first_late y (met (table_walk h t))) (λ p z. o) new)
unfolding written_of
write_years y ok h t o out new r q c d =
    let l = first_late y (met (table_walk h t)) in
    let e = Law.years-written h t (length o) y ok in
    (told written_of _ (λ p z. refl) l _ _ e r q c.0 d.0, told (λ a. lent the_sheet a o) _ (λ p z. refl) l _ _ e out new c.1 d.1)

-- At a year that is none of the nine every call answers ASK at place 0, and leaves the slices as they were.
abbrev pub ask : Refusal
ask = refusal ASK 0 0

module _ (y : ℕ) (other : is_setting y ≡ false) (s : List ℕ) where
  not_read : {B : Type 0} (f : Sheet → Answer B) → and_then (reading y s) f ≡ refused ASK 0 0
  not_read f = ap (λ a. and_then a f) (Law.no_setting s y other)

  pub check_ask : (r : Result Sizes Refusal) → Checks y s r → r ≡ Err ask
  unfolding checked_of
  check_ask r c = c ∙ ap checked_of (Law.no_setting s y other)

  pub head-ask : (r : Result HeadAt Refusal) → Heads y s r → r ≡ Err ask
  unfolding headed_of
  head-ask r c = c ∙ ap headed_of (Law.no_setting s y other)

  pub unit-ask : (r : Result SheetUnit Refusal) → Units y s r → r ≡ Err ask
  unfolding unit_in
  unit-ask r c = c ∙ ap unit_in (Law.no_setting s y other)

  pub corners-ask : (r : Result Corners Refusal) → Cornered y s r → r ≡ Err ask
  unfolding corners_in
  corners-ask r c = c ∙ ap corners_in (Law.no_setting s y other)

  pub record_ask : (number : ℕ) (r : Result RecordAt Refusal) → Finds y s number r → r ≡ Err ask
  unfolding found_of asked
  record_ask number r c = c ∙ ap found_of (not_read (λ t. record_of start t.records number))

  pub unfold_ask : (t₀ e₀ b₀ t₁ e₁ b₁ : List ℕ) (r : Result Sizes Refusal) → Unfolds y s t₀ e₀ b₀ t₁ e₁ b₁ r
      → (r ≡ Err ask) × (t₁ ≡ t₀) × (e₁ ≡ e₀) × (b₁ ≡ b₀)
  unfolding checked_of roomy unfolded
  unfold_ask t₀ e₀ b₀ t₁ e₁ b₁ r c =
      let m = rooms t₀ e₀ b₀ in
      let filled = not_read (λ t. in_rooms m (flatten t.records)) in (
        c.0 ∙ ap checked_of (not_read (λ t. and_then (in_rooms m (flatten t.records)) (λ _. given t))),
        c.1.0 ∙ ap (λ a. lent the_numbers a t₀) filled,
        c.1.1.0 ∙ ap (λ a. lent the_elements a e₀) filled,
        c.1.1.1 ∙ ap (λ a. lent the_bytes a b₀) filled,
      )

pub write_ask : (y : ℕ) → is_setting y ≡ false → (h : Head) (t : Table) (o out : List ℕ) (r : Result ℕ Refusal) → Writes y h t o out r
    → (r ≡ Err ask) × (out ≡ o)
unfolding written_of
write_ask y other h t o out r c =
    let e = Law.no_setting-written h t (length o) y other in
    (c.0 ∙ ap written_of e, c.1 ∙ ap (λ a. lent the_sheet a o) e)

-- At 2017 no call answers TOO NEW. First which refusal a call tells of.
checked_back : (a : Answer Sheet) (q : Refusal) → Err q ≡ checked_of a → a ≡ refused q.reason q.place q.year
unfolding checked_of
checked_back (given t) q e = absurd (let i : ◌≡◌ {A = ℕ} 0 1 = cc in omega arith)
checked_back (refused n p y) q e = cc

pub check_2017 : (s : List ℕ) (place year : ℕ) (q : Result Sizes Refusal) → Checks 2017 s q → ¬ (q ≡ Err (too_new place year))
check_2017 s place year q c e = Law.at_2017 s place year (checked_back (reading 2017 s) (too_new place year) (sym e ∙ c))

headed_back : (a : Answer Sheet) (q : Refusal) → Err q ≡ headed_of a → a ≡ refused q.reason q.place q.year
unfolding headed_of
headed_back (given t) q e = absurd (let i : ◌≡◌ {A = ℕ} 0 1 = cc in omega arith)
headed_back (refused n p y) q e = cc

pub head_2017 : (s : List ℕ) (place year : ℕ) (q : Result HeadAt Refusal) → Heads 2017 s q → ¬ (q ≡ Err (too_new place year))
head_2017 s place year q c e = Law.at_2017 s place year (headed_back (reading 2017 s) (too_new place year) (sym e ∙ c))

unit_back : (a : Answer Sheet) (q : Refusal) → Err q ≡ unit_in a → a ≡ refused q.reason q.place q.year
unfolding unit_in
unit_back (given t) q e = absurd (let i : ◌≡◌ {A = ℕ} 0 1 = cc in omega arith)
unit_back (refused n p y) q e = cc

pub unit_2017 : (s : List ℕ) (place year : ℕ) (q : Result SheetUnit Refusal) → Units 2017 s q → ¬ (q ≡ Err (too_new place year))
unit_2017 s place year q c e = Law.at_2017 s place year (unit_back (reading 2017 s) (too_new place year) (sym e ∙ c))

corners_back : (a : Answer Sheet) (q : Refusal) → Err q ≡ corners_in a → a ≡ refused q.reason q.place q.year
unfolding corners_in
corners_back (given t) q e = absurd (let i : ◌≡◌ {A = ℕ} 0 1 = cc in omega arith)
corners_back (refused n p y) q e = cc

pub corners_2017 : (s : List ℕ) (place year : ℕ) (q : Result Corners Refusal) → Cornered 2017 s q → ¬ (q ≡ Err (too_new place year))
corners_2017 s place year q c e = Law.at_2017 s place year (corners_back (reading 2017 s) (too_new place year) (sym e ∙ c))

found_back : (a : Answer Placed) (q : Refusal) → Err q ≡ found_of a → a ≡ refused q.reason q.place q.year
unfolding found_of
found_back (given t) q e = absurd (let i : ◌≡◌ {A = ℕ} 0 1 = cc in omega arith)
found_back (refused n p y) q e = cc

pub record_2017 : (s : List ℕ) (number place year : ℕ) (q : Result RecordAt Refusal) → Finds 2017 s number q → ¬ (q ≡ Err (too_new place year))
record_2017 s number place year q c e =
    Law.at_2017_asked s number place year (found_back (asked 2017 s number) (too_new place year) (sym e ∙ c))

pub unfold_2017 : (s t₀ e₀ b₀ t₁ e₁ b₁ : List ℕ) (place year : ℕ) (q : Result Sizes Refusal) → Unfolds 2017 s t₀ e₀ b₀ t₁ e₁ b₁ q
    → ¬ (q ≡ Err (too_new place year))
unfold_2017 s t₀ e₀ b₀ t₁ e₁ b₁ place year q c e =
    let r = rooms t₀ e₀ b₀ in
    Law.at_2017_roomy s r place year (checked_back (roomy 2017 s r) (too_new place year) (sym e ∙ c.0))

pub write_2017 : (h : Head) (t : Table) (o out : List ℕ) (place year : ℕ) (q : Result ℕ Refusal) → Writes 2017 h t o out q
    → ¬ (q ≡ Err (too_new place year))
write_2017 h t o out place year q c e =
    Law.at_2017_written h t (length o) place year (by_refusal (written 2017 h t (length o)) (too_new place year) (sym e ∙ c.0))
