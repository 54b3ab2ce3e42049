-- The contracts of the public calls over plain lists: each law says that a contract as the check reads it is that very statement, and so is
-- proved by the contract itself. A call and its twin by year (`check` and `check_by_year`) say the same, at a setting's year and at any.
use mathlib.Core.List.{List}
use mathlib.Core.Path.{◌≡◌}
use Prim.Native.Nat.{ℕ}
use lib.ListN.{length}
use borrow.Fn.Kinds.{ParamKind, ResultKind, Dens, Out, res_t, ended_of}
use contract.Lifetimes.{Lfts}
use denote.Triple.Clauses.{AtExit}
use Rattle.codings.proofs.utf16.from_utf16.Kinds as from-utf16-kinds
use Rattle.codings.proofs.utf16.from_utf16.Reads as from-utf16
use Rattle.codings.proofs.utf16.to_utf16.Kinds as to-utf16-kinds
use Rattle.codings.proofs.utf16.to_utf16.Reads as to-utf16
use Rattle.hop.proofs.sheets.first_with.Kinds as first-with-kinds
use Rattle.hop.proofs.sheets.first_with.Reads as first-with
use Rattle.hop.proofs.sheets.frame_of.Kinds as frame-of-kinds
use Rattle.hop.proofs.sheets.frame_of.Reads as frame-of
use Rattle.index.proofs.files.check.Kinds as index-check-kinds
use Rattle.index.proofs.files.check.Reads as index-check
use Rattle.index.proofs.files.read.Kinds as index-read-kinds
use Rattle.index.proofs.files.read.Reads as index-read
use Rattle.index.proofs.files.select.Kinds as index-select-kinds
use Rattle.index.proofs.files.select.Reads as index-select
use Rattle.index.proofs.sheets.build.Kinds as build-kinds
use Rattle.index.proofs.sheets.build.Reads as build-index
use Rattle.index.proofs.sheets.build_by_year.Kinds as build-by-year-kinds
use Rattle.index.proofs.sheets.build_by_year.Reads as build-by-year
use Rattle.index.proofs.sheets.select.Kinds as select-kinds
use Rattle.index.proofs.sheets.select.Reads as select-sheet
use Rattle.index.proofs.sheets.select_by_year.Kinds as select-by-year-kinds
use Rattle.index.proofs.sheets.select_by_year.Reads as select-by-year
use Rattle.layout.specs.Answers.Calls.{reading, roomy, unfolded, asked, written, roomed, lent}
use Rattle.layout.specs.Answers.Coordinates.{measure_of}
use Rattle.layout.specs.Answers.Enums.{checked_of, found_of, headed_of, unit_in, corners_in, written_of, indexed_of, hopped_of}
use Rattle.layout.specs.Answers.Lent.{head_of, rooms, the_numbers, the_elements, the_bytes, the_sheet, the_turned, the_given}
use Rattle.layout.specs.Codings.Turning.{to_utf16, from_utf16}
use Rattle.layout.specs.Hop.{hop, frame}
use Rattle.layout.specs.Index.Reading.{file_kind, entries_in}
use Rattle.layout.specs.Index.Selecting.{index_of, selected, picked, entry_rows}
use Rattle.layout.specs.Sheet.{Head, Table}
use Rattle.layout.specs.Walk.{Answer}
use Rattle.layout.specs.Writing.Tables.{table}
use Rattle.layout.specs.declared.Corners.{Corners}
use Rattle.layout.specs.declared.Dimension.{Dimension}
use Rattle.meanings.proofs.coordinates.coordinate_of.Kinds as coordinate-kinds
use Rattle.meanings.proofs.coordinates.coordinate_of.Reads as coordinate-of
use Rattle.meanings.specs.Coordinates.{coordinate_in}
use Rattle.meanings.specs.declared.coordinates.PointNumber.{PointNumber}
use Rattle.reading.proofs.heads.corners_by_year.Kinds as corners-by-year-kinds
use Rattle.reading.proofs.heads.corners_by_year.Reads as corners-by-year
use Rattle.reading.proofs.heads.corners_of.Kinds as corners-kinds
use Rattle.reading.proofs.heads.corners_of.Reads as corners-of
use Rattle.reading.proofs.heads.head_by_year.Kinds as head-by-year-kinds
use Rattle.reading.proofs.heads.head_by_year.Reads as head-by-year
use Rattle.reading.proofs.heads.head_of.Kinds as head-kinds
use Rattle.reading.proofs.heads.head_of.Reads as head-of
use Rattle.reading.proofs.heads.unit_by_year.Kinds as unit-by-year-kinds
use Rattle.reading.proofs.heads.unit_by_year.Reads as unit-by-year
use Rattle.reading.proofs.heads.unit_of.Kinds as unit-kinds
use Rattle.reading.proofs.heads.unit_of.Reads as unit-of
use Rattle.reading.proofs.records.record_at.Kinds as record-kinds
use Rattle.reading.proofs.records.record_at.Reads as record-at
use Rattle.reading.proofs.records.record_by_year.Kinds as record-by-year-kinds
use Rattle.reading.proofs.records.record_by_year.Reads as record-by-year
use Rattle.reading.proofs.sheets.check.Kinds as check-kinds
use Rattle.reading.proofs.sheets.check.Reads as check-sheet
use Rattle.reading.proofs.sheets.check_by_year.Kinds as check-by-year-kinds
use Rattle.reading.proofs.sheets.check_by_year.Reads as check-by-year
use Rattle.reading.proofs.sheets.unfold.Kinds as unfold-kinds
use Rattle.reading.proofs.sheets.unfold.Reads as unfold-sheet
use Rattle.reading.proofs.sheets.unfold_by_year.Kinds as unfold-by-year-kinds
use Rattle.reading.proofs.sheets.unfold_by_year.Reads as unfold-by-year
use Rattle.writing.proofs.sheets.write.Kinds as write-kinds
use Rattle.writing.proofs.sheets.write.Reads as write-sheet
use Rattle.writing.proofs.sheets.write_by_year.Kinds as write-by-year-kinds
use Rattle.writing.proofs.sheets.write_by_year.Reads as write-by-year
use Rattle.layout.specs.declared.Sizes.{Sizes}
use Rattle.layout.specs.declared.RecordAt.{RecordAt}
use Rattle.layout.specs.declared.HeadAt.{HeadAt}
use Rattle.layout.specs.declared.IndexSizes.{IndexSizes}
use Rattle.layout.specs.declared.Hop.{Hop}
use Rattle.layout.specs.declared.SheetUnit.{SheetUnit}
use Rattle.layout.specs.declared.Refusal.{Refusal}
use Rattle.std.specs.Prelude.{Result}

-- The contract Post of a function with parameters ps and the result r says P of what it is passed (a), what it answers (x), and what stands
-- in the parameters as it returns (e).
abbrev Says : {n : _} (ps : List (ParamKind n)) (r : ResultKind n) → Out n ps r
    → ((κs : Lfts n) → Dens κs ps → (res_t r κs).Denot → AtExit (ended_of n ps r) κs → Type 0) → Type 0
Says {n} ps r Post P = (κs : Lfts n) (a : Dens κs ps) (x : (res_t r κs).Denot) (e : AtExit (ended_of n ps r) κs) → Post κs a x e → P κs a x e

-- `check` answers r of the sheet s at the year y
abbrev pub Checks : ℕ → List ℕ → Result Sizes Refusal → Type 0
Checks y s r = r ≡ checked_of (reading y s)

pub check_says : Says check-kinds.ps check-kinds.r check-sheet.Post (λ κs a x e. Checks a.1.0.year a.0.now x)
check_says κs a x e p = p

pub check_by_year_says : Says check-by-year-kinds.ps check-by-year-kinds.r check-by-year.Post (λ κs a x e. Checks a.1.0 a.0.now x)
check_by_year_says κs a x e p = p

-- `head_of`
abbrev pub Heads : ℕ → List ℕ → Result HeadAt Refusal → Type 0
Heads y s r = r ≡ headed_of (reading y s)

pub head_says : Says head-kinds.ps head-kinds.r head-of.Post (λ κs a x e. Heads a.1.0.year a.0.now x)
head_says κs a x e p = p

pub head_by_year_says : Says head-by-year-kinds.ps head-by-year-kinds.r head-by-year.Post (λ κs a x e. Heads a.1.0 a.0.now x)
head_by_year_says κs a x e p = p

-- `unit_of`
abbrev pub Units : ℕ → List ℕ → Result SheetUnit Refusal → Type 0
Units y s r = r ≡ unit_in (reading y s)

pub unit_says : Says unit-kinds.ps unit-kinds.r unit-of.Post (λ κs a x e. Units a.1.0.year a.0.now x)
unit_says κs a x e p = p

pub unit_by_year_says : Says unit-by-year-kinds.ps unit-by-year-kinds.r unit-by-year.Post (λ κs a x e. Units a.1.0 a.0.now x)
unit_by_year_says κs a x e p = p

-- `corners_of`
abbrev pub Cornered : ℕ → List ℕ → Result Corners Refusal → Type 0
Cornered y s r = r ≡ corners_in (reading y s)

pub corners_says : Says corners-kinds.ps corners-kinds.r corners-of.Post (λ κs a x e. Cornered a.1.0.year a.0.now x)
corners_says κs a x e p = p

pub corners_by_year_says : Says corners-by-year-kinds.ps corners-by-year-kinds.r corners-by-year.Post (λ κs a x e. Cornered a.1.0 a.0.now x)
corners_by_year_says κs a x e p = p

-- `record_at`, of the record of a number
abbrev pub Finds : ℕ → List ℕ → ℕ → Result RecordAt Refusal → Type 0
Finds y s number r = r ≡ found_of (asked y s number)

pub record_says : Says record-kinds.ps record-kinds.r record-at.Post (λ κs a x e. Finds a.1.0.year a.0.now a.1.1.0 x)
record_says κs a x e p = p

pub record_by_year_says : Says record-by-year-kinds.ps record-by-year-kinds.r record-by-year.Post
    (λ κs a x e. Finds a.1.0 a.0.now a.1.1.0 x)
record_by_year_says κs a x e p = p

-- `coordinate_of`, of the passport's bytes from +96 on, a reference number, a dimension and stored bits
abbrev pub Coordinates : List ℕ → ℕ → Dimension → ℕ → Result PointNumber Refusal → Type 0
Coordinates rest reference d bits r = r ≡ coordinate_in (measure_of rest reference d bits)

pub coordinate_says : Says coordinate-kinds.ps coordinate-kinds.r coordinate-of.Post
    (λ κs a x e. Coordinates a.0.now a.1.0 a.1.1.0 a.1.1.1.0 x)
coordinate_says κs a x e p = p

-- `unfold`, with three slices that held t₀, e₀, b₀ and then hold t₁, e₁, b₁
abbrev pub Unfolds : ℕ → (s t₀ e₀ b₀ t₁ e₁ b₁ : List ℕ) → Result Sizes Refusal → Type 0
Unfolds y s t₀ e₀ b₀ t₁ e₁ b₁ r =
    (r ≡ checked_of (roomy y s (rooms t₀ e₀ b₀)))
    × ((t₁ ≡ lent the_numbers (unfolded y s (rooms t₀ e₀ b₀)) t₀)
    × ((e₁ ≡ lent the_elements (unfolded y s (rooms t₀ e₀ b₀)) e₀) × (b₁ ≡ lent the_bytes (unfolded y s (rooms t₀ e₀ b₀)) b₀)))

pub unfold_says : Says unfold-kinds.ps unfold-kinds.r unfold-sheet.Post
    (λ κs a x e. Unfolds a.1.0.year a.0.now a.1.1.0.now a.1.1.1.0.now a.1.1.1.1.0.now
    e.1.1.0.now e.1.1.1.0.now e.1.1.1.1.0.now x)
unfold_says κs a x e p = p

pub unfold_by_year_says : Says unfold-by-year-kinds.ps unfold-by-year-kinds.r unfold-by-year.Post
    (λ κs a x e. Unfolds a.1.0 a.0.now a.1.1.0.now a.1.1.1.0.now a.1.1.1.1.0.now
    e.1.1.0.now e.1.1.1.0.now e.1.1.1.1.0.now x)
unfold_by_year_says κs a x e p = p

-- `write`, of a head and a table, into a slice that held o and then holds out
abbrev pub Writes : ℕ → Head → Table → (o out : List ℕ) → Result ℕ Refusal → Type 0
Writes y h t o out r = (r ≡ written_of (written y h t (length o))) × (out ≡ lent the_sheet (written y h t (length o)) o)

pub write_says : Says write-kinds.ps write-kinds.r write-sheet.Post
    (λ κs a x e. Writes a.1.1.1.1.1.1.1.1.1.1.0.year
    (head_of a.0.now a.1.0.now a.1.1.0 a.1.1.1.0.now a.1.1.1.1.0.now a.1.1.1.1.1.0.now a.1.1.1.1.1.1.0.now)
    (table a.1.1.1.1.1.1.1.0.now a.1.1.1.1.1.1.1.1.0.now a.1.1.1.1.1.1.1.1.1.0.now)
    a.1.1.1.1.1.1.1.1.1.1.1.0.now e.1.1.1.1.1.1.1.1.1.1.1.0.now x)
write_says κs a x e p = p

pub write_by_year_says : Says write-by-year-kinds.ps write-by-year-kinds.r write-by-year.Post
    (λ κs a x e. Writes a.1.1.1.1.1.1.1.1.1.1.0
    (head_of a.0.now a.1.0.now a.1.1.0 a.1.1.1.0.now a.1.1.1.1.0.now a.1.1.1.1.1.0.now a.1.1.1.1.1.1.0.now)
    (table a.1.1.1.1.1.1.1.0.now a.1.1.1.1.1.1.1.1.0.now a.1.1.1.1.1.1.1.1.1.0.now)
    a.1.1.1.1.1.1.1.1.1.1.1.0.now e.1.1.1.1.1.1.1.1.1.1.1.0.now x)
write_by_year_says κs a x e p = p

-- `to_utf16` and `from_utf16`, of a list in a coding, into a slice that held o and then holds out; turn is the definition of the call
abbrev pub Turns : (ℕ → List ℕ → ℕ → Answer (List ℕ)) → ℕ → (xs o out : List ℕ) → Result ℕ Refusal → Type 0
Turns turn coding xs o out r = (r ≡ written_of (turn coding xs (length o))) × (out ≡ lent the_turned (turn coding xs (length o)) o)

pub to_utf16_says : Says to-utf16-kinds.ps to-utf16-kinds.r to-utf16.Post
    (λ κs a x e. Turns to_utf16 a.0 a.1.0.now a.1.1.0.now e.1.1.0.now x)
to_utf16_says κs a x e p = p

pub from_utf16_says : Says from-utf16-kinds.ps from-utf16-kinds.r from-utf16.Post
    (λ κs a x e. Turns from_utf16 a.0 a.1.0.now a.1.1.0.now e.1.1.0.now x)
from_utf16_says κs a x e p = p

-- `check` of an index
abbrev pub ChecksIndex : List ℕ → Result IndexSizes Refusal → Type 0
ChecksIndex xs r = r ≡ indexed_of (file_kind xs) (entries_in xs)

pub index_check_says : Says index-check-kinds.ps index-check-kinds.r index-check.Post (λ κs a x e. ChecksIndex a.0.now x)
index_check_says κs a x e p = p

-- `build`, `read` and `select` of an index, and `select` from a sheet, into a slice that held o and then holds out; w is what the call's definition gives
abbrev pub Gives : Answer (List ℕ) → (o out : List ℕ) → Result ℕ Refusal → Type 0
Gives w o out r = (r ≡ written_of (roomed (length o) w)) × (out ≡ lent the_given (roomed (length o) w) o)

pub build_says : Says build-kinds.ps build-kinds.r build-index.Post
    (λ κs a x e. Gives (index_of a.1.0.year a.0.now) a.1.1.0.now e.1.1.0.now x)
build_says κs a x e p = p

pub build_by_year_says : Says build-by-year-kinds.ps build-by-year-kinds.r build-by-year.Post
    (λ κs a x e. Gives (index_of a.1.0 a.0.now) a.1.1.0.now e.1.1.0.now x)
build_by_year_says κs a x e p = p

pub index_read_says : Says index-read-kinds.ps index-read-kinds.r index-read.Post
    (λ κs a x e. Gives (entry_rows a.0.now) a.1.0.now e.1.0.now x)
index_read_says κs a x e p = p

pub index_select_says : Says index-select-kinds.ps index-select-kinds.r index-select.Post
    (λ κs a x e. Gives (selected a.1.0 a.0.now) a.1.1.0.now e.1.1.0.now x)
index_select_says κs a x e p = p

pub select_says : Says select-kinds.ps select-kinds.r select-sheet.Post
    (λ κs a x e. Gives (picked a.1.0.year a.0.now a.1.1.0) a.1.1.1.0.now e.1.1.1.0.now x)
select_says κs a x e p = p

pub select_by_year_says : Says select-by-year-kinds.ps select-by-year-kinds.r select-by-year.Post
    (λ κs a x e. Gives (picked a.1.0 a.0.now a.1.1.0) a.1.1.1.0.now e.1.1.1.0.now x)
select_by_year_says κs a x e p = p

-- `first_with`, of a wanted code, and `frame_of`
abbrev pub FirstWith : ℕ → List ℕ → Result Hop Refusal → Type 0
FirstWith code s r = r ≡ hopped_of (hop code s)

pub first-with_says : Says first-with-kinds.ps first-with-kinds.r first-with.Post (λ κs a x e. FirstWith a.1.0 a.0.now x)
first-with_says κs a x e p = p

abbrev pub FrameOf : List ℕ → Result Hop Refusal → Type 0
FrameOf s r = r ≡ hopped_of (frame s)

pub frame-of_says : Says frame-of-kinds.ps frame-of-kinds.r frame-of.Post (λ κs a x e. FrameOf a.0.now x)
frame-of_says κs a x e p = p
