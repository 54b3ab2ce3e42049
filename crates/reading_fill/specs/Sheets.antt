-- The records of a sheet, read without a test, and what pass 2 is asked and does.
use Rattle.std.specs.Prelude.{List, ◌≡◌, ℕ, ◌≤◌, length, drop}
use Rattle.std.proofs.lemmas.List.Edits.{sets}
use Rattle.reading_fill.specs.Records.{records_in}
use Rattle.layout.specs.Bytes.{number_in}
use Rattle.layout.specs.Fields.Descriptor
use Rattle.layout.specs.Reading.Sheets.{start, sheet_walk}
use Rattle.layout.specs.Sheet.{Record, Sheet, Table}
use Rattle.layout.specs.Walk.{outcome, ends}
use Rattle.layout.specs.Writing.Tables.{flatten}

unfoldable pub sheet_records : List ℕ → List Record
sheet_records s = records_in (number_in Descriptor.count s) (drop start s)

-- s is read as a sheet, and each list of its record table fits a length
pub record Accepted (s : List ℕ) (tl el bl : ℕ) : Type 0 where
  pub sheet : Sheet
  pub read : outcome (sheet_walk s) ≡ ends sheet
  pub numbers : length (flatten sheet.records).numbers ≤ tl
  pub elements : length (flatten sheet.records).elements ≤ el
  pub bytes : length (flatten sheet.records).bytes ≤ bl

-- the three lists of a table stand at the start of three slices, and nothing else is changed
pub record Filled (t : Table) (t₀ e₀ b₀ t₁ e₁ b₁ : List ℕ) : Type 0 where
  pub numbers : t₁ ≡ sets t₀ 0 t.numbers
  pub elements : e₁ ≡ sets e₀ 0 t.elements
  pub bytes : b₁ ≡ sets b₀ 0 t.bytes
