-- One record of an accepted sheet: where it starts, and what its header and its count of numbers say.
use Rattle.std.specs.Prelude.{List, ◌≡◌, ℕ, zero, suc, ◌+◌, ◌-◌, ◌*◌, ◌/◌, ◌≤◌, length, drop}
use Rattle.layout.specs.Bytes.{number_in}
use Rattle.layout.specs.Fields.Header as Field
use Rattle.layout.specs.Reading.Records.{Header}
use Rattle.layout.specs.Reading.Sheets.{sheet_walk}
use Rattle.layout.specs.Shared.Mark.{first_count, mark_of}
use Rattle.layout.specs.Shared.Row.{reference_number, row_size, part_width, item_width}
use Rattle.layout.specs.Sheet.{Sheet}
use Rattle.layout.specs.Walk.{given, answer, up_to}
use Rattle.layout.specs.declared.RecordAt.{RecordAt}

-- s is read as a sheet of so many records at a setting
pub record AcceptedAt (s : List ℕ) (year count : ℕ) : Type 0 where
  pub sheet : Sheet
  pub is : answer (up_to year) (sheet_walk s) ≡ given sheet
  pub records : count ≡ length sheet.records

-- n records, one after another from a place on: each header and each total length is within s
unfoldable pub Hops : ℕ → ℕ → List ℕ → Type 0
Hops zero place s = Unit {0}
Hops (suc n) place s =
    (place + Field.size ≤ length s)
    × (place + number_in Field.total (drop place s) ≤ length s)
    × Hops n (place + number_in Field.total (drop place s)) s

-- the record at a place by its header, where it has so many numbers
abbrev pub record_by : ℕ → ℕ → Header → RecordAt
record_by place count h =
    record {
      place = place;
      total = h.total;
      code = h.code;
      in_group = h.in_group;
      group = h.group;
      reference = reference_number h.reference;
      generalisation = h.generalisation;
      word = h.word;
      parts = 1 + h.subobjects;
      items = (count - (row_size 1 0 + part_width * h.subobjects)) / item_width;
      mark = mark_of h.points;
      points = first_count h.points h.word;
    }
