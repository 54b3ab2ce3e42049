-- A record, read without a test. Its parts are read from the bytes of its metric, its items from those after it.
use Rattle.std.specs.Prelude.{List, [], ◌∷◌, ℕ, ◌+◌, ◌≤◌, length, drop}
use Rattle.reading_fill.specs.Items.{items_in, items_size}
use Rattle.reading_fill.specs.Parts.{part_in, part_size, subobjects_in, subobjects_size}
use Rattle.fields.specs.Shapes.{shape_of}
use Rattle.reading_fill.specs.Pieces.{times_in, times_size}
use Rattle.fields.specs.declared.cursors.Cursor.{Cursor}
use Rattle.fields.specs.declared.shapes.Shape.{Shape}
use Rattle.layout.specs.Bytes.{number_in}
use Rattle.layout.specs.Fields.Header as Field
use Rattle.layout.specs.Reading.Records.{Header, header_in, metric_in, semantics_in, record_from}
use Rattle.layout.specs.Shared.Mark.{first_count, mark_of}
use Rattle.layout.specs.Shared.Row.{reference_number}
use Rattle.layout.specs.Sheet.{Part, Record, Table}
use Rattle.layout.specs.Writing.Tables.{join, joined, flatten_part, flatten_item}

abbrev pub shape_in : Header → Shape
shape_in h = shape_of h.reference

abbrev pub first_in : Header → ℕ
first_in h = first_count h.points h.word

-- the parts after the first, where the metric's bytes are ys
abbrev pub later_in : Shape → ℕ → ℕ → List ℕ → List Part
later_in s count n ys = subobjects_in s n (drop (part_size s count ys) ys)

unfoldable pub record_of : Header → List ℕ → List ℕ → Record
record_of h metric after =
    record_from h (record { first = part_in (shape_in h) (first_in h) metric; second = later_in (shape_in h) (first_in h) h.subobjects metric }) (items_in after)

abbrev pub record_in : List ℕ → Record
record_in xs = record_of (header_in xs) (metric_in (header_in xs) xs) (semantics_in (header_in xs) xs)

abbrev pub record_size : List ℕ → ℕ
record_size xs = number_in Field.total xs

-- n records, one after another
abbrev pub records_in : ℕ → List ℕ → List Record
records_in n xs = times_in record_in record_size n xs

abbrev pub records_size : ℕ → List ℕ → ℕ
records_size n xs = times_size record_size n xs

-- the bytes and the table of a first part and n later ones
unfoldable pub metric_size : Shape → ℕ → ℕ → List ℕ → ℕ
metric_size s count n ys = part_size s count ys + subobjects_size s n (drop (part_size s count ys) ys)

unfoldable pub metric_table : Shape → ℕ → ℕ → List ℕ → Table
metric_table s count n ys = join (flatten_part (part_in s count ys)) (joined flatten_part (later_in s count n ys))

-- the nine numbers of a record with so many items
unfoldable pub row_of : Header → ℕ → List ℕ
row_of h items =
    h.code ∷ h.in_group ∷ h.group ∷ reference_number h.reference ∷ h.generalisation ∷ h.word ∷ (1 + h.subobjects) ∷ items ∷ mark_of h.points ∷ []

-- the same of the record that xs start with and whose header is h; and of its items
abbrev pub parts_size_in : Header → List ℕ → ℕ
parts_size_in h xs = metric_size (shape_in h) (first_in h) h.subobjects (metric_in h xs)

abbrev pub parts_table_in : Header → List ℕ → Table
parts_table_in h xs = metric_table (shape_in h) (first_in h) h.subobjects (metric_in h xs)

abbrev pub items_size_in : Header → List ℕ → ℕ
items_size_in h xs = items_size (semantics_in h xs)

abbrev pub items_table_in : Header → List ℕ → Table
items_table_in h xs = joined flatten_item (items_in (semantics_in h xs))

-- what an accepted record keeps: its metric and its items stay within their own bytes, and the record within xs
pub record RecordFits (xs : List ℕ) : Type 0 where
  pub low : 32 + (header_in xs).metric ≤ (header_in xs).total
  pub high : (header_in xs).total ≤ length xs
  pub parts : parts_size_in (header_in xs) xs ≤ (header_in xs).metric
  pub items : items_size_in (header_in xs) xs ≤ length (semantics_in (header_in xs) xs)

-- the cursor with its place counted from the start of a part of the bytes
abbrev pub inside : Cursor → Cursor
inside c = record { place = 0; numbers = c.numbers; elements = c.elements; bytes = c.bytes }
