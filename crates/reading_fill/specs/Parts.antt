-- The parts of a metric, read without a test.
use Rattle.std.specs.Prelude.{Bool, true, false, List, [], ℕ, ◌+◌, ◌*◌, take, drop}
use Rattle.reading_fill.specs.Pieces.{times_in, times_size}
use Rattle.fields.specs.declared.shapes.Shape.{Shape}
use Rattle.fields.specs.Shapes.{widths_of, point_of}
use Rattle.layout.specs.Bytes.{number, number_in, numbers, repeat}
use Rattle.layout.specs.Fields.Subobject
use Rattle.layout.specs.Shared.Mark.{later_count}
use Rattle.layout.specs.Sheet.{Part}

abbrev pub text_in : Bool → List ℕ → List ℕ
text_in false xs = []
text_in true xs = take (number 1 xs) (drop 1 xs)

abbrev pub text_size : Bool → List ℕ → ℕ
text_size false xs = 0
text_size true xs = number 1 xs + 2

unfoldable pub part_in : Shape → ℕ → List ℕ → Part
part_in s count xs = record { points = count; elements = numbers (repeat count (widths_of s)) xs; text = text_in s.text (drop (count * point_of s) xs) }

unfoldable pub part_size : Shape → ℕ → List ℕ → ℕ
part_size s count xs = count * point_of s + text_size s.text (drop (count * point_of s) xs)

-- the count of a later part
abbrev pub count_in : List ℕ → ℕ
count_in xs = later_count (number_in Subobject.n1 xs) (number_in Subobject.n2 xs)

unfoldable pub subobject_in : Shape → List ℕ → Part
subobject_in s xs = part_in s (count_in xs) (drop Subobject.size xs)

unfoldable pub subobject_size : Shape → List ℕ → ℕ
subobject_size s xs = Subobject.size + part_size s (count_in xs) (drop Subobject.size xs)

-- n later parts, one after another
abbrev pub subobjects_in : Shape → ℕ → List ℕ → List Part
subobjects_in s n xs = times_in (subobject_in s) (subobject_size s) n xs

abbrev pub subobjects_size : Shape → ℕ → List ℕ → ℕ
subobjects_size s n xs = times_size (subobject_size s) n xs
