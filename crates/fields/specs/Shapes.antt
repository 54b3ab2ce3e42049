-- What the reference bytes of a record say of each of its parts: element size, floating, three dimensions, text in the metric.
use Rattle.std.specs.Prelude.{Bool, true, false, cond, List, ℕ}
use Rattle.fields.specs.declared.shapes.Loop.{Loop}
use Rattle.fields.specs.declared.shapes.Loop.TheVariants as By
use Rattle.fields.specs.declared.shapes.Shape.{Shape}
use Rattle.layout.specs.Shared.Reference.{element_size, floating, three_dimensions, text_in_metric}
use Rattle.layout.specs.Shared.Widths.{element_widths, point_bytes}
use Rattle.layout.specs.Sheet.{Reference}

abbrev pub shape_of : Reference → Shape
shape_of r = record { size = element_size r; float = floating r; three = three_dimensions r; text = text_in_metric r }

-- how many elements a point has
abbrev pub dimensions : Bool → ℕ
dimensions true = 3
dimensions false = 2

abbrev pub widths_of : Shape → List ℕ
widths_of s = element_widths s.size s.float s.three

abbrev pub point_of : Shape → ℕ
point_of s = point_bytes s.size s.float s.three

-- the loop for elements that are all of one width, or for points of 2, 2 and 4 bytes
abbrev pub loop_by : Bool → Bool → Bool → Loop
loop_by size float three = cond size (cond float By.Eight By.Four) (cond float By.Four (cond three By.Points By.Two))

abbrev pub loop_of : Shape → Loop
loop_of s = loop_by s.size s.float s.three
