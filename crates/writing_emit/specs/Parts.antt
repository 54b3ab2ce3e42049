-- The parts of a metric by the shape of their record.
use Rattle.std.specs.Prelude.{List, ◌++◌, ℕ, ◌<◌, ◌^◌}
use Rattle.writing_emit.specs.Pieces.{Counted, pair_table, Both, pair_bytes}
use Rattle.fields.specs.Shapes.{widths_of}
use Rattle.fields.specs.declared.shapes.Shape.{Shape}
use Rattle.layout.specs.Bytes.{FitAll, flat, repeat, stored, stored_all}
use Rattle.layout.specs.Fields.Subobject
use Rattle.layout.specs.Layout.Encode.{encode_text}
use Rattle.layout.specs.Layout.Fine.{FineLabel}
use Rattle.layout.specs.Shared.Mark.{n1_of, n2_of}
use Rattle.layout.specs.Sheet.{Part, Table}
use Rattle.layout.specs.Writing.Tables.{joined, flatten_part}

-- what an accepted part keeps; a count has 4 bytes, as the word has
pub record PartFits (s : Shape) (a : Part) : Type 0 where
  pub points : a.points < 2 ^ 32
  pub elements : FitAll (repeat a.points (widths_of s)) a.elements
  pub label : FineLabel s.text a.text

-- the bytes of a part, and of a later one
abbrev pub part_bytes : Shape → Part → List ℕ
part_bytes s a = stored_all (repeat a.points (widths_of s)) a.elements ++ encode_text s.text a.text

abbrev pub subobject_bytes : Shape → Part → List ℕ
subobject_bytes s a = stored Subobject.n1 (n1_of a.points) ++ stored Subobject.n2 (n2_of a.points) ++ part_bytes s a

-- a metric: the first part, and n later ones
abbrev pub metric_table : Part × List Part → Table
metric_table = pair_table flatten_part (joined flatten_part)

abbrev pub MetricFits : Shape → ℕ → Part × List Part → Type 0
MetricFits s n = Both (PartFits s) (Counted n (PartFits s))

abbrev pub metric_bytes : Shape → Part × List Part → List ℕ
metric_bytes s = pair_bytes (part_bytes s) (flat (subobject_bytes s))
