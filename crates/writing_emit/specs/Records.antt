-- The header of a record, from the numbers of its row in the table.
use Rattle.std.specs.Prelude.{List, ◌++◌, ℕ, ◌+◌, ◌-◌, ◌≤◌}
use Rattle.layout.specs.Bytes.{stored}
use Rattle.layout.specs.Fields.Header
use Rattle.layout.specs.Layout.Fine.{Fits}
use Rattle.layout.specs.Shared.Mark.{points_of}
use Rattle.layout.specs.Shared.Row

-- identifier and lengths, of a record whose metric and semantics have so many bytes
unfoldable pub lengths_of : ℕ → ℕ → List ℕ
lengths_of metric semantics =
    stored Header.identifier Header.identifier_is
    ++ stored Header.total (Header.size + metric + semantics)
    ++ stored Header.metric metric

-- code, number in group, group number
unfoldable pub names_of : List ℕ → List ℕ
names_of ns =
    stored Header.code (Row.nth ns Row.code)
    ++ stored Header.in_group (Row.nth ns Row.in_group)
    ++ stored Header.group (Row.nth ns Row.group)

-- reference bytes, generalisation, the word at +24
unfoldable pub reference_and_word : List ℕ → List ℕ
reference_and_word ns =
    stored Header.byte20 (Row.reference_of (Row.nth ns Row.reference)).byte20
    ++ stored Header.byte21 (Row.reference_of (Row.nth ns Row.reference)).byte21
    ++ stored Header.byte22 (Row.reference_of (Row.nth ns Row.reference)).byte22
    ++ stored Header.generalisation (Row.nth ns Row.generalisation)
    ++ stored Header.word (Row.nth ns Row.word)

-- the index of the first part's points in the row
abbrev pub first_points : ℕ
first_points = Row.row_width + Row.points

-- subobjects and points; "parts (1 + subobjects)"
unfoldable pub counts_of : List ℕ → List ℕ
counts_of ns =
    stored Header.subobjects (Row.nth ns Row.parts - 1) ++ stored Header.points (points_of (Row.nth ns Row.mark) (Row.nth ns first_points))

unfoldable pub header_of : List ℕ → ℕ → ℕ → List ℕ
header_of ns metric semantics = lengths_of metric semantics ++ names_of ns ++ reference_and_word ns ++ counts_of ns

-- what an accepted row keeps: each number fits its field
pub record RowFits (ns : List ℕ) : Type 0 where
  pub code : Fits Header.code (Row.nth ns Row.code)
  pub in_group : Fits Header.in_group (Row.nth ns Row.in_group)
  pub group : Fits Header.group (Row.nth ns Row.group)
  pub generalisation : Fits Header.generalisation (Row.nth ns Row.generalisation)
  pub word : Fits Header.word (Row.nth ns Row.word)
  pub some : 1 ≤ Row.nth ns Row.parts
  pub subobjects : Fits Header.subobjects (Row.nth ns Row.parts - 1)
  pub points : Fits Header.points (points_of (Row.nth ns Row.mark) (Row.nth ns first_points))
