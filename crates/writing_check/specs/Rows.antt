-- A record's row in two steps: its nine numbers, and what stands inside it.
use Rattle.std.specs.Prelude.{List, [], ◌∷◌, ◌++◌, ℕ, ◌+◌, leb}
use Rattle.layout.specs.Layout.Sizes.{sum_by, item_bytes, part_bytes, subobject_bytes}
use Rattle.layout.specs.Refusals.{TABLE}
use Rattle.layout.specs.Shared.Reference.{reference_checks}
use Rattle.layout.specs.Shared.Row as Index
use Rattle.layout.specs.Sheet.{Record, Table}
use Rattle.layout.specs.Walk.{Check, must}
use Rattle.layout.specs.Writing.Rows.{RecordRow, name_rules, count_rules}
use Rattle.layout.specs.Writing.Tables.{join, joined, flatten_part, flatten_item}
use Rattle.writing_check.specs.declared.rows.Row.{Row}

abbrev pub row_of : Row → RecordRow
row_of a =
    record {
      code = a.code;
      in_group = a.in_group;
      group = a.group;
      reference = a.reference;
      reference_bytes = Index.reference_of a.reference;
      generalisation = a.generalisation;
      word = a.word;
      parts = a.parts;
      items = a.items;
      mark = a.mark;
    }

-- the checks on a row of which at least nine numbers are left
abbrev pub all_rules : RecordRow → ℕ → List Check
all_rules a left =
    (must (leb (Index.row_size a.parts a.items) left) TABLE 0 ∷ [])
    ++ (name_rules a ++ (reference_checks Index.reference Index.reference Index.reference a.reference_bytes ++ count_rules a))

-- what stands inside a record: its table, and how many bytes it has
abbrev pub inside_table : Record → Table
inside_table r = join (flatten_part r.first) (join (joined flatten_part r.subobjects) (joined flatten_item r.items))

abbrev pub inside_bytes : Record → ℕ
inside_bytes r = part_bytes r.reference r.first + sum_by (subobject_bytes r.reference) r.subobjects + sum_by item_bytes r.items
