-- The writer's checks on a record's row, and the rows up to the table's end. (01, The record table; 02, request 2)
use Rattle.std.specs.Prelude.{ℕ, zero, suc, ◌+◌, ◌-◌, ◌*◌, ◌^◌, not, ◌&&◌, List, [], ◌∷◌, leb, ltb, length, drop}
use Rattle.layout.specs.Bytes.{agree, some}
use Rattle.layout.specs.Fields.Header
use Rattle.layout.specs.Refusals.{TABLE}
use Rattle.layout.specs.Shared.Mark.{has_mark}
use Rattle.layout.specs.Shared.Reference.{reference_checks, semantics}
use Rattle.layout.specs.Shared.Row
use Rattle.layout.specs.Sheet.{Item, Part, Reference, Record, Table}
use Rattle.layout.specs.Walk.{Walk, Check, must, dated, checks, ◌>>=◌, ◌>>◌, ends}
use Rattle.layout.specs.Writing.Items.{fits_field, take_item}
use Rattle.layout.specs.Writing.Parts.{first_rules, later_rules, take_part}
use Rattle.layout.specs.Writing.Tables.{table, taken, Taker, many}
use Rattle.layout.specs.Years.{since, mark_65535}

-- a row's nine numbers; the reference number is there whole and as its three bytes
pub record RecordRow : Type 0 where
  pub code : ℕ
  pub in_group : ℕ
  pub group : ℕ
  pub reference : ℕ
  pub reference_bytes : Reference
  pub generalisation : ℕ
  pub word : ℕ
  pub parts : ℕ
  pub items : ℕ
  pub mark : ℕ

abbrev pub row_in : List ℕ → RecordRow
row_in ns =
    record {
      code = Row.nth ns Row.code;
      in_group = Row.nth ns Row.in_group;
      group = Row.nth ns Row.group;
      reference = Row.nth ns Row.reference;
      reference_bytes = Row.reference_of (Row.nth ns Row.reference);
      generalisation = Row.nth ns Row.generalisation;
      word = Row.nth ns Row.word;
      parts = Row.nth ns Row.parts;
      items = Row.nth ns Row.items;
      mark = Row.nth ns Row.mark;
    }

-- where so many numbers are left: "TABLE: [..] a record row with fewer than eight numbers left, or fewer than its parts and items call
-- for (its first index, before its other checks)"; eight are nine now. The sum is mathematical: it does not wrap.
unfoldable pub room_rules : RecordRow → ℕ → List Check
room_rules a left = must (leb Row.row_width left) TABLE 0 ∷ must (leb (Row.row_size a.parts a.items) left) TABLE 0 ∷ []

-- "TABLE: a number too large for its field"; the reference number has three bytes
unfoldable pub name_rules : RecordRow → List Check
name_rules a =
    fits_field Header.code a.code Row.code
    ∷ fits_field Header.in_group a.in_group Row.in_group
    ∷ fits_field Header.group a.group Row.group
    ∷ must (ltb a.reference (256 ^ 3)) TABLE Row.reference
    ∷ []

-- "14 for a mark over 1"; "The mark's year stays 2004, and the writer's TOO NEW now stands at the mark's number." (02, request 2)
abbrev pub mark_rules : ℕ → List Check
mark_rules mark = must (leb mark 1) TABLE Row.mark ∷ dated (has_mark mark) (since mark_65535) Row.mark ∷ []

-- "TABLE: [..] items not agreeing with the flag, [..] parts 0"; parts are 1 + subobjects, which have two bytes
unfoldable pub count_rules : RecordRow → List Check
count_rules a =
    fits_field Header.generalisation a.generalisation Row.generalisation
    ∷ fits_field Header.word a.word Row.word
    ∷ must (leb 1 a.parts && leb a.parts (256 ^ (Header.subobjects).width)) TABLE Row.parts
    ∷ must (agree (semantics a.reference_bytes) (leb 1 a.items)) TABLE Row.items
    ∷ mark_rules a.mark

-- "RESERVED, TOO NEW, NOT CARRIED stand at the reference number, byte by byte as in reading."
unfoldable pub row_rules : RecordRow → ℕ → ℕ → Walk (Unit {0})
row_rules a index left = do
  checks index (room_rules a left)
  checks index (name_rules a)
  checks index (reference_checks Row.reference Row.reference Row.reference a.reference_bytes)
  checks index (count_rules a)

-- the record that a row, its parts and its items make
abbrev pub record_from : RecordRow → Part → List Part → List Item → Record
record_from a first subobjects items =
    record {
      code = a.code;
      in_group = a.in_group;
      group = a.group;
      reference = a.reference_bytes;
      generalisation = a.generalisation;
      word = a.word;
      mark = a.mark;
      first = first;
      subobjects = subobjects;
      items = items;
    }

-- the parts and items of a row, at the index after its nine numbers
unfoldable pub take_inside : RecordRow → Taker Record
take_inside a index t = do
  let r : Reference = a.reference_bytes
  first ← take_part r (first_rules a.mark a.word) index t
  later ← many (a.parts - 1) Row.part_width (take_part r (later_rules (has_mark a.mark))) (index + Row.part_width) first.left
  items ← many a.items Row.item_width take_item (index + Row.part_width * a.parts) later.left
  ends (taken (record_from a first.value later.value items.value) items.left)

unfoldable pub row_walk : Taker Record
row_walk index t = do
  let a : RecordRow = row_in t.numbers
  row_rules a index (length t.numbers)
  take_inside a (index + Row.row_width) (table (drop Row.row_width t.numbers) t.elements t.bytes)

-- "TABLE: [..] a pool left over (the table's length)"
unfoldable pub end_rules : List ℕ → List ℕ → List Check
end_rules es pool = must (not (some es) && not (some pool)) TABLE 0 ∷ []

-- the rows from an index on; there are at most `most`, for a row takes nine numbers at least
abbrev pub rows_from : ℕ → ℕ → List ℕ → List ℕ → List ℕ → Walk (List Record)
rows_from zero index ns es pool = do
  checks index (end_rules es pool)
  ends []
rows_from (suc most) index [] es pool = do
  checks index (end_rules es pool)
  ends []
rows_from (suc most) index (n ∷ ns) es pool = do
  row ← row_walk index (table (n ∷ ns) es pool)
  let next : ℕ = index + Row.row_size (1 + length row.value.subobjects) (length row.value.items)
  more ← rows_from most next row.left.numbers row.left.elements row.left.bytes
  ends (row.value ∷ more)

unfoldable pub rows_walk : Table → Walk (List Record)
rows_walk t = rows_from (length t.numbers) 0 t.numbers t.elements t.bytes
