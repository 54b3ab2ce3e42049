-- A cursor past a piece of the sheet, and the room that the piece needs. A piece has k bytes in the sheet and three lists in the table.
use Rattle.std.specs.Prelude.{List, ◌≡◌, ℕ, ◌+◌, ◌≤◌, length}
use Rattle.fields.specs.declared.cursors.Cursor.{Cursor}
use Rattle.layout.specs.Sheet.{Table}

abbrev pub moved : Cursor → ℕ → Table → Cursor
moved c k t =
    record {
      place = c.place + k;
      numbers = c.numbers + length t.numbers;
      elements = c.elements + length t.elements;
      bytes = c.bytes + length t.bytes;
    }

-- k bytes and the three lists of t, from c on, are within four lengths
pub record Room (c : Cursor) (k : ℕ) (t : Table) (xl tl el bl : ℕ) : Type 0 where
  pub place : c.place + k ≤ xl
  pub numbers : c.numbers + length t.numbers ≤ tl
  pub elements : c.elements + length t.elements ≤ el
  pub bytes : c.bytes + length t.bytes ≤ bl
