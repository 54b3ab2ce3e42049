-- Where a writer stands in a table, and past a piece of it.
use Rattle.std.specs.Prelude.{List, ℕ, length}
use Rattle.writing_emit.specs.declared.lists.Lists.{Lists}
use Rattle.fields.specs.Cursors as Place
use Rattle.fields.specs.declared.cursors.Cursor.{Cursor}
use Rattle.layout.specs.Sheet.{Table}
use Rattle.layout.specs.Writing.Tables.{table}
use Rattle.laws.proofs.Writing.Turns.{table_at}

-- the table that the lent lists hold
abbrev pub table_of : Lists → Table
table_of l = table l.numbers.now l.elements.now l.bytes.now

-- what is left of a table from the cursor on
abbrev pub ahead : Cursor → Table → Table
ahead c t = table_at t c.numbers c.elements c.bytes

-- the cursor past a piece that has the lists of e in the table and the bytes xs in the sheet
abbrev pub moved : Cursor → Table → List ℕ → Cursor
moved c e xs = Place.moved c (length xs) e

-- the lists of e, from c on, are within those of t, and so many bytes within a length
abbrev pub Room : Cursor → Table → ℕ → Table → ℕ → Type 0
Room c e k t ol = Place.Room c k e ol (length t.numbers) (length t.elements) (length t.bytes)
