-- A filler that takes k bytes writes a table's three lists at the cursor's places and gives the cursor past them.
use Rattle.std.specs.Prelude.{List, ◌≡◌, ℕ, length, drop}
use Rattle.std.proofs.lemmas.List.Edits.{sets}
use Rattle.reading_fill.specs.declared.filler.Filler.{Filler}
use Rattle.fields.specs.Cursors.{Room}
use Rattle.fields.specs.declared.cursors.Cursor.{Cursor}
use Rattle.layout.specs.Sheet.{Table}

-- the bytes from the cursor's place on
abbrev pub ahead : Cursor → List ℕ → List ℕ
ahead c xs = drop c.place xs

-- k bytes and the three lists of t, from c on, are within a length and the slices
abbrev pub HasRoom : Cursor → ℕ → Table → ℕ → Filler → Type 0
HasRoom c k t xl f = Room c k t xl (length f.numbers.now) (length f.elements.now) (length f.bytes.now)

-- the same for items, which have no elements: nothing is asked of that pool
abbrev pub HasFlatRoom : Cursor → ℕ → Table → ℕ → Filler → Type 0
HasFlatRoom c k t xl f = Room c k t xl (length f.numbers.now) c.elements (length f.bytes.now)

-- the slices are those that they were, whatever they hold
pub record Same (from to : Filler) : Type 0 where
  pub numbers : to.numbers.ghost_name ≡ from.numbers.ghost_name
  pub elements : to.elements.ghost_name ≡ from.elements.ghost_name
  pub bytes : to.bytes.ghost_name ≡ from.bytes.ghost_name

-- the three lists of t are written at c's places, and nothing else is changed
pub record Fills (c : Cursor) (t : Table) (from to : Filler) : Type 0 where
  pub numbers : to.numbers.now ≡ sets from.numbers.now c.numbers t.numbers
  pub elements : to.elements.now ≡ sets from.elements.now c.elements t.elements
  pub bytes : to.bytes.now ≡ sets from.bytes.now c.bytes t.bytes
  pub same : Same from to
