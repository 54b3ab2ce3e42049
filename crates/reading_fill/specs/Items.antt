-- Items up to the end of the bytes, read without a test.
use Rattle.std.specs.Prelude.{List, ℕ}
use Rattle.reading_fill.specs.Pieces.{fill_in, fill_size}
use Rattle.layout.specs.Reading.Items.{item_in, item_size}
use Rattle.layout.specs.Sheet.{Item}

abbrev pub items_in : List ℕ → List Item
items_in xs = fill_in item_in item_size xs

abbrev pub items_size : List ℕ → ℕ
items_size xs = fill_size item_size xs
