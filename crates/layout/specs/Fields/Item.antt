-- "Each item: code (2), type (1), scale (1), value." (01, Record) Counted from the item's start.
use Rattle.std.specs.Prelude.{ℕ}
use Rattle.layout.specs.Bytes.{Field, field}

-- the size of the item's head: code, type, scale
abbrev pub size : ℕ
size = 4

abbrev pub code : Field
code = field 0 2

abbrev pub type : Field
type = field 2 1

abbrev pub scale : Field
scale = field 3 1

-- "128: scale 0xFF, then a 4-byte length"
abbrev pub long_length : Field
long_length = field 4 4
