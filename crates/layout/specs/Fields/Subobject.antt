-- "Each subobject starts with N1 and N2, two bytes each." (01, Record)
use Rattle.std.specs.Prelude.{ℕ}
use Rattle.layout.specs.Bytes.{Field, field}

-- the size of the two together
abbrev pub size : ℕ
size = 4

abbrev pub n1 : Field
n1 = field 0 2

abbrev pub n2 : Field
n2 = field 2 2
