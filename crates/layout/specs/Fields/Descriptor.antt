-- "Descriptor, 52 bytes at 400 (000, table 2)" (01). Places are places of the sheet.
use Rattle.std.specs.Prelude.{ℕ, ◌-◌}
use Rattle.layout.specs.Bytes.{Field, field}

-- "400 identifier 0x00544144"
abbrev pub identifier : Field
identifier = field 400 4

abbrev pub identifier_is : ℕ
identifier_is = 0x00544144

-- "404 length 52"
abbrev pub own_length : Field
own_length = field 404 4

abbrev pub own_length_is : ℕ
own_length_is = 52

-- "408 designation, 32"
abbrev pub designation : Field
designation = field 408 32

-- "440 record count"
abbrev pub count : Field
count = field 440 4

-- "444 flags", "445 label coding", "446 secrecy", "447 bit 0 automatic GUID, bit 1 edit date": four bytes, carried
abbrev pub carried : Field
carried = field 444 4

abbrev pub flags : Field
flags = field 444 1

abbrev pub labels : Field
labels = field 445 1

abbrev pub secrecy : Field
secrecy = field 446 1

abbrev pub keeping : Field
keeping = field 447 1

-- "448 four zero bytes"
abbrev pub reserved : Field
reserved = field 448 4

-- a field of the carried bytes, counted from the first of them
abbrev pub in_carried : Field → Field
in_carried f = field (f.place - carried.place) f.width
