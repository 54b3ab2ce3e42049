-- "Record (000, table 3)" (01): the header of a record, counted from the record's start.
use Rattle.std.specs.Prelude.{ℕ}
use Rattle.layout.specs.Bytes.{Field, field}

-- the header's own size; the metric follows
abbrev pub size : ℕ
size = 32

-- "+0 identifier 0x7FFF7FFF"
abbrev pub identifier : Field
identifier = field 0 4

abbrev pub identifier_is : ℕ
identifier_is = 0x7FFF7FFF

-- "+4 total length"
abbrev pub total : Field
total = field 4 4

-- "+8 metric length"
abbrev pub metric : Field
metric = field 8 4

-- "+12 class code"
abbrev pub code : Field
code = field 12 4

-- "+16 number in group"
abbrev pub in_group : Field
in_group = field 16 2

-- "+18 group number"
abbrev pub group : Field
group = field 18 2

-- "+20 to +22 reference bytes"
abbrev pub byte20 : Field
byte20 = field 20 1

abbrev pub byte21 : Field
byte21 = field 21 1

abbrev pub byte22 : Field
byte22 = field 22 1

-- "+23 generalisation"
abbrev pub generalisation : Field
generalisation = field 23 1

-- "+24 a word"
abbrev pub word : Field
word = field 24 4

-- "+28 subobjects"
abbrev pub subobjects : Field
subobjects = field 28 2

-- "+30 points"
abbrev pub points : Field
points = field 30 2
